use Rattle.std.proofs.Common.{◌≡◌, true, sym, subst}
use Rattle.og_native.specs.Answered.{Answers}
use Rattle.og_native.specs.Ports.{are_outputs, are_feedback}
use Rattle.og_native.specs.Shipped.{ports_of, played, payoffs}
use Rattle.og_native.proofs.Boxes.{box_gives, box_tells}
use Rattle.og_native.proofs.Inside.{plays_inside, pays_inside}
use Rattle.og.proofs.main.OwnLists.{own-1, at-1-1, own-2, at-2-1}
use Rattle.og.proofs.main.Goals as goal

pub new-requires-in-mechanisms-2-clause-play_can_tell : goal.new-requires-in-mechanisms-2-clause-play_can_tell
new-requires-in-mechanisms-2-clause-play_can_tell c = λ a p r h d told.
    box_tells own-1 at-1-1 _ _ _ c.into_dyn_box.ensures.1 (a, (p, tt)) r
    (a, subst (λ v. Answers (played v.0 p.now) r) (sym c.in-Ok.ensures.ok) told)

pub new-requires-in-mechanisms-2-clause-play_inside : goal.new-requires-in-mechanisms-2-clause-play_inside
new-requires-in-mechanisms-2-clause-play_inside c = λ a xs ys h told.
    subst (λ ports. are_outputs ports ys ≡ true) (sym c.in-Ok-ports.ensures.same)
    (subst (λ v. are_outputs (ports_of v.0) ys ≡ true) c.in-Ok.ensures.ok
    (plays_inside _ xs.now ys (box_gives own-1 at-1-1 _ _ _ c.into_dyn_box.ensures.1 (a, (xs, tt)) _ told).1))

pub new-requires-in-mechanisms-2-clause-pay_can_tell : goal.new-requires-in-mechanisms-2-clause-pay_can_tell
new-requires-in-mechanisms-2-clause-pay_can_tell c = λ a p q r h d told.
    box_tells own-2 at-2-1 _ _ _ c.into_dyn_box-in-mechanisms.ensures.1 (a, (p, (q, tt))) r
    (a, subst (λ v. Answers (payoffs v.0 p.now q.now) r) (sym c.in-Ok-new.ensures.ok) told)

pub new-requires-in-mechanisms-2-clause-pay_inside : goal.new-requires-in-mechanisms-2-clause-pay_inside
new-requires-in-mechanisms-2-clause-pay_inside c = λ a xs rs ys h told.
    subst (λ ports. are_feedback ports ys ≡ true) (sym c.in-Ok-ports.ensures.same)
    (subst (λ v. are_feedback (ports_of v.0) ys ≡ true) c.in-Ok-new.ensures.ok (pays_inside _ xs.now rs.now ys
    (box_gives own-2 at-2-1 _ _ _ c.into_dyn_box-in-mechanisms.ensures.1 (a, (xs, (rs, tt))) _ told).1))
