use Rattle.std.proofs.Common.{◌∙◌, sym, ap, arith, rules, length}
use Rattle.std.proofs.lemmas.List.{length-map}
use Rattle.og_types.specs.Ty.{join}
use Rattle.og_types.proofs.Joins.{joins_goes, joins_stops, joins_short}
use Rattle.og_types.proofs.ty.+joining.Goals as goal

pub join_all-returns-then-len : goal.join_all-returns-then-len
join_all-returns-then-len t c = joins_short _ c.args.with.now (λ e. c.if-len.true (c.len.ensures ∙ sym (length-map c.args.types.now join) ∙ e ∙ sym c.len-2.ensures))

pub join_all-returns-in-None-2 : goal.join_all-returns-in-None-2
join_all-returns-in-None-2 t c =
    joins_stops c.args.types.now c.args.with.now c.types.all c.types.at c.ty-item.result c.in-Some.other.now (omega (arith, ap length c.as_slice-ty-items.ensures)) (cc) (sym c.in-Some.ensures.value) (sym c.in_ok-joined-in-Some.ensures ∙ c.in-None-2.is) ∙ c.types.invariant

pub join_all-types-preserved : goal.join_all-types-preserved
join_all-types-preserved t c =
    joins_goes c.args.types.now c.args.with.now c.types.all c.add.new.self c.types.at c.ty-item.result c.in-Some.other.now c.in-Some-2.joined (omega (arith, ap length c.as_slice-ty-items.ensures)) (cc) (sym c.in-Some.ensures.value) (sym c.in_ok-joined-in-Some.ensures ∙ c.in-Some-2.is) (search rules) ∙ c.types.invariant
