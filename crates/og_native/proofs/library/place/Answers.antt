use Rattle.std.proofs.Common.{nat_eq, ap, sym, ◌∙◌, arith}
use Rattle.std.specs.Cmp.Lexicographic.{pointwise}
use Rattle.std.proofs.lemmas.List.{length-map}
use Rattle.og_native.proofs.NamesLaws.{first_at, none_at, fails_more, map_at}
use Rattle.og_native.proofs.library.place.Goals as goal

pub returns-then-eq : goal.returns-then-eq
returns-then-eq g c = sym (first_at _ _ _ _ c.places.invariant
    (map_at (λ b. b.name) c.args.blocks.now c.places.at _ c.places-test.true c.index-blocks-at.is)
    (ap (λ n. pointwise nat_eq n c.args.name.now) (sym c.name.ensures) ∙ sym c.if-eq.ensures))

pub places-preserved : goal.places-preserved
places-preserved g c = fails_more _ _ _ _ c.places.invariant
    (map_at (λ b. b.name) c.args.blocks.now c.places.at _ c.places-test.true c.index-blocks-at.is)
    (ap (λ n. pointwise nat_eq n c.args.name.now) (sym c.name.ensures) ∙ sym c.if-eq.ensures)

pub returns : goal.returns
returns g c =
    let many = length-map c.args.blocks.now (λ b. b.name) in
    sym (none_at _ _ c.places.at (omega (arith, many, c.places-test.false)) c.places.invariant)
