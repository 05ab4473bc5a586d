use Rattle.std.proofs.Common.{ap, Some, sym, ◌∙◌, arith}
use Rattle.std.proofs.lemmas.List.{length-map}
use Rattle.og_native.specs.Library.{place_of}
use Rattle.og_native.proofs.NamesLaws.{map_at, map_take, repeats, stay_distinct, all_distinct}
use Rattle.og_native.proofs.library.repeated.Goals as goal

pub returns-in-Some : goal.returns-in-Some
returns-in-Some g c =
    repeats _ c.name-name.result.now c.in-Some.field-0 c.places.at c.places.invariant
    (map_at (λ b. b.name) c.args.blocks.now c.places.at _ c.places-test.true c.index-blocks-at.is
    ∙ ap Some (sym c.name-name.ensures))
    (ap (place_of c.name-name.result.now) (sym (map_take (λ b. b.name) c.places.at c.args.blocks.now))
    ∙ sym c.place.ensures ∙ c.in-Some.is)

pub places-preserved : goal.places-preserved
places-preserved g c =
    stay_distinct _ c.name-name.result.now c.places.at c.places.invariant
    (map_at (λ b. b.name) c.args.blocks.now c.places.at _ c.places-test.true c.index-blocks-at.is
    ∙ ap Some (sym c.name-name.ensures))
    (ap (place_of c.name-name.result.now) (sym (map_take (λ b. b.name) c.places.at c.args.blocks.now))
    ∙ sym c.place.ensures ∙ c.in_default.is)

pub returns : goal.returns
returns g c =
    let many = length-map c.args.blocks.now (λ b. b.name) in
    all_distinct _ c.places.at (omega (arith, many, c.places-test.false)) c.places.invariant
