use Rattle.std.proofs.Common.{List, ℕ, [], ◌∷◌, ◌++◌, ◌∙◌, ap, sym, take, map}
use Rattle.std.specs.Prelude.{flat_map}
use Rattle.std.proofs.lemmas.List.{flat_map_more, take_more}
use Rattle.og_small.proofs.rules.cross.Goals as goal

pub column-preserved : goal.column-preserved
column-preserved c =
    let before : List ℕ → List (List (List ℕ)) = λ name. map (λ names. name ∷ names) c.args.rest.now in
    let column : List (List ℕ) = c.args.column.now in
    c.in_ok-prepend_to_each.ensures
    ∙ ap (λ name. c.column.all ++ before name) c.as_slice.ensures
    ∙ ap (λ all. all ++ before c.name-item.result) c.column.invariant
    ∙ flat_map_more before [] (take c.column.name-index column) c.name-item.result
    ∙ ap (flat_map before) (sym (take_more column c.column.name-index c.name-item.result c.column-test.true
    ∙ ap (λ name. take c.column.name-index column ++ name ∷ []) (sym c.name-item.is)))
