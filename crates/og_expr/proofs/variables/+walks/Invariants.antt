use Rattle.std.proofs.Common.{◌≡◌, ◌++◌, take, []}
use Rattle.std.specs.Prelude.{flat_map}
use Rattle.og_expr.specs.Parts.{addend_part, factor_part}
use Rattle.og_expr.specs.Levels.{addend_with, factor_with}
use Rattle.og_expr.specs.Variables.{numbers_of}
use Rattle.og_expr.proofs.variables.+walks.Given as goal

abbrev pub invariant-parts-those : goal.invariant-parts-those
invariant-parts-those l = l.found.items ≡ l.initial.found.items ++ flat_map numbers_of (take l.e-index l.those)

abbrev pub invariant-addends-those : goal.invariant-addends-those
invariant-addends-those l =
    l.found.items ≡ l.initial.found.items
    ++ flat_map (λ a. addend_part (addend_with numbers_of a)) (take l.one-index l.those)

abbrev pub invariant-factors-those : goal.invariant-factors-those
invariant-factors-those l =
    l.found.items ≡ l.initial.found.items
    ++ flat_map (λ a. factor_part [] (factor_with numbers_of a)) (take l.one-index l.those)

abbrev pub invariant-choices-those : goal.invariant-choices-those
invariant-choices-those l =
    l.found.items ≡ l.initial.found.items
    ++ flat_map (λ c. numbers_of c.cond ++ numbers_of c.body) (take l.one-index l.those)

abbrev pub invariant-keys-those : goal.invariant-keys-those
invariant-keys-those l =
    l.found.items ≡ l.initial.found.items
    ++ flat_map (λ key. numbers_of key.expr) (take l.one-index l.those)
