use Rattle.std.proofs.Common.{◌≡◌, ◌++◌, map, drop}
use Rattle.std.specs.Option.{option_map}
use Rattle.og_expr.specs.Values.{any_of, all_of, first_chosen, sum_from, product_from, value_of}
use Rattle.og_expr.specs.Types.{each_of}
use Rattle.og_expr.specs.Levels.{addend_with, factor_with, choice_with, key_with}
use Rattle.og_expr.proofs.evaluation.+values.Given as goal

abbrev pub invariant-all_of-parts : goal.invariant-all_of-parts
invariant-all_of-parts l = all_of (map (value_of l.env) (drop l.part-index l.parts)) ≡ all_of (map (value_of l.env) l.parts)

abbrev pub invariant-any_of-parts : goal.invariant-any_of-parts
invariant-any_of-parts l = any_of (map (value_of l.env) (drop l.part-index l.parts)) ≡ any_of (map (value_of l.env) l.parts)

abbrev pub invariant-first_chosen-parts : goal.invariant-first_chosen-parts
invariant-first_chosen-parts l =
    first_chosen (map (choice_with (value_of l.env)) (drop l.part-index l.part-items)) ≡ first_chosen (map (choice_with (value_of l.env)) l.parts)

abbrev pub invariant-key_values-parts : goal.invariant-key_values-parts
invariant-key_values-parts l =
    option_map (λ vs. l.all ++ vs) (each_of (map (λ key. key.expr) (map (key_with (value_of l.env)) (drop l.part-index l.part-items))))
    ≡ each_of (map (λ key. key.expr) (map (key_with (value_of l.env)) l.parts))

abbrev pub invariant-product_from-parts : goal.invariant-product_from-parts
invariant-product_from-parts l =
    product_from l.total (map (factor_with (value_of l.env)) (drop l.part-index l.parts)) ≡ product_from l.fn.first (map (factor_with (value_of l.env)) l.parts)

abbrev pub invariant-sum_from-parts : goal.invariant-sum_from-parts
invariant-sum_from-parts l =
    sum_from l.total (map (addend_with (value_of l.env)) (drop l.part-index l.parts)) ≡ sum_from l.fn.first (map (addend_with (value_of l.env)) l.parts)

abbrev pub invariant-values-parts : goal.invariant-values-parts
invariant-values-parts l =
    option_map (λ vs. l.all ++ vs) (each_of (map (value_of l.env) (drop l.part-index l.parts))) ≡ each_of (map (value_of l.env) l.parts)
