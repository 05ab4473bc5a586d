use Rattle.std.proofs.Common.{◌≡◌, map, drop}
use Rattle.og_typing.specs.Levels.{sum_with, product_with, arm_with, key_with, row_with}
use Rattle.og_typing.specs.Scopes.{names_of}
use Rattle.og_typing.specs.Sizes.{with_parts, with_arguments, sum_count, product_count, arm_count, key_count, row_count, nodes_with}
use Rattle.og_typing.proofs.sizes.+sizing.Given as goal

abbrev pub invariant-with_arguments-arguments : goal.invariant-with_arguments-arguments
invariant-with_arguments-arguments l =
    with_arguments (names_of l.scope) l.uses l.at l.found (map (nodes_with l.each) (drop l.at l.args))
    ≡ with_arguments (names_of l.scope) l.uses 0 l.initial.found (map (nodes_with l.each) l.args)

abbrev pub invariant-with_parts-parts : goal.invariant-with_parts-parts
invariant-with_parts-parts l =
    with_parts (λ count. count (names_of l.scope)) l.found (map (nodes_with l.each) (drop l.part-index l.parts))
    ≡ with_parts (λ count. count (names_of l.scope)) 1 (map (nodes_with l.each) l.parts)

abbrev pub invariant-with_addends-rest : goal.invariant-with_addends-rest
invariant-with_addends-rest l =
    with_parts (sum_count (names_of l.scope)) l.found (map (sum_with (nodes_with l.each)) (drop l.addend-index l.rest))
    ≡ with_parts (sum_count (names_of l.scope)) l.initial.found (map (sum_with (nodes_with l.each)) l.rest)

abbrev pub invariant-with_factors-rest : goal.invariant-with_factors-rest
invariant-with_factors-rest l =
    with_parts (product_count (names_of l.scope)) l.found (map (product_with (nodes_with l.each)) (drop l.factor-index l.rest))
    ≡ with_parts (product_count (names_of l.scope)) l.initial.found (map (product_with (nodes_with l.each)) l.rest)

abbrev pub invariant-with_arms-arms : goal.invariant-with_arms-arms
invariant-with_arms-arms l =
    with_parts (arm_count (names_of l.scope)) l.found (map (arm_with (nodes_with l.each)) (drop l.arm-index l.arms))
    ≡ with_parts (arm_count (names_of l.scope)) 1 (map (arm_with (nodes_with l.each)) l.arms)

abbrev pub invariant-with_keys-keys : goal.invariant-with_keys-keys
invariant-with_keys-keys l =
    with_parts (key_count (names_of l.scope)) l.found (map (key_with (nodes_with l.each)) (drop l.key-index l.keys))
    ≡ with_parts (key_count (names_of l.scope)) 1 (map (key_with (nodes_with l.each)) l.keys)

abbrev pub invariant-with_rows-rows : goal.invariant-with_rows-rows
invariant-with_rows-rows l =
    with_parts (row_count (names_of l.scope)) l.found (map (row_with (nodes_with l.each)) (drop l.row-index l.rows))
    ≡ with_parts (row_count (names_of l.scope)) l.initial.found (map (row_with (nodes_with l.each)) l.rows)
