use Rattle.std.proofs.Common.{◌≡◌, [], map, drop}
use Rattle.og_typing.specs.Levels.{sum_with, product_with, arm_with, key_with, row_with}
use Rattle.og_inlining.specs.Steps.{each_of}
use Rattle.og_inlining.specs.Seen.{seen_of}
use Rattle.og_inlining.specs.Trees.{tree_in, part_tree, addend_tree, factor_tree, arm_tree, key_tree, row_there, arguments, occurs}
use Rattle.og_inlining.proofs.expressions.+trees.Given as goal

abbrev pub invariant-arguments-arguments : goal.invariant-arguments-arguments
invariant-arguments-arguments l =
    arguments (seen_of l.seen) (occurs l.used) l.at l.all (map tree_in (drop l.at l.args))
    ≡ arguments (seen_of l.seen) (occurs l.used) 0 [] (map tree_in l.args)

abbrev pub invariant-all-parts : goal.invariant-all-parts
invariant-all-parts l =
    each_of (part_tree (seen_of l.seen)) l.found (map tree_in (drop l.part-index l.parts))
    ≡ each_of (part_tree (seen_of l.seen)) [] (map tree_in l.parts)

abbrev pub invariant-addends-rest : goal.invariant-addends-rest
invariant-addends-rest l =
    each_of (addend_tree (seen_of l.seen)) l.found (map (sum_with tree_in) (drop l.part-index l.rest))
    ≡ each_of (addend_tree (seen_of l.seen)) [] (map (sum_with tree_in) l.rest)

abbrev pub invariant-factors-rest : goal.invariant-factors-rest
invariant-factors-rest l =
    each_of (factor_tree (seen_of l.seen)) l.found (map (product_with tree_in) (drop l.part-index l.rest))
    ≡ each_of (factor_tree (seen_of l.seen)) [] (map (product_with tree_in) l.rest)

abbrev pub invariant-choices-arms : goal.invariant-choices-arms
invariant-choices-arms l =
    each_of (arm_tree (seen_of l.seen)) l.found (map (arm_with tree_in) (drop l.arm-index l.arms))
    ≡ each_of (arm_tree (seen_of l.seen)) [] (map (arm_with tree_in) l.arms)

abbrev pub invariant-keys-those : goal.invariant-keys-those
invariant-keys-those l =
    each_of (key_tree (seen_of l.seen)) l.found (map (key_with tree_in) (drop l.key-index l.those))
    ≡ each_of (key_tree (seen_of l.seen)) [] (map (key_with tree_in) l.those)

abbrev pub invariant-rows_in-order : goal.invariant-rows_in-order
invariant-rows_in-order l =
    each_of (row_there (seen_of l.seen) (map (row_with tree_in) l.rows)) l.found (drop l.at-index l.order)
    ≡ each_of (row_there (seen_of l.seen) (map (row_with tree_in) l.rows)) [] l.order
