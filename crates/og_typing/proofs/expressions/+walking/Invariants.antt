use Rattle.std.proofs.Common.{◌≡◌, ◌+◌, [], map, drop}
use Rattle.std.specs.Prelude.{None}
use Rattle.og_typing.specs.Checked.{in_turn}
use Rattle.og_typing.specs.Levels.{sum_with, product_with, arm_with, key_with, row_with}
use Rattle.og_typing.specs.Scopes.{names_of}
use Rattle.og_typing.specs.Expressions.{part_of, all_fitting, each_fitting, sum_fitting, product_fitting, beside, arm_walk, key_walk, row_walk, rows_from}
use Rattle.og_typing.proofs.expressions.+walking.Given as goal

abbrev pub invariant-walk_all-parts : goal.invariant-walk_all-parts
invariant-walk_all-parts l =
    all_fitting (names_of l.scope) l.depth l.wanted l.deep (map part_of (drop l.part-index l.parts))
    ≡ all_fitting (names_of l.scope) l.depth l.wanted l.initial.deep (map part_of l.parts)

abbrev pub invariant-walk_each-parts : goal.invariant-walk_each-parts
invariant-walk_each-parts l =
    each_fitting (names_of l.scope) l.depth l.wanted l.at l.deep (map part_of (drop l.at l.parts))
    ≡ each_fitting (names_of l.scope) l.depth l.wanted 0 l.initial.deep (map part_of l.parts)

abbrev pub invariant-walk_addends-rest : goal.invariant-walk_addends-rest
invariant-walk_addends-rest l =
    in_turn (sum_fitting (names_of l.scope) l.depth) l.deep (map (sum_with part_of) (drop l.addend-index l.rest))
    ≡ in_turn (sum_fitting (names_of l.scope) l.depth) l.initial.deep (map (sum_with part_of) l.rest)

abbrev pub invariant-walk_factors-rest : goal.invariant-walk_factors-rest
invariant-walk_factors-rest l =
    in_turn (product_fitting l.at (names_of l.scope) l.depth) l.deep (map (product_with part_of) (drop l.factor-index l.rest))
    ≡ in_turn (product_fitting l.at (names_of l.scope) l.depth) l.initial.deep (map (product_with part_of) l.rest)

abbrev pub invariant-walk_beside-parts : goal.invariant-walk_beside-parts
invariant-walk_beside-parts l =
    in_turn (beside (names_of l.scope) l.depth) l.all (map part_of (drop l.part-index l.parts))
    ≡ in_turn (beside (names_of l.scope) l.depth) (record { types = []; deep = l.deep }) (map part_of l.parts)

abbrev pub invariant-walk_arms-arms : goal.invariant-walk_arms-arms
invariant-walk_arms-arms l =
    in_turn (arm_walk (names_of l.scope) (l.depth + 1)) l.all (map (arm_with part_of) (drop l.arm-index l.arms))
    ≡ in_turn (arm_walk (names_of l.scope) (l.depth + 1)) (record { ty = None; deep = l.depth }) (map (arm_with part_of) l.arms)

abbrev pub invariant-walk_keys-keys : goal.invariant-walk_keys-keys
invariant-walk_keys-keys l =
    in_turn (key_walk (names_of l.scope) (l.depth + 1)) l.all (map (key_with part_of) (drop l.key-index l.keys))
    ≡ in_turn (key_walk (names_of l.scope) (l.depth + 1)) (record { types = []; deep = l.depth }) (map (key_with part_of) l.keys)

abbrev pub invariant-walk_rows-rows : goal.invariant-walk_rows-rows
invariant-walk_rows-rows l =
    in_turn (row_walk (names_of l.scope) l.depth l.types) (record { taken = l.taken; found = l.all }) (map (row_with part_of) (drop l.row-index l.rows))
    ≡ in_turn (row_walk (names_of l.scope) l.depth l.types) (rows_from l.initial.taken l.deep) (map (row_with part_of) l.rows)
