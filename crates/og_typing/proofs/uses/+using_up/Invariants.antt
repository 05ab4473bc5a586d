use Rattle.std.proofs.Common.{◌≡◌, map, drop}
use Rattle.og_typing.specs.Levels.{sum_with, product_with, arm_with, key_with, row_with}
use Rattle.og_typing.specs.Scopes.{names_of}
use Rattle.og_typing.specs.Uses.{through, part_uses, sum_uses, product_uses, arm_uses, key_uses, row_uses, argument_uses, uses_in}
use Rattle.og_typing.proofs.uses.+using_up.Given as goal

abbrev pub invariant-note_arguments-arguments : goal.invariant-note_arguments-arguments
invariant-note_arguments-arguments l =
    argument_uses (names_of l.scope) l.often l.uses l.at l.counts (map uses_in (drop l.at l.args))
    ≡ argument_uses (names_of l.scope) l.often l.uses 0 l.initial.counts (map uses_in l.args)

abbrev pub invariant-note_parts-all : goal.invariant-note_parts-all
invariant-note_parts-all l =
    through (part_uses (names_of l.scope) l.often) l.counts (map uses_in (drop l.part-index l.parts))
    ≡ through (part_uses (names_of l.scope) l.often) l.initial.counts (map uses_in l.parts)

abbrev pub invariant-note_addends-all : goal.invariant-note_addends-all
invariant-note_addends-all l =
    through (sum_uses (names_of l.scope) l.often) l.counts (map (sum_with uses_in) (drop l.addend-index l.rest))
    ≡ through (sum_uses (names_of l.scope) l.often) l.initial.counts (map (sum_with uses_in) l.rest)

abbrev pub invariant-note_factors-all : goal.invariant-note_factors-all
invariant-note_factors-all l =
    through (product_uses (names_of l.scope) l.often) l.counts (map (product_with uses_in) (drop l.factor-index l.rest))
    ≡ through (product_uses (names_of l.scope) l.often) l.initial.counts (map (product_with uses_in) l.rest)

abbrev pub invariant-note_arms-all : goal.invariant-note_arms-all
invariant-note_arms-all l =
    through (arm_uses (names_of l.scope) l.often) l.counts (map (arm_with uses_in) (drop l.arm-index l.arms))
    ≡ through (arm_uses (names_of l.scope) l.often) l.initial.counts (map (arm_with uses_in) l.arms)

abbrev pub invariant-note_keys-all : goal.invariant-note_keys-all
invariant-note_keys-all l =
    through (key_uses (names_of l.scope) l.often) l.counts (map (key_with uses_in) (drop l.key-index l.keys))
    ≡ through (key_uses (names_of l.scope) l.often) l.initial.counts (map (key_with uses_in) l.keys)

abbrev pub invariant-note_rows-all : goal.invariant-note_rows-all
invariant-note_rows-all l =
    through (row_uses (names_of l.scope) l.often) l.counts (map (row_with uses_in) (drop l.row-index l.rows))
    ≡ through (row_uses (names_of l.scope) l.often) l.initial.counts (map (row_with uses_in) l.rows)
