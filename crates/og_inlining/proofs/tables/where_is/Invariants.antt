use Rattle.std.proofs.Common.{◌≡◌, ◌+◌, drop}
use Rattle.std.specs.Option.{option_map}
use Rattle.og_inlining.specs.Trees.{where_is}
use Rattle.og_inlining.proofs.tables.where_is.Given as goal

abbrev pub invariant-ranks : goal.invariant-ranks
invariant-ranks l = option_map (λ k. l.at + k) (where_is l.rank (drop l.at l.ranks)) ≡ where_is l.rank l.ranks
