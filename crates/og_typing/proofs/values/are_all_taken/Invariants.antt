use Rattle.std.proofs.Common.{◌≡◌, drop}
use Rattle.std.specs.List.{list_all}
use Rattle.og_typing.proofs.values.are_all_taken.Given as goal

abbrev pub invariant-ranks : goal.invariant-ranks
invariant-ranks l = list_all (λ flag. flag) (drop l.flag-index l.taken) ≡ list_all (λ flag. flag) l.taken
