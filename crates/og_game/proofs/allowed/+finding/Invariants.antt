use Rattle.std.proofs.Common.{◌≡◌, drop}
use Rattle.std.specs.Prelude.{flat_map}
use Rattle.std.specs.Option.{option_map}
use Rattle.og_game.specs.Choices.{choices_of, numbered, allowed_at}
use Rattle.og_game.proofs.allowed.+finding.Given as goal

abbrev pub invariant-in_lines-lines : goal.invariant-in_lines-lines
invariant-in_lines-lines l =
    option_map (allowed_at l.seen) (numbered l.d (flat_map (λ line. choices_of line.operation) (drop l.line-index l.lines)))
    ≡ option_map (allowed_at l.seen) (numbered l.d (flat_map (λ line. choices_of line.operation) l.lines))

abbrev pub invariant-in_arms-arms : goal.invariant-in_arms-arms
invariant-in_arms-arms l =
    option_map (allowed_at l.seen) (numbered l.d (flat_map (λ arm. choices_of arm.game) (drop l.arm-index l.arms)))
    ≡ option_map (allowed_at l.seen) (numbered l.d (flat_map (λ arm. choices_of arm.game) l.arms))
