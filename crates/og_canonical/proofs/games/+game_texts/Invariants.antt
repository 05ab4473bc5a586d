use Rattle.std.proofs.Common.{◌≡◌, ◌++◌, take}
use Rattle.std.specs.Prelude.{flat_map}
use Rattle.og_canonical.specs.Games.{line_text, branch_arm_text, game_text}
use Rattle.og_canonical.proofs.games.+game_texts.Given as goal

abbrev pub invariant-write_lines-lines : goal.invariant-write_lines-lines
invariant-write_lines-lines l = l.out ≡ l.initial.out ++ flat_map (line_text game_text) (take l.line-index l.lines)

abbrev pub invariant-write_arms-arms : goal.invariant-write_arms-arms
invariant-write_arms-arms l = l.out ≡ l.initial.out ++ flat_map (branch_arm_text game_text) (take l.arm-index l.arms)
