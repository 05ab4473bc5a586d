use Rattle.std.proofs.Common.{◌≡◌, take}
use Rattle.og_syntax.proofs.games.+game_copies.Given as goal

abbrev pub invariant-copy_lines-lines : goal.invariant-copy_lines-lines
invariant-copy_lines-lines l = l.all ≡ take l.line-index l.lines

abbrev pub invariant-copy_arms-arms : goal.invariant-copy_arms-arms
invariant-copy_arms-arms l = l.all ≡ take l.one-index l.arms
