use Rattle.std.proofs.Common.{◌≡◌, ◌++◌, ◌∷◌, take, map}
use Rattle.std.specs.Prelude.{flat_map}
use Rattle.og_small.proofs.rules.given_names.Given as goal

abbrev pub invariant-lines : goal.invariant-lines
invariant-lines l = l.names ≡ flat_map (λ t. t.name ∷ t.cases) l.game.types ++ map (λ line. line.output) (take l.line-index l.lines)
