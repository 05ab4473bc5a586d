use Rattle.std.proofs.Common.{◌≡◌, map, take}
use Rattle.std.specs.Prelude.{sum_by}
use Rattle.og_expr.specs.Counts.{capped}
use Rattle.og_native.specs.Ports.{height, highest, nodes}
use Rattle.og_game.proofs.types.+measuring.Given as goal

abbrev pub invariant-size_of_all-types : goal.invariant-size_of_all-types
invariant-size_of_all-types l =
    (l.all.height ≡ capped (highest (map height (take l.ty-index l.types))))
    × (l.all.nodes ≡ capped (sum_by (λ n. n) (map nodes (take l.ty-index l.types))))
