-- Compositions of several games, from the last one.
use Rattle.std.proofs.Common.{◌≡◌, List, [], ◌∷◌, ◌++◌, refl}
use Rattle.og_syntax.specs.declared.games.GameTree.{GameTree}
use Rattle.og_syntax.specs.declared.games.GameTree.TheVariants as games
use Rattle.og_language.specs.Trees.{par_onto, seq_onto}

pub par_last : (first : GameTree) (gs : List GameTree) (g : GameTree) → par_onto first (gs ++ g ∷ []) ≡ games.Par (par_onto first gs) g
par_last first [] g = refl
par_last first (h ∷ gs) g = par_last (games.Par first h) gs g

pub seq_last : (first : GameTree) (gs : List GameTree) (g : GameTree) → seq_onto first (gs ++ g ∷ []) ≡ games.Seq (seq_onto first gs) g
seq_last first [] g = refl
seq_last first (h ∷ gs) g = seq_last (games.Seq first h) gs g
