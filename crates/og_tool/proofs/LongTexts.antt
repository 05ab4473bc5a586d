-- The lines that refuse texts which are too long.
use Rattle.std.proofs.Common.{◌≡◌, ℕ, List, [], ◌∷◌, ◌++◌, refl}
use Rattle.std.specs.Fmt.{digits}
use Rattle.std.specs.Prelude.{codes}
use Rattle.og_texts.specs.declared.fault.TextFault.TheVariants as faults
use Rattle.og_tool.specs.Answer.{fault_at}

-- It is the same whatever the text, since the fault stands at its start.
pub long_game : (text : List ℕ) → codes "refused game TooLong at 1:1\n" ≡ codes "refused " ++ (fault_at (codes "game") text faults.TooLong ++ 10 ∷ [])
unfolding digits
long_game text = refl

pub long_strategy : (text : List ℕ) → codes "refused strategy TooLong at 1:1\n" ≡ codes "refused " ++ (fault_at (codes "strategy") text faults.TooLong ++ 10 ∷ [])
unfolding digits
long_strategy text = refl
