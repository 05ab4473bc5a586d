-- A text may be cut behind a quote at its front, and before one at its end.
use Rattle.std.proofs.Common.{◌≡◌, ℕ, ◌-◌, ◌<◌, List, length, get_or, arith}
use Rattle.std.specs.Str.{IsUtf8, IsCharBoundary}
use Rattle.std.proofs.lemmas.Str.{IsCharBoundary-after_ascii, IsCharBoundary-before_ascii}

pub after_quote : (text : List ℕ) → IsUtf8 text → 0 < length text → get_or text 0 0 ≡ 34 → IsCharBoundary text 1
after_quote text utf8 some quote = IsCharBoundary-after_ascii text 0 utf8 some (omega (arith, quote))

pub before_quote : (text : List ℕ) → 0 < length text → get_or text (length text - 1) 0 ≡ 34 → IsCharBoundary text (length text - 1)
before_quote text some quote = IsCharBoundary-before_ascii text (length text - 1) (omega (arith, some)) (omega (arith, quote))
