-- What came of reading a file: a text that may be held, one that is too long, or a failure.
use Rattle.std.specs.Prelude.{ℕ, ◌<◌, ◌≤◌, List, [], ◌∷◌, length}
use Rattle.og_io.specs.Outside.{FilesState}
use Rattle.og_tool.specs.declared.fetch.Fetched.{Fetched}
use Rattle.og_tool.specs.declared.fetch.Fetched.TheVariants.{Text, TooLong, Failed}
use Rattle.og_tool.specs.Held.{MayHold, HeldHas}
use Rattle.og_texts.specs.Texts.{longest_text}
use Rattle.og_tool.specs.Ran.{ReadsAll, FailsAt}

abbrev pub Fetches : List ℕ → FilesState → FilesState → Fetched → Type 0
Fetches file before after (Text text) =
    ReadsAll (file ∷ []) before after × MayHold (before.held file) text.items × (length text.items ≤ longest_text)
Fetches file before after TooLong =
    ReadsAll (file ∷ []) before after × HeldHas (before.held file) (λ text. longest_text < length text)
Fetches file before after Failed = FailsAt file (file ∷ []) before after
