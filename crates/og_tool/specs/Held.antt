-- What a text is known to be, where the files tell it.
use Rattle.std.specs.Prelude.{◌≡◌, ℕ, List, Option, IfSome}

-- the text may be the one that is held: it is, where that is told
abbrev pub MayHold : Option (List ℕ) → List ℕ → Type 0
MayHold held text = IfSome held (λ told. text ≡ told)

-- the text that is held has a property
abbrev pub HeldHas : Option (List ℕ) → (List ℕ → Type 0) → Type 0
HeldHas held P = (text : List ℕ) × MayHold held text × P text
