-- The words of the program: the forms that they may have, and the files that they name.
use Rattle.std.specs.Prelude.{◌==◌, ℕ, List, [], ◌∷◌, Bool, false, not, ◌&&◌, if◌then◌else◌, Option, Some, None, codes, bytes_eq}

-- `check GAME STRATEGY`, by the names of its files
pub record Command : Type 0 where
  pub game : List ℕ
  pub strategy : List ℕ

-- not empty, and doesn't begin with a hyphen
abbrev pub is_file_name : List ℕ → Bool
is_file_name [] = false
is_file_name (byte ∷ bytes) = not (byte == 45)

-- the command that the words are, if they are one
abbrev pub command_of : List (List ℕ) → Option Command
command_of [] = None
command_of (verb ∷ []) = None
command_of (verb ∷ game ∷ []) = None
command_of (verb ∷ game ∷ strategy ∷ []) =
    if bytes_eq verb (codes "check") && (is_file_name game && is_file_name strategy)
    then Some (record { game = game; strategy = strategy }) else None
command_of (verb ∷ game ∷ strategy ∷ more ∷ rest) = None

-- the files that a command names, in the order in which they are read
abbrev pub files_of : Option Command → List (List ℕ)
files_of None = []
files_of (Some command) = command.game ∷ command.strategy ∷ []
