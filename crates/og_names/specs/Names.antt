-- Lists of names with what they stand for.
use Rattle.std.specs.Prelude.{ℕ, Bool, String, List, map, Option, is_some}
use Rattle.std.specs.List.{position}
use Rattle.std.specs.Map as entries
use Rattle.std.specs.Str.{bytes_eq}
use Rattle.std.specs.String.{string_bytes}

-- entries by the bytes of their names
abbrev pub named : {Z A : Type 0} → List (String Z × A) → List (List ℕ × A)
named = map (λ entry. (string_bytes entry.0, entry.1))

-- the same bytes
abbrev pub same_name : List ℕ → List ℕ → Bool
same_name = bytes_eq

-- what the name stands for, where it first stands
abbrev pub lookup : {A : Type 0} → List ℕ → List (List ℕ × A) → Option A
lookup name = entries.lookup (same_name name)

abbrev pub has_name : {A : Type 0} → List ℕ → List (List ℕ × A) → Bool
has_name name table = is_some (lookup name table)

-- the place of the name, from 0, where it first stands
abbrev pub place : {A : Type 0} → List ℕ → List (List ℕ × A) → Option ℕ
place name table = position (same_name name) (entries.keys_of table)
