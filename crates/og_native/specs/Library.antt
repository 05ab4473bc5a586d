-- The names of a library's blocks.
use Rattle.std.specs.Prelude.{◌≡◌, ℕ, ◌<◌, nat_eq, List, Option, Some, position, take, slice_get}
use Rattle.std.specs.Cmp.Lexicographic.{pointwise}
use Rattle.og_native.specs.declared.library.LibraryFault.{LibraryFault}
use Rattle.og_native.specs.declared.library.LibraryFault.TheVariants.{Twice, Memory}

-- No two places have one name.
abbrev pub AreDistinct : List (List ℕ) → Type 0
AreDistinct names = (i j : ℕ) (name : List ℕ) → slice_get names i ≡ Some name → slice_get names j ≡ Some name → i ≡ j

-- The name is the first that repeats an earlier one.
pub record IsFirstRepeat (names : List (List ℕ)) (name : List ℕ) : Type 0 where
  pub earlier : ℕ
  pub later : ℕ
  pub before : earlier < later
  pub first : slice_get names earlier ≡ Some name
  pub again : slice_get names later ≡ Some name
  pub distinct : AreDistinct (take later names)

-- Why blocks with these names make no library.
abbrev pub IsRefused : List (List ℕ) → LibraryFault → Type 0
IsRefused names (Twice name) = IsFirstRepeat names name
IsRefused names Memory = Unit {0}

-- the first place of the name, from 0
abbrev pub place_of : List ℕ → List (List ℕ) → Option ℕ
place_of name names = position (λ other. pointwise nat_eq other name) names
