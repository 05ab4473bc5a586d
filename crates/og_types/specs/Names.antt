-- The names of enums and cases, and how a value prints.
use Rattle.std.specs.Prelude.{ℕ, Bool, nat_eq, ◌&&◌, if◌then◌else◌, List, [], ◌++◌, slice_get, Option, unwrap_or, option_and_then, codes}
use Rattle.std.specs.Option.{option_map}
use Rattle.std.specs.List.{join_by}
use Rattle.std.specs.Cmp.Lexicographic.{pointwise}
use Rattle.og_frac.specs.Text.{text}
use Rattle.og_types.specs.declared.enums.Family.{Family}
use Rattle.og_types.specs.declared.enums.Enums.{Enums}
use Rattle.og_types.specs.declared.value.Value.{Value}
use Rattle.og_types.specs.declared.value.Value.TheOpen.{Value-F}
use Rattle.og_types.specs.declared.value.Value.TheOpen as one
use Rattle.og_types.specs.declared.value.Value.TheFolds.{fold-Value}

-- the name of the enum with this number
abbrev pub name_of : Enums → ℕ → Option (List ℕ)
name_of enums family = option_map (λ f. f.name) (slice_get enums.families family)

-- the name of the enum's case at this index
abbrev pub case_of : Enums → ℕ → ℕ → Option (List ℕ)
case_of enums family index = option_and_then (λ f. slice_get f.cases index) (slice_get enums.families family)

-- equal families: of one name, with the same names of cases
abbrev pub same_family : Family → Family → Bool
same_family f g = pointwise nat_eq f.name g.name && pointwise (pointwise nat_eq) f.cases g.cases

-- equal names: equal families at each place, and as many
abbrev pub same_enums : Enums → Enums → Bool
same_enums e f = pointwise same_family e.families f.families

-- the texts, with a comma and a space between each two
abbrev pub with_commas : List (List ℕ) → List ℕ
with_commas = join_by (λ part. part) (codes ", ")

abbrev pub text_step : Enums → Value-F (List ℕ) → List ℕ
text_step enums (one.Case family index) = unwrap_or (case_of enums family index) []
text_step enums (one.Flag flag) = if flag then codes "true" else codes "false"
text_step enums (one.Number number) = text number
text_step enums (one.Tuple parts) = codes "(" ++ with_commas parts ++ codes ")"

-- a case by its name, true or false, a number, a tuple's values in parentheses
abbrev pub text_of : Enums → Value → List ℕ
text_of enums = fold-Value (List ℕ) (text_step enums)
