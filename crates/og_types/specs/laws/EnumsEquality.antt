-- Names of enums that are found to be the same are equal: what the impls of PartialEq and Eq cite.
use Rattle.std.proofs.Common.{◌≡◌, ℕ, true, List, ap}
use Rattle.std.specs.Prelude.{◌↔◌, nat_eq}
use Rattle.std.specs.Cmp.{unsigned_Decides}
use Rattle.std.specs.Cmp.Lexicographic.{pointwise, pointwise_decides}
use Rattle.std.proofs.lemmas.Bool.{and_from, and_parts}
use Rattle.og_types.specs.declared.enums.Family.{Family}
use Rattle.og_types.specs.declared.enums.Enums.{Enums}
use Rattle.og_types.specs.Names.{same_family, same_enums}

texts_decide : (xs ys : List ℕ) → (pointwise nat_eq xs ys ≡ true) ↔ (xs ≡ ys)
texts_decide = pointwise_decides {E = nat_eq} unsigned_Decides

cases_decide : (xs ys : List (List ℕ)) → (pointwise (pointwise nat_eq) xs ys ≡ true) ↔ (xs ≡ ys)
cases_decide = pointwise_decides {E = pointwise nat_eq} texts_decide

pub family_decides : (f g : Family) → (same_family f g ≡ true) ↔ (f ≡ g)
family_decides f g = (
  (λ e.
      let both = and_parts (pointwise nat_eq f.name g.name) (pointwise (pointwise nat_eq) f.cases g.cases) e in
      (λ i. record {
        name = (texts_decide f.name g.name).0 both.0 i;
        cases = (cases_decide f.cases g.cases).0 both.1 i;
      })),
  (λ e. and_from (pointwise nat_eq f.name g.name) (pointwise (pointwise nat_eq) f.cases g.cases)
      ((texts_decide f.name g.name).1 (ap (λ h. h.name) e)) ((cases_decide f.cases g.cases).1 (ap (λ h. h.cases) e))),
)

pub enums_decide : (e f : Enums) → (same_enums e f ≡ true) ↔ (e ≡ f)
enums_decide e f =
    let families = pointwise_decides {E = same_family} family_decides e.families f.families in (
      (λ p. (λ i. record { families = families.0 p i })),
      (λ p. families.1 (ap (λ h. h.families) p)),
    )
