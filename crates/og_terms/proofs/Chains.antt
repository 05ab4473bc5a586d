-- When a list has one member, and what components are taken of.
use Rattle.std.proofs.Common.{◌≡◌, ◌≢◌, ℕ, List, [], ◌∷◌, ◌++◌, length, length-append, refl, ap, arith}
use Rattle.og_syntax.specs.declared.expressions.ExprTree.{ExprTree}
use Rattle.og_syntax.specs.declared.expressions.ExprTree.TheVariants as exprs
use Rattle.og_syntax.specs.Places.{expr_place}
use Rattle.og_language.specs.Trees.{one_or, components_of, field_of}
use Rattle.og_terms.specs.Chains.{first_place}

pub only_one : (es rest : List ExprTree) (e : ExprTree) (all : ℕ → List ExprTree → ExprTree) → length es ≡ 1 → es ≡ rest ++ e ∷ [] → one_or all es ≡ e
only_one es [] e all long is = rw is refl
only_one es (r ∷ []) e all long is = absurd (omega (arith, long, ap length is, length-append (r ∷ []) (e ∷ [])))
only_one es (r ∷ s ∷ rest) e all long is = absurd (omega (arith, long, ap length is, length-append (r ∷ s ∷ rest) (e ∷ [])))

pub not_one : (es : List ExprTree) (all : ℕ → List ExprTree → ExprTree) → length es ≢ 1 → one_or all es ≡ all (first_place es) es
not_one [] all long = refl
not_one (e ∷ []) all long = absurd (long refl)
not_one (e ∷ f ∷ es) all long = refl
