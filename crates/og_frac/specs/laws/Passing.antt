-- What an exact answer of a call on fractions says of its number, for calls that answer nothing where it doesn't fit.
use Rattle.std.proofs.Common.{◌≡◌, ◌^◌, true, Some, None, Result, Ok, Err, cond, ◌∙◌, ap, subst, inl, inr}
use Rattle.std.specs.Prelude.{nat_lt, unsigned_abs, ◌&&◌}
use Rattle.std.proofs.lemmas.Bool.{lt-ltb, ltb-true, and_parts, and_from, cases_Bool}
use Rattle.og_frac.specs.Fraction.{Fraction, Fits}
use Rattle.og_frac.specs.Frac.{IsExact}
use Rattle.og_frac.specs.declared.fault.FracFault.{FracFault}
use Rattle.og_frac.specs.declared.fault.FracFault.TheVariants.{Zero, Passes}
use Rattle.og_frac.specs.Fitting.{fitting}

-- the tests of `fitting`
fits_true : (q : Fraction) → Fits q → (nat_lt (unsigned_abs q.numerator) (2 ^ 63) && nat_lt q.denominator (2 ^ 63)) ≡ true
fits_true q is = and_from _ _ (lt-ltb (unsigned_abs q.numerator) (2 ^ 63) is.numerator_fits) (lt-ltb q.denominator (2 ^ 63) is.denominator_fits)

pub fitting_some : (q : Fraction) → Fits q → fitting q ≡ Some q
fitting_some q is = ap (λ b. cond b (Some q) None) (fits_true q is)

pub fitting_none : (q : Fraction) → (Fits q → ⊥) → fitting q ≡ None
fitting_none q isnt = elim (cases_Bool (nat_lt (unsigned_abs q.numerator) (2 ^ 63) && nat_lt q.denominator (2 ^ 63))) [
  | inl holds ↦
      let both = and_parts (nat_lt (unsigned_abs q.numerator) (2 ^ 63)) (nat_lt q.denominator (2 ^ 63)) holds in
      absurd (isnt (record { numerator_fits = ltb-true _ _ both.0; denominator_fits = ltb-true _ _ both.1 }))
  | inr fails ↦ ap (λ b. cond b (Some q) None) fails
]

-- what an exact answer says of its number
pub passed_exact : (r : Result Fraction FracFault) (q : Fraction) → IsExact r q
    → (r ≡ Err Passes → fitting q ≡ None) × ((a : Fraction) → r ≡ Ok a → fitting q ≡ Some a)
passed_exact (Ok a) q (same, is) =
    let fits : fitting q ≡ Some a = subst (λ x. fitting x ≡ Some a) same (fitting_some a is.fits) in
    (λ e. cc, λ b e. let one : a ≡ b = cc in fits ∙ ap Some one)
passed_exact (Err Passes) q isnt = (λ e. fitting_none q isnt, λ b e. cc)
passed_exact (Err Zero) q isnt = absurd isnt
