-- Fractions: rational numbers written with whole numbers that have no bound.
use Rattle.std.specs.Prelude.{◌≡◌, ℕ, ◌+◌, ◌*◌, ◌/◌, ◌%◌, ◌^◌, ◌<◌, ℤ, pos, negsuc, ◌+ℤ◌, ◌-ℤ◌, ◌*ℤ◌, unsigned_abs, int_div, Bool, ◌==◌, ◌&&◌, if◌then◌else◌, zero, suc, max}
use Rattle.std.specs.Ordering.{int_cmp, nat_cmp, ordering_then}
use Rattle.std.specs.declared.cmp.Ordering.{Ordering}

-- a numerator over a denominator
pub record Fraction : Type 0 where
  pub numerator : ℤ
  pub denominator : ℕ

abbrev pub divides : ℕ → ℕ → Bool
divides d n = (n % d) == 0

-- the greatest number up to n that passes the test, or 0
abbrev pub greatest_up_to : ℕ → (ℕ → Bool) → ℕ
greatest_up_to zero passes = 0
greatest_up_to (suc n) passes = if passes (suc n) then suc n else greatest_up_to n passes

-- 0 only for 0 and 0
unfoldable pub greatest_common_divisor : ℕ → ℕ → ℕ
greatest_common_divisor a b = greatest_up_to (a + b) (λ d. divides d a && divides d b)

-- one of the numbers times what the other has beyond their common divisor
unfoldable pub least_common_multiple : ℕ → ℕ → ℕ
least_common_multiple a b = a * (b / greatest_common_divisor a b)

-- the same number, with both parts divided by what they have in common
unfoldable pub in_lowest_terms : Fraction → Fraction
in_lowest_terms q =
    let common = greatest_common_divisor (unsigned_abs q.numerator) q.denominator in
    record { numerator = int_div q.numerator (pos common); denominator = q.denominator / common }

pub record IsInLowestTerms (q : Fraction) : Type 0 where
  pub positive : 0 < q.denominator
  pub reduced : greatest_common_divisor (unsigned_abs q.numerator) q.denominator ≡ 1

pub record Fits (q : Fraction) : Type 0 where
  pub numerator_fits : unsigned_abs q.numerator < 2 ^ 63
  pub denominator_fits : q.denominator < 2 ^ 63

-- what a fraction of the program is: in lowest terms, and of words that it fits
pub record IsFrac (q : Fraction) : Type 0 where
  pub lowest : IsInLowestTerms q
  pub fits : Fits q

-- the two stand for one number
abbrev pub SameNumber : Fraction → Fraction → Type 0
SameNumber a b = a.numerator *ℤ pos b.denominator ≡ b.numerator *ℤ pos a.denominator

-- the whole number as a fraction
abbrev pub whole : ℤ → Fraction
whole n = record { numerator = n; denominator = 1 }

unfoldable pub sum : Fraction → Fraction → Fraction
sum a b =
    in_lowest_terms record {
      numerator = a.numerator *ℤ pos b.denominator +ℤ b.numerator *ℤ pos a.denominator;
      denominator = a.denominator * b.denominator;
    }

unfoldable pub difference : Fraction → Fraction → Fraction
difference a b =
    in_lowest_terms record {
      numerator = a.numerator *ℤ pos b.denominator -ℤ b.numerator *ℤ pos a.denominator;
      denominator = a.denominator * b.denominator;
    }

unfoldable pub product : Fraction → Fraction → Fraction
product a b =
    in_lowest_terms record {
      numerator = a.numerator *ℤ b.numerator;
      denominator = a.denominator * b.denominator;
    }

-- 1 or -1, and 1 for 0
abbrev pub sign : ℤ → ℤ
sign (pos n) = pos 1
sign (negsuc n) = negsuc 0

-- of a number other than 0
unfoldable pub quotient : Fraction → Fraction → Fraction
quotient a b =
    in_lowest_terms record {
      numerator = a.numerator *ℤ pos b.denominator *ℤ sign b.numerator;
      denominator = a.denominator * unsigned_abs b.numerator;
    }

-- by the numerators over a common denominator
unfoldable pub order : Fraction → Fraction → Ordering
order a b = int_cmp (a.numerator *ℤ pos b.denominator) (b.numerator *ℤ pos a.denominator)

-- with a denominator of 0 read as 1
abbrev pub over_positive : Fraction → Fraction
over_positive q = record { numerator = q.numerator; denominator = max 1 q.denominator }

-- a total order of all pairs: by number, and pairs of one number by denominator
abbrev pub total_order : Fraction → Fraction → Ordering
total_order a b = ordering_then (order (over_positive a) (over_positive b)) (nat_cmp a.denominator b.denominator)

-- by rounding to the lower whole number
abbrev pub floor_div : ℤ → ℕ → ℤ
floor_div (pos n) d = pos (n / d)
floor_div (negsuc n) d = negsuc (n / d)

-- the greatest whole number that is not above the fraction
unfoldable pub floor : Fraction → ℤ
floor q = floor_div q.numerator q.denominator
