-- A whole number over 1 is in lowest terms.
use Rattle.std.proofs.Common.{◌<◌, ◌^◌, ℤ, arith}
use Rattle.std.specs.Prelude.{unsigned_abs}
use Rattle.std.proofs.Math.Nat.{one-dvd}
use Rattle.og_frac.specs.Fraction.{IsFrac, IsInLowestTerms, whole}
use Rattle.og_frac.proofs.Divisors.{greatest_common_divisor_from}

pub whole_lowest : (n : ℤ) → IsInLowestTerms (whole n)
whole_lowest n = record {
  positive = omega arith;
  reduced = greatest_common_divisor_from (unsigned_abs n) 1 1 (one-dvd (unsigned_abs n), one-dvd 1, λ d p q. q);
}

pub whole_is : (n : ℤ) → unsigned_abs n < 2 ^ 63 → IsFrac (whole n)
whole_is n h = record {
  lowest = whole_lowest n;
  fits = record { numerator_fits = h; denominator_fits = omega arith };
}
