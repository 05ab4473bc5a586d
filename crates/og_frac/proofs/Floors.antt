-- Laws of rounding down.
use Rattle.std.proofs.Common.{ℕ, ◌/◌, ◌<◌, ℤ, pos, negsuc, arith}
use Rattle.std.specs.Prelude.{◌+ℤ◌, ◌*ℤ◌, ◌<ℤ◌, ◌≤ℤ◌}
use Rattle.std.proofs.Math.Nat.{div-mul-le_self, lt-div-mul-add}
use Rattle.std.proofs.lemmas.Int.{ints}
use Rattle.og_frac.specs.Fraction.{Fraction, floor, floor_div}
use Rattle.og_frac.specs.laws.Integers.{times_add}

pub floor_at_most : (q : Fraction) → 0 < q.denominator → (floor q *ℤ pos q.denominator) ≤ℤ q.numerator
unfolding floor
floor_at_most q h = by q.numerator q.denominator h
  where
    by : (n : ℤ) (d : ℕ) → 0 < d → (floor_div n d *ℤ pos d) ≤ℤ n
    by (pos n) d h = omega (arith, ints, div-mul-le_self n d)
    by (negsuc n) d h = omega (arith, ints, lt-div-mul-add {a = n} h)

pub floor_greatest : (q : Fraction) → 0 < q.denominator → q.numerator <ℤ ((floor q +ℤ pos 1) *ℤ pos q.denominator)
unfolding floor
floor_greatest q h = by q.numerator q.denominator h
  where
    by : (n : ℤ) (d : ℕ) → 0 < d → n <ℤ ((floor_div n d +ℤ pos 1) *ℤ pos d)
    by (pos n) d h = omega (arith, ints, lt-div-mul-add {a = n} h)
    by (negsuc n) d h = let e = times_add (negsuc (n / d)) (pos 1) d in omega (arith, ints, div-mul-le_self n d)
