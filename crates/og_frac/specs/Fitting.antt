-- Arithmetic of fractions that fit: nothing where the number doesn't.
use Rattle.std.specs.Prelude.{◌^◌, ℤ, pos, unsigned_abs, nat_lt, ◌&&◌, if◌then◌else◌, Option, Some, None}
use Rattle.std.specs.Ordering.{int_eq, is_lt, is_gt}
use Rattle.og_frac.specs.Fraction.{Fraction, quotient, order}

-- the fraction, where its parts are below 2^63
abbrev pub fitting : Fraction → Option Fraction
fitting q = if nat_lt (unsigned_abs q.numerator) (2 ^ 63) && nat_lt q.denominator (2 ^ 63) then Some q else None

-- the first, where neither is less
abbrev pub lesser : Fraction → Fraction → Fraction
lesser p q = if is_gt (order p q) then q else p

abbrev pub greater : Fraction → Fraction → Fraction
greater p q = if is_lt (order p q) then q else p

-- the first by the second, and the third where that is 0
abbrev pub ratio_of : Fraction → Fraction → Fraction → Option Fraction
ratio_of x y z = if int_eq y.numerator (pos 0) then Some z else fitting (quotient x y)
