-- How a fraction prints.
use Rattle.std.specs.Prelude.{ℕ, List, ◌∷◌, ◌++◌, ◌==◌, if◌then◌else◌}
use Rattle.std.specs.Fmt.{decimal, signed_decimal}
use Rattle.og_frac.specs.Fraction.{Fraction}

-- the numerator, and after a slash the denominator where it is not 1
abbrev pub text : Fraction → List ℕ
text q =
    if q.denominator == 1
    then signed_decimal q.numerator
    else (signed_decimal q.numerator ++ 47 ∷ decimal q.denominator)
