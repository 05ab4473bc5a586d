-- Sums of weighted payments over a common denominator.
use Rattle.std.specs.Prelude.{◌≡◌, ℕ, ◌+◌, ◌*◌, ◌/◌, ◌^◌, ◌<◌, ◌≤◌, ℤ, pos, ◌+ℤ◌, ◌*ℤ◌, unsigned_abs, List, [], ◌∷◌, sum_by, Option, Some, None, ◌⊎◌, Result, Ok, Err}
use Rattle.og_frac.specs.declared.terms.Term.{Term}
use Rattle.og_frac.specs.declared.terms.Sum.{Sum}
use Rattle.og_frac.specs.declared.fault.SumFault.{SumFault}
use Rattle.og_frac.specs.declared.fault.SumFault.TheVariants.{Passes}
use Rattle.og_frac.specs.Fraction.{Fraction, IsFrac, least_common_multiple, sum, product, whole}

-- the least common multiple of the denominators, 1 for no term
abbrev pub common_denominator : List Term → ℕ
common_denominator [] = 1
common_denominator (t ∷ ts) = least_common_multiple t.pay.denominator (common_denominator ts)

-- what a term adds to a sum over a common denominator
abbrev pub part_over : ℕ → Term → ℤ
part_over common t = pos t.weight *ℤ t.pay.numerator *ℤ pos (common / t.pay.denominator)

-- the size of that
abbrev pub size_over : ℕ → Term → ℕ
size_over common t = t.weight * unsigned_abs t.pay.numerator * (common / t.pay.denominator)

-- the numerator of the terms' sum over a common denominator
abbrev pub value_over : ℕ → List Term → ℤ
value_over common [] = pos 0
value_over common (t ∷ ts) = part_over common t +ℤ value_over common ts

-- the same with each payment's size in the place of the payment
abbrev pub absolute_over : ℕ → List Term → ℕ
absolute_over common [] = 0
absolute_over common (t ∷ ts) = size_over common t + absolute_over common ts

-- over the least common denominator
abbrev pub value : List Term → ℤ
value ts = value_over (common_denominator ts) ts

abbrev pub absolute : List Term → ℕ
absolute ts = absolute_over (common_denominator ts) ts

-- the terms' sum as a fraction: each payment times its weight, added up
abbrev pub total : List Term → Fraction
total [] = whole (pos 0)
total (t ∷ ts) = sum (product (whole (pos t.weight)) t.pay) (total ts)

-- a term's denominator is above 0
abbrev pub IsPositive : Term → Type 0
IsPositive t = 0 < t.pay.denominator

-- a term counts
abbrev pub HasWeight : Term → Type 0
HasWeight t = 0 < t.weight

-- the payment counts that many times as often
abbrev pub scaled : ℕ → Term → Term
scaled k t = record { weight = k * t.weight; pay = t.pay }

-- each payment has the same weight in both lists, added up over its terms: what payments are worth
-- adds up to the same, whatever each is worth
abbrev pub SameWeights : List Term → List Term → Type 0
SameWeights ts us =
    (f : Fraction → ℕ) → sum_by (λ t. t.weight * f t.pay) ts ≡ sum_by (λ t. t.weight * f t.pay) us

-- what stands in a sum of the terms
pub record IsSumOf (ts : List Term) (sum : Sum) : Type 0 where
  pub common : sum.common ≡ common_denominator ts
  pub absolute_is : sum.absolute ≡ absolute ts
  pub value_is : sum.value ≡ value ts

-- the common denominator is above 0, and that many times the sum leaves room in a word
pub record HasRoom (times common absolute : ℕ) : Type 0 where
  pub positive : 0 < common
  pub small_common : common < 2 ^ 63
  pub small_absolute : times * absolute < 2 ^ 126

-- the exact sum with its room, or Passes where there is none
abbrev pub IsExactSum : List Term → ℕ → Result Sum SumFault → Type 0
IsExactSum ts times (Ok sum) = IsSumOf ts sum × HasRoom times sum.common sum.absolute
IsExactSum ts times (Err Passes) = (2 ^ 63 ≤ common_denominator ts) ⊎ (2 ^ 126 ≤ times * absolute ts)

-- the sum over this denominator, where its sizes add up to at most the room
pub record IsSumWithin (ts : List Term) (over room : ℕ) (sum : Sum) : Type 0 where
  pub common : sum.common ≡ over
  pub absolute_is : sum.absolute ≡ absolute_over over ts
  pub value_is : sum.value ≡ value_over over ts
  pub inside : sum.absolute ≤ room

-- each payment is a fraction of the program
abbrev pub AllFracs : List Term → Type 0
AllFracs [] = Unit {0}
AllFracs (t ∷ ts) = IsFrac t.pay × AllFracs ts

-- the number if it is below 2^63, and None else
abbrev pub IsBelowLimit : Option ℕ → ℕ → Type 0
IsBelowLimit None number = 2 ^ 63 ≤ number
IsBelowLimit (Some kept) number = (kept ≡ number) × (number < 2 ^ 63)
