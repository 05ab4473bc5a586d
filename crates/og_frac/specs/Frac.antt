-- When a call on fractions answers exactly.
use Rattle.std.specs.Prelude.{◌≡◌, Result, Ok, Err}
use Rattle.og_frac.specs.Fraction.{Fraction, Fits, IsFrac}
use Rattle.og_frac.specs.declared.fault.FracFault.{FracFault}
use Rattle.og_frac.specs.declared.fault.FracFault.TheVariants.{Zero, Passes}

-- the answer is this number, or Passes where the number does not fit
abbrev pub IsExact : Result Fraction FracFault → Fraction → Type 0
IsExact (Ok answer) number = (answer ≡ number) × IsFrac answer
IsExact (Err Passes) number = ¬ (Fits number)
IsExact (Err Zero) number = ⊥
