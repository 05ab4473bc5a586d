-- How the steps of reading a text end.
use Rattle.std.proofs.Common.{◌≢◌, ℕ, List, refl}
use Rattle.og_texts.specs.declared.fault.TextFault.{TextFault}
use Rattle.og_texts.specs.declared.fault.TextFault.TheVariants as faults
use Rattle.og_texts.specs.Texts.{Answers, HasFault}
use Rattle.og_texts.specs.Steps.{EndsEarly}

-- a text without tokens has that fault, of whatever kind it is to be
pub early_fault : {T : Type 0} (parses : Answers T) (text : List ℕ) (fault : TextFault) → EndsEarly text fault → fault ≢ faults.Memory
    → HasFault parses text fault
early_fault parses text faults.TooLong is some = is
early_fault parses text (faults.BadUtf8 p) is some = is
early_fault parses text (faults.BadChar p) is some = is
early_fault parses text (faults.OpenText p) is some = is
early_fault parses text (faults.WideNumber p) is some = is
early_fault parses text (faults.Syntax p) is some = absurd is
early_fault parses text (faults.Deep p) is some = absurd is
early_fault parses text faults.Memory is some = absurd (some refl)
