-- How a text's fault is named, and where it is.
use Rattle.std.specs.Prelude.{ℕ, List, codes}
use Rattle.og_texts.specs.declared.fault.TextFault.{TextFault}
use Rattle.og_texts.specs.declared.fault.TextFault.TheVariants as faults

abbrev pub code_of : TextFault → List ℕ
code_of faults.TooLong = codes "TooLong"
code_of (faults.BadUtf8 at) = codes "BadUtf8"
code_of (faults.BadChar at) = codes "BadChar"
code_of (faults.OpenText at) = codes "OpenText"
code_of (faults.WideNumber at) = codes "WideNumber"
code_of (faults.Syntax at) = codes "Syntax"
code_of (faults.Deep at) = codes "Deep"
code_of faults.Memory = codes "Memory"

-- in bytes from the start of the text
abbrev pub place_of : TextFault → ℕ
place_of faults.TooLong = 0
place_of (faults.BadUtf8 at) = at
place_of (faults.BadChar at) = at
place_of (faults.OpenText at) = at
place_of (faults.WideNumber at) = at
place_of (faults.Syntax at) = at
place_of (faults.Deep at) = at
place_of faults.Memory = 0
