-- How a broken rule is named, and where it is broken.
use Rattle.std.specs.Prelude.{ℕ, List, codes}
use Rattle.og_typing.specs.declared.fault.WireFault.{WireFault}
use Rattle.og_typing.specs.declared.fault.WireFault.TheVariants as faults

abbrev pub code_of : WireFault → List ℕ
code_of (faults.Unknown at) = codes "Unknown"
code_of (faults.Twice at) = codes "Twice"
code_of (faults.WrongType at) = codes "WrongType"
code_of (faults.WrongCount at) = codes "WrongCount"
code_of (faults.NotFinite at) = codes "NotFinite"
code_of (faults.BackwardInForward at) = codes "BackwardInForward"
code_of (faults.FeedbackTooEarly at) = codes "FeedbackTooEarly"
code_of (faults.NotOne at) = codes "NotOne"
code_of (faults.MissingRow at) = codes "MissingRow"
code_of (faults.RowTwice at) = codes "RowTwice"
code_of (faults.NotClosed at) = codes "NotClosed"
code_of (faults.TooManyValues at) = codes "TooManyValues"
code_of (faults.TooBig at) = codes "TooBig"
code_of (faults.TooManyLines at) = codes "TooManyLines"
code_of (faults.ScaleTooLarge at) = codes "ScaleTooLarge"
code_of faults.Memory = codes "Memory"

-- in bytes from the start of the text
abbrev pub place_of : WireFault → ℕ
place_of (faults.Unknown at) = at
place_of (faults.Twice at) = at
place_of (faults.WrongType at) = at
place_of (faults.WrongCount at) = at
place_of (faults.NotFinite at) = at
place_of (faults.BackwardInForward at) = at
place_of (faults.FeedbackTooEarly at) = at
place_of (faults.NotOne at) = at
place_of (faults.MissingRow at) = at
place_of (faults.RowTwice at) = at
place_of (faults.NotClosed at) = at
place_of (faults.TooManyValues at) = at
place_of (faults.TooBig at) = at
place_of (faults.TooManyLines at) = at
place_of (faults.ScaleTooLarge at) = at
place_of faults.Memory = 0
