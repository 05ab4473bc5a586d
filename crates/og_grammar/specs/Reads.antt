-- What a function that reads promises.
use Rattle.std.specs.Prelude.{◌≡◌, List, Result, Ok, Err}
use Rattle.og_grammar.specs.Lexeme.{Lexeme}
use Rattle.og_grammar.specs.declared.fault.Fault.{Fault}
use Rattle.og_grammar.specs.declared.fault.Fault.TheVariants.{Memory, Syntax}
use Rattle.og_grammar.specs.Rule.{Nonterminals, Rule}
use Rattle.og_grammar.specs.Reading.{Readers, Outcome, read}

-- The result is what is read in the old tokens: the value, with the new tokens behind it, or the fault,
-- after which nothing is said of the new tokens. A want of memory says nothing of either.
abbrev pub ReadsBy : {A : Type 0} → (List Lexeme → Outcome A) → List Lexeme → Result A Fault → List Lexeme → Type 0
ReadsBy reading old (Ok a) new = reading old ≡ Ok (a, new)
ReadsBy reading old (Err Memory) new = Unit {0}
ReadsBy reading old (Err (Syntax left)) new = reading old ≡ Err left

-- what a function that reads a rule promises
abbrev pub Reads : {N : Nonterminals} {A : Type 0} → Readers N → Rule N A → List Lexeme → Result A Fault → List Lexeme → Type 0
Reads d rule = ReadsBy (read d rule)
