-- A nonterminal is read as its rule, where it leaves room for it.
use Rattle.std.proofs.Common.{◌≡◌, ℕ, zero, suc, ◌-◌, List, length, Result, Err, refl, arith}
use Rattle.og_grammar.specs.Lexeme.{Lexeme}
use Rattle.og_grammar.specs.declared.fault.Fault.{Fault}
use Rattle.og_grammar.specs.Rule.{hole}
use Rattle.og_grammar.specs.Reading.{read}
use Rattle.og_language.specs.Symbols.{Symbol, TreeOf}
use Rattle.og_language.specs.Language.{rule_of, in_room}
use Rattle.og_terms.specs.Rooms.{Reads}

pub symbol_reads : (room : ℕ) (n : Symbol) (ts new : List Lexeme) (r : Result (TreeOf n) Fault) → (room ≡ 0 → ⊥) → Reads (room - 1) (rule_of n) ts r new → Reads room (hole n) ts r new
symbol_reads zero n ts new r some is = absurd (some refl)
symbol_reads (suc room) n ts new r some is = let one : suc room - 1 ≡ room = omega arith in rw one at is

pub no_room : (room : ℕ) (n : Symbol) (ts : List Lexeme) → room ≡ 0 → read (in_room room) (hole n) ts ≡ Err (length ts)
no_room zero n ts e = refl
no_room (suc room) n ts e = cc
