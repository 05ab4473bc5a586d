-- Which terminals are one.
use Rattle.std.proofs.Common.{◌≡◌, true, refl, ap, arith}
use Rattle.std.proofs.lemmas.Bool.{eqb-true, eq-eqb}
use denote.Enum.Bare.{tag_one}
use Rattle.og_grammar.specs.declared.terminal.Terminal.{Terminal}
use Rattle.og_grammar.specs.declared.terminal.Terminal.TheVariants.{Name, Under, Number, Text, Word, Mark, Separator}
use Rattle.og_lex.specs.contracts.token.Word as words
use Rattle.og_lex.specs.contracts.token.Mark as marks
use Rattle.og_grammar.specs.Rule.{same_terminal, terminal_number}

pub one_terminal : (k l : Terminal) → same_terminal k l ≡ true → k ≡ l
unfolding same_terminal
one_terminal (Word v) (Word w) e = ap Word (tag_one words.the_type tt v w (omega (arith, eqb-true (terminal_number (Word v)) (terminal_number (Word w)) e)))
one_terminal (Mark v) (Mark w) e = ap Mark (tag_one marks.the_type tt v w (omega (arith, eqb-true (terminal_number (Mark v)) (terminal_number (Mark w)) e)))
one_terminal Name Name e = refl
one_terminal Under Under e = refl
one_terminal Number Number e = refl
one_terminal Text Text e = refl
one_terminal Separator Separator e = refl
one_terminal k l e = absurd (omega (arith, eqb-true (terminal_number k) (terminal_number l) e))

pub equal_terminals : (k l : Terminal) → k ≡ l → same_terminal k l ≡ true
unfolding same_terminal
equal_terminals k l e = eq-eqb (terminal_number k) (terminal_number l) (ap terminal_number e)
