-- Strategy files, spelled again.
use Rattle.std.proofs.Common.{◌≡◌, ◌∙◌, ◌++◌, refl, sym, ap, append_assoc}
use Rattle.std.specs.Prelude.{flat_map}
use Rattle.std.specs.List.{AllZip}
use Rattle.og_lex.specs.declared.token.Mark.TheVariants as marks
use Rattle.og_lex.specs.declared.token.Word.TheVariants as words
use Rattle.og_grammar.specs.Rule.{Meaning, seq, at}
use Rattle.og_grammar.specs.Combinators as rules
use Rattle.og_syntax.specs.declared.strategies.Section.{Section}
use Rattle.og_syntax.specs.Unplaced as u
use Rattle.og_language.specs.Symbols.{symbols}
use Rattle.og_language.specs.Grammar as g
use Rattle.og_canonical.specs.Tokens as c
use Rattle.og_canonical.specs.Values.{value_text, row_text}
use Rattle.og_canonical.specs.Strategies.{head_text, section_text}
use Rattle.og_reread.proofs.Again.{Again, a_seq, a_map, a_at, a_star}
use Rattle.og_reread.proofs.Tokens.{Equal, Whatever, a_word, a_quoted}
use Rattle.og_reread.proofs.Sames.{SameValue, SameName, SameRow, SameSection, same_lists}
use Rattle.og_reread.proofs.Values.{a_rows}

-- a section by its parts
section_text_is : (section : Section)
    → c.word words.Strategy ++ (c.quoted section.agent.name ++ c.in_braces (flat_map row_text section.rows)) ≡ section_text section
unfolding section_text head_text
section_text_is section =
    let head = c.word words.Strategy in
    let agent = c.quoted section.agent.name in
    let left = c.mark marks.LeftBrace in
    let rows = flat_map row_text section.rows in
    let right = c.mark marks.RightBrace in
    sym (append_assoc head agent (left ++ rows ++ right))
    ∙ sym (append_assoc (head ++ agent) (left ++ rows) right)
    ∙ ap (λ l. l ++ right) (sym (append_assoc (head ++ agent) left rows))

same_section : (v w : Section) → SameName v.agent w.agent → AllZip SameRow v.rows w.rows → SameSection v w
same_section v w agent rows i =
    record { at = 0; agent = agent i; rows = same_lists u.row_unplaced v.rows w.rows rows i }

module _ (m : Meaning symbols) (values : Again m g.value_part value_text SameValue) where
  pub a_placed_quoted : Again m g.placed_quoted (λ n. c.quoted n.name) SameName
  unfolding g.placed_quoted
  a_placed_quoted =
      a_map m (λ v. record { at = v.0; name = v.1 }) (at rules.quoted) (λ v. c.quoted v.1) (λ v w. Equal v.1 w.1) (λ n. c.quoted n.name) SameName
      (λ v. refl) (λ v w s i. record { at = 0; name = s i }) (a_at m rules.quoted c.quoted Equal (a_quoted m))

  pub a_section : Again m g.section section_text SameSection
  unfolding g.section
  a_section =
      a_map m (λ v. record { at = v.0; agent = v.1.0; rows = v.1.1 }) (seq (rules.word words.Strategy) (seq g.placed_quoted g.rows))
      (λ v. c.word words.Strategy ++ (c.quoted v.1.0.name ++ c.in_braces (flat_map row_text v.1.1)))
      (λ v w. Unit {0} × (SameName v.1.0 w.1.0 × AllZip SameRow v.1.1 w.1.1)) section_text SameSection
      (λ v. section_text_is (record { at = v.0; agent = v.1.0; rows = v.1.1 }))
      (λ v w s.
      same_section (record { at = v.0; agent = v.1.0; rows = v.1.1 }) (record { at = w.0; agent = w.1.0; rows = w.1.1 }) s.1.0 s.1.1)
      (a_seq m (rules.word words.Strategy) (seq g.placed_quoted g.rows) (λ _. c.word words.Strategy)
      (λ v. c.quoted v.0.name ++ c.in_braces (flat_map row_text v.1)) Whatever (λ v w. SameName v.0 w.0 × AllZip SameRow v.1 w.1)
      (a_word m words.Strategy)
      (a_seq m g.placed_quoted g.rows (λ n. c.quoted n.name) (λ rs. c.in_braces (flat_map row_text rs)) SameName (AllZip SameRow)
      a_placed_quoted (a_rows m values)))

  pub a_strategy : Again m g.strategy (flat_map section_text) (AllZip SameSection)
  unfolding g.strategy
  a_strategy = a_star m g.section section_text SameSection a_section
