-- Values, weights, entries and rows, spelled again.
use Rattle.std.proofs.Common.{◌≡◌, ◌∙◌, ℕ, ◌^◌, ◌<◌, ℤ, Bool, true, false, not, cond, ◌==◌, List, [], ◌++◌, Option, None, Some, inl, inr, refl, sym, ap, subst, arith, append_assoc, eqb-true}
use Rattle.std.specs.Prelude.{flat_map}
use Rattle.std.specs.List.{AllByRecursion, AllZip}
use Rattle.std.proofs.lemmas.List.{append-nil}
use Rattle.og_lex.specs.declared.token.Mark.TheVariants as marks
use Rattle.og_lex.specs.declared.token.Word.TheVariants as words
use Rattle.og_grammar.specs.Lexeme.{Lexeme}
use Rattle.og_grammar.specs.Reading.{any}
use Rattle.og_grammar.specs.Rule.{Meaning, Rule, seq, alt, map, at, give, spells}
use Rattle.og_grammar.specs.Combinators as rules
use Rattle.og_syntax.specs.declared.values.ValueTree.{ValueTree}
use Rattle.og_syntax.specs.declared.values.ValueTree.TheOpen as value_level
use Rattle.og_syntax.specs.declared.values.ValueTree.TheFolds.{fold-roll-ValueTree}
use Rattle.og_syntax.specs.declared.values.ValueTree.TheVariants as values
use Rattle.og_syntax.specs.declared.values.RowTree.{RowTree}
use Rattle.og_syntax.specs.Unplaced as u
use Rattle.og_syntax.proofs.WithoutPlaces as without
use Rattle.og_language.specs.Symbols.{symbols}
use Rattle.og_language.specs.Trees.{divisor_of, entry_of}
use Rattle.og_language.specs.Grammar as g
use Rattle.og_canonical.specs.Tokens as c
use Rattle.og_canonical.specs.Values.{value_step, value_text, values_text, key_text, weight_text, entry_text, entries_text, row_text}
use Rattle.og_canonical.proofs.ValueForms.{tuple_text}
use Rattle.og_reread.specs.Lexemes.{IsLexeme}
use Rattle.og_reread.proofs.Rows.{split_all}
use Rattle.og_reread.proofs.Again.{Writes, w_text, w_is, w_give, w_seq, w_map, w_left, w_right, Again, a_seq, a_alt, a_map, a_at, a_star}
use Rattle.og_reread.proofs.Tokens.{Equal, Whatever, w_mark, w_number, a_name, a_word, number_small}
use Rattle.og_reread.proofs.Lists.{w_behind, a_behind_mark, a_before_mark, a_commas, a_commas_or_none, a_two_or_more, a_braces, a_placed_parens}
use Rattle.og_reread.proofs.Sames.{SameValue, SameEntry, SameRow, same_lists}
use Rattle.og_reread.proofs.Types.{a_bound}

-- ---- values

name_unplaced : (place : ℕ) (name : List ℕ) → u.value_unplaced (values.Name place name) ≡ values.Name 0 name
name_unplaced place name =
    ap u.value_unplaced (sym (values.rolls-Name place name)) ∙ fold-roll-ValueTree ValueTree u.value_step (value_level.Name place name)

flag_unplaced : (place : ℕ) (flag : Bool) → u.value_unplaced (values.Flag place flag) ≡ values.Flag 0 flag
flag_unplaced place flag =
    ap u.value_unplaced (sym (values.rolls-Flag place flag)) ∙ fold-roll-ValueTree ValueTree u.value_step (value_level.Flag place flag)

number_unplaced : (place : ℕ) (number : ℤ) → u.value_unplaced (values.Number place number) ≡ values.Number 0 number
number_unplaced place number =
    ap u.value_unplaced (sym (values.rolls-Number place number)) ∙ fold-roll-ValueTree ValueTree u.value_step (value_level.Number place number)

name_text : (place : ℕ) (name : List ℕ) → value_text (values.Name place name) ≡ c.spaced name
name_text place name =
    ap value_text (sym (values.rolls-Name place name)) ∙ fold-roll-ValueTree (List ℕ) value_step (value_level.Name place name)

true_text : (place : ℕ) → value_text (values.Flag place true) ≡ c.word words.True
true_text place =
    ap value_text (sym (values.rolls-Flag place true)) ∙ fold-roll-ValueTree (List ℕ) value_step (value_level.Flag place true)

false_text : (place : ℕ) → value_text (values.Flag place false) ≡ c.word words.False
false_text place =
    ap value_text (sym (values.rolls-Flag place false)) ∙ fold-roll-ValueTree (List ℕ) value_step (value_level.Flag place false)

number_text : (place : ℕ) (number : ℤ) → value_text (values.Number place number) ≡ c.whole number
number_text place number =
    ap value_text (sym (values.rolls-Number place number)) ∙ fold-roll-ValueTree (List ℕ) value_step (value_level.Number place number)

module _ (m : Meaning symbols) where
  name_value : Again m (map (λ v. values.Name v.0 v.1) (at g.name)) value_text SameValue
  unfolding g.name
  name_value =
      a_map m (λ v. values.Name v.0 v.1) (at g.name) (λ v. c.spaced v.1) (λ v w. Equal v.1 w.1) value_text SameValue
      (λ v. sym (name_text v.0 v.1)) (λ v w s. name_unplaced w.0 w.1 ∙ ap (values.Name 0) s ∙ sym (name_unplaced v.0 v.1))
      (a_at m g.name c.spaced Equal (a_name m))

  true_value : Again m (map (λ place. values.Flag place true) (rules.word words.True)) value_text SameValue
  true_value =
      a_map m (λ place. values.Flag place true) (rules.word words.True) (λ _. c.word words.True) Whatever value_text SameValue
      (λ v. sym (true_text v)) (λ v w s. flag_unplaced w true ∙ sym (flag_unplaced v true)) (a_word m words.True)

  false_value : Again m (map (λ place. values.Flag place false) (rules.word words.False)) value_text SameValue
  false_value =
      a_map m (λ place. values.Flag place false) (rules.word words.False) (λ _. c.word words.False) Whatever value_text SameValue
      (λ v. sym (false_text v)) (λ v w s. flag_unplaced w false ∙ sym (flag_unplaced v false)) (a_word m words.False)

  number_value : Again m (map (λ v. values.Number v.0 v.1) (at g.bound)) value_text SameValue
  number_value =
      a_map m (λ v. values.Number v.0 v.1) (at g.bound) (λ v. c.whole v.1) (λ v w. Equal v.1 w.1) value_text SameValue
      (λ v. sym (number_text v.0 v.1)) (λ v w s. number_unplaced w.0 w.1 ∙ ap (values.Number 0) s ∙ sym (number_unplaced v.0 v.1))
      (a_at m g.bound c.whole Equal (a_bound m))

  a_tuple_value : Again m g.value_part value_text SameValue → Again m g.tuple_value value_text SameValue
  unfolding g.tuple_value g.value_parts
  a_tuple_value parts =
      a_map m (λ v. values.Tuple v.0 v.1) (seq (rules.mark marks.LeftParen) (rules.before g.value_parts (rules.mark marks.RightParen)))
      (λ v. key_text v.1) (λ v w. AllZip SameValue v.1 w.1) value_text SameValue
      (λ v. sym (tuple_text v.0 v.1))
      (λ v w s. without.value_tuple w.0 w.1 ∙ ap (values.Tuple 0) (same_lists u.value_unplaced v.1 w.1 s) ∙ sym (without.value_tuple v.0 v.1))
      (a_placed_parens m g.value_parts values_text (AllZip SameValue) (a_two_or_more m g.value_part value_text SameValue parts))

  pub a_value : Again m g.value_part value_text SameValue → Again m g.value_rule value_text SameValue
  unfolding g.value_rule
  a_value parts =
      a_alt m (map (λ v. values.Name v.0 v.1) (at g.name))
      (alt (map (λ place. values.Flag place true) (rules.word words.True))
      (alt (map (λ place. values.Flag place false) (rules.word words.False)) (alt (map (λ v. values.Number v.0 v.1) (at g.bound)) g.tuple_value)))
      value_text SameValue name_value
      (a_alt m (map (λ place. values.Flag place true) (rules.word words.True))
      (alt (map (λ place. values.Flag place false) (rules.word words.False)) (alt (map (λ v. values.Number v.0 v.1) (at g.bound)) g.tuple_value))
      value_text SameValue true_value
      (a_alt m (map (λ place. values.Flag place false) (rules.word words.False)) (alt (map (λ v. values.Number v.0 v.1) (at g.bound)) g.tuple_value)
      value_text SameValue false_value
      (a_alt m (map (λ v. values.Number v.0 v.1) (at g.bound)) g.tuple_value value_text SameValue number_value (a_tuple_value parts))))

-- ---- weights

-- what an entry has for its weight
abbrev numerator_of : Option (ℕ × Option ℕ) → ℕ
numerator_of None = 1
numerator_of (Some weight) = weight.0

abbrev denominator_of : Option (ℕ × Option ℕ) → ℕ
denominator_of None = 1
denominator_of (Some weight) = divisor_of weight.1

abbrev SameWeight : ℕ → ℕ → Option (ℕ × Option ℕ) → Type 0
SameWeight num den w = (numerator_of w ≡ num) × (denominator_of w ≡ den)

abbrev divisor : Rule symbols ℕ
divisor = rules.behind (rules.mark marks.Slash) g.nonzero

no_divisor : Writes (rules.opt divisor) [] (λ v. divisor_of v ≡ 1)
no_divisor = w_right (map Some divisor) (give None) [] (λ v. divisor_of v ≡ 1) (w_give None (λ v. divisor_of v ≡ 1) refl)

some_divisor : (den : ℕ) → den < 2 ^ 63 → not (den == 0) ≡ true → Writes (rules.opt divisor) (c.mark marks.Slash ++ c.number den) (λ v. divisor_of v ≡ den)
unfolding g.nonzero
some_divisor den small nonzero =
    w_left (map Some divisor) (give None) (c.mark marks.Slash ++ c.number den) (λ v. divisor_of v ≡ den)
    (w_map Some divisor (c.mark marks.Slash ++ c.number den) (Equal den) (λ v. divisor_of v ≡ den) (λ d is. is)
    (w_behind (rules.mark marks.Slash) g.nonzero (c.mark marks.Slash) (c.number den) (λ _. Unit {0}) (Equal den) (w_mark marks.Slash)
    (w_number den small (λ t. not (t.value == 0)) (λ t e. ap (λ n. not (n == 0)) e ∙ nonzero))))

weight_part : (num den : ℕ) → num < 2 ^ 63 → den < 2 ^ 63 → not (den == 0) ≡ true
    → Writes (seq rules.number (rules.opt divisor)) (weight_text num den) (λ v. (v.0 ≡ num) × (divisor_of v.1 ≡ den))
unfolding weight_text
weight_part num den small_num small_den nonzero = by (den == 1) refl
  where
    shown : (b : Bool) → den == 1 ≡ b → weight_text num den ≡ cond b (c.number num) (c.number num ++ c.mark marks.Slash ++ c.number den)
    shown b e = ap (λ t. cond t (c.number num) (c.number num ++ c.mark marks.Slash ++ c.number den)) e

    by : (b : Bool) → den == 1 ≡ b → Writes (seq rules.number (rules.opt divisor)) (weight_text num den) (λ v. (v.0 ≡ num) × (divisor_of v.1 ≡ den))
    by true e =
        w_text (seq rules.number (rules.opt divisor)) (c.number num ++ []) (weight_text num den) (λ v. (v.0 ≡ num) × (divisor_of v.1 ≡ den))
        (append-nil (c.number num) ∙ sym (shown true e))
        (w_is (seq rules.number (rules.opt divisor)) (c.number num ++ []) (λ v. (v.0 ≡ num) × (divisor_of v.1 ≡ den)) (λ v. (v.0 ≡ num) × (divisor_of v.1 ≡ 1))
        (λ v is. (is.0, is.1 ∙ sym (eqb-true den 1 e)))
        (w_seq rules.number (rules.opt divisor) (c.number num) [] (Equal num) (λ v. divisor_of v ≡ 1) (w_number num small_num any (λ t e. refl)) no_divisor))
    by false e =
        w_text (seq rules.number (rules.opt divisor)) (c.number num ++ (c.mark marks.Slash ++ c.number den)) (weight_text num den)
        (λ v. (v.0 ≡ num) × (divisor_of v.1 ≡ den))
        (sym (append_assoc (c.number num) (c.mark marks.Slash) (c.number den)) ∙ sym (shown false e))
        (w_seq rules.number (rules.opt divisor) (c.number num) (c.mark marks.Slash ++ c.number den) (Equal num) (λ v. divisor_of v ≡ den)
        (w_number num small_num any (λ t e. refl)) (some_divisor den small_den nonzero))

-- the weight of an entry is always written
w_weight : (num den : ℕ) → num < 2 ^ 63 → den < 2 ^ 63 → not (den == 0) ≡ true
    → Writes (rules.opt g.weight) (c.mark marks.Colon ++ weight_text num den) (SameWeight num den)
unfolding g.weight
w_weight num den small_num small_den nonzero =
    w_left (map Some g.weight) (give None) (c.mark marks.Colon ++ weight_text num den) (SameWeight num den)
    (w_map Some g.weight (c.mark marks.Colon ++ weight_text num den) (λ v. (v.0 ≡ num) × (divisor_of v.1 ≡ den)) (SameWeight num den) (λ v is. is)
    (w_behind (rules.mark marks.Colon) (seq rules.number (rules.opt divisor)) (c.mark marks.Colon) (weight_text num den) (λ _. Unit {0})
    (λ v. (v.0 ≡ num) × (divisor_of v.1 ≡ den)) (w_mark marks.Colon) (weight_part num den small_num small_den nonzero)))

module _ (m : Meaning symbols) where
  number_fits : (ts : List Lexeme) (n : ℕ) → AllByRecursion IsLexeme ts → spells m rules.number ts n → n < 2 ^ 63
  number_fits ts n real (t, (is, same, passes), made) =
      let lexeme = (subst (AllByRecursion IsLexeme) is real).0 in
      subst (λ k. k < 2 ^ 63) (sym made) (number_small m t lexeme same)

  -- a divisor that is read
  abbrev IsDivisor : ℕ → Type 0
  IsDivisor d = (d < 2 ^ 63) × (not (d == 0) ≡ true)

  nonzero_fits : (ts : List Lexeme) (n : ℕ) → AllByRecursion IsLexeme ts → spells m g.nonzero ts n → IsDivisor n
  unfolding g.nonzero
  nonzero_fits ts n real (t, (is, same, passes), made) =
      let lexeme = (subst (AllByRecursion IsLexeme) is real).0 in
      (subst (λ k. k < 2 ^ 63) (sym made) (number_small m t lexeme same), ap (λ k. not (k == 0)) made ∙ passes)

  divisor_fits : (ts : List Lexeme) (d : Option ℕ) → AllByRecursion IsLexeme ts → spells m (rules.opt divisor) ts d → IsDivisor (divisor_of d)
  divisor_fits ts d real (inl (n, (v, (xs, ys, cut, slash, number), of), made)) =
      let parts = split_all IsLexeme xs ys (subst (AllByRecursion IsLexeme) cut real) in
      subst (λ o. IsDivisor (divisor_of o)) (sym made)
      (subst IsDivisor (sym of) (nonzero_fits ys v.1 parts.1 number))
  divisor_fits ts d real (inr (none, made)) = subst (λ o. IsDivisor (divisor_of o)) (sym made) (omega arith, refl)

  a_weight : Again m (rules.opt g.weight) (λ o. c.mark marks.Colon ++ weight_text (numerator_of o) (denominator_of o))
      (λ a b. SameWeight (numerator_of a) (denominator_of a) b)
  unfolding g.weight
  a_weight ts o real (inl (w, (v, (xs, ys, cut, colon, (ps, qs, more, number, over)), of), made)) =
      let parts = split_all IsLexeme xs ys (subst (AllByRecursion IsLexeme) cut real) in
      let ends = split_all IsLexeme ps qs (subst (AllByRecursion IsLexeme) more parts.1) in
      let num = number_fits ps v.1.0 ends.0 number in
      let den = divisor_fits qs v.1.1 ends.1 over in
      subst (λ x. Writes (rules.opt g.weight) (c.mark marks.Colon ++ weight_text (numerator_of x) (denominator_of x)) (SameWeight (numerator_of x) (denominator_of x)))
      (sym (made ∙ ap Some of)) (w_weight v.1.0 (divisor_of v.1.1) num den.0 den.1)
  a_weight ts o real (inr (none, made)) =
      subst (λ x. Writes (rules.opt g.weight) (c.mark marks.Colon ++ weight_text (numerator_of x) (denominator_of x)) (SameWeight (numerator_of x) (denominator_of x)))
      (sym made) (w_weight 1 1 (omega arith) (omega arith) refl)

-- ---- entries and rows

-- an entry by its parts
entry_text_is : (v : ValueTree) (o : Option (ℕ × Option ℕ))
    → value_text v ++ (c.mark marks.Colon ++ weight_text (numerator_of o) (denominator_of o)) ≡ entry_text (entry_of v o)
unfolding entry_text
entry_text_is v None = sym (append_assoc (value_text v) (c.mark marks.Colon) (weight_text 1 1))
entry_text_is v (Some w) = sym (append_assoc (value_text v) (c.mark marks.Colon) (weight_text w.0 (divisor_of w.1)))

entry_of_is : (v : ValueTree) (o : Option (ℕ × Option ℕ))
    → entry_of v o ≡ record { value = v; num = numerator_of o; den = denominator_of o }
entry_of_is v None = refl
entry_of_is v (Some w) = refl

same_entry : (v w : ValueTree) (o p : Option (ℕ × Option ℕ)) → SameValue v w → SameWeight (numerator_of o) (denominator_of o) p
    → SameEntry (entry_of v o) (entry_of w p)
same_entry v w o p value weight =
    ap u.entry_unplaced (entry_of_is w p) ∙ (λ i. record { value = value i; num = weight.0 i; den = weight.1 i })
    ∙ ap u.entry_unplaced (sym (entry_of_is v o))

-- four texts, grouped to the right and to the left
left_four : (a b d e : List ℕ) → a ++ (b ++ (d ++ e)) ≡ a ++ b ++ d ++ e
left_four a b d e = sym (append_assoc a b (d ++ e)) ∙ sym (append_assoc (a ++ b) d e)

same_row : (v w : RowTree) → AllZip SameValue v.key w.key → AllZip SameEntry v.entries w.entries → SameRow v w
same_row v w keys entries i = record {
  at = 0;
  key = same_lists u.value_unplaced v.key w.key keys i;
  entries = same_lists u.entry_unplaced v.entries w.entries entries i;
}

module _ (m : Meaning symbols) (values : Again m g.value_part value_text SameValue) where
  pub a_values_or_none : Again m g.values_or_none values_text (AllZip SameValue)
  unfolding g.values_or_none
  a_values_or_none = a_commas_or_none m g.value_part value_text SameValue values

  pub a_some_values : Again m g.some_values values_text (AllZip SameValue)
  unfolding g.some_values
  a_some_values = a_commas m g.value_part value_text SameValue values

  pub a_key : Again m g.key (λ v. key_text v.1) (λ v w. AllZip SameValue v.1 w.1)
  unfolding g.key
  a_key = a_placed_parens m g.values_or_none values_text (AllZip SameValue) a_values_or_none

  pub a_table_key : Again m g.table_key (λ v. key_text v.1) (λ v w. AllZip SameValue v.1 w.1)
  unfolding g.table_key
  a_table_key = a_placed_parens m g.some_values values_text (AllZip SameValue) a_some_values

  pub a_entry : Again m g.entry entry_text SameEntry
  unfolding g.entry
  a_entry =
      a_map m (λ v. entry_of v.0 v.1) (seq g.value_part (rules.opt g.weight))
      (λ v. value_text v.0 ++ (c.mark marks.Colon ++ weight_text (numerator_of v.1) (denominator_of v.1)))
      (λ v w. SameValue v.0 w.0 × SameWeight (numerator_of v.1) (denominator_of v.1) w.1) entry_text SameEntry
      (λ v. entry_text_is v.0 v.1) (λ v w s. same_entry v.0 w.0 v.1 w.1 s.0 s.1)
      (a_seq m g.value_part (rules.opt g.weight) value_text (λ o. c.mark marks.Colon ++ weight_text (numerator_of o) (denominator_of o))
      SameValue (λ a b. SameWeight (numerator_of a) (denominator_of a) b) values (a_weight m))

  pub a_entries : Again m g.entries entries_text (AllZip SameEntry)
  unfolding g.entries
  a_entries = a_commas m g.entry entry_text SameEntry a_entry

  pub a_row : Again m g.row row_text SameRow
  unfolding g.row row_text
  a_row =
      a_map m (λ v. record { at = v.0.0; key = v.0.1; entries = v.1 })
      (seq g.key (rules.behind (rules.mark marks.Arrow) (rules.before g.entries (rules.mark marks.Semicolon))))
      (λ v. key_text v.0.1 ++ (c.mark marks.Arrow ++ (entries_text v.1 ++ c.mark marks.Semicolon)))
      (λ v w. AllZip SameValue v.0.1 w.0.1 × AllZip SameEntry v.1 w.1) row_text SameRow
      (λ v. left_four (key_text v.0.1) (c.mark marks.Arrow) (entries_text v.1) (c.mark marks.Semicolon))
      (λ v w s.
      same_row (record { at = v.0.0; key = v.0.1; entries = v.1 }) (record { at = w.0.0; key = w.0.1; entries = w.1 }) s.0 s.1)
      (a_seq m g.key (rules.behind (rules.mark marks.Arrow) (rules.before g.entries (rules.mark marks.Semicolon)))
      (λ v. key_text v.1) (λ es. c.mark marks.Arrow ++ (entries_text es ++ c.mark marks.Semicolon))
      (λ v w. AllZip SameValue v.1 w.1) (AllZip SameEntry) a_key
      (a_behind_mark m marks.Arrow (rules.before g.entries (rules.mark marks.Semicolon)) (λ es. entries_text es ++ c.mark marks.Semicolon) (AllZip SameEntry)
      (a_before_mark m marks.Semicolon g.entries entries_text (AllZip SameEntry) a_entries)))

  pub a_rows_or_none : Again m g.rows_or_none (flat_map row_text) (AllZip SameRow)
  unfolding g.rows_or_none
  a_rows_or_none = a_star m g.row row_text SameRow a_row

  pub a_rows : Again m g.rows (λ rs. c.in_braces (flat_map row_text rs)) (AllZip SameRow)
  unfolding g.rows
  a_rows = a_braces m g.rows_or_none (flat_map row_text) (AllZip SameRow) a_rows_or_none
