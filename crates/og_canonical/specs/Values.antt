-- The canonical text of values and of rows. Each `step` is the rule for one form, whose parts are already texts.
use Rattle.std.specs.Prelude.{ℕ, ◌==◌, if◌then◌else◌, List, ◌++◌, map}
use Rattle.og_lex.specs.declared.token.Word.TheVariants as words
use Rattle.og_lex.specs.declared.token.Mark.TheVariants as marks
use Rattle.og_syntax.specs.declared.values.ValueTree.{ValueTree}
use Rattle.og_syntax.specs.declared.values.ValueTree.TheOpen.{ValueTree-F}
use Rattle.og_syntax.specs.declared.values.ValueTree.TheOpen as value_level
use Rattle.og_syntax.specs.declared.values.ValueTree.TheFolds.{fold-ValueTree}
use Rattle.og_syntax.specs.declared.values.RowTree.{RowTree}
use Rattle.og_syntax.specs.declared.values.EntryTree.{EntryTree}
use Rattle.og_canonical.specs.Tokens.{spaced, mark, word, number, whole, commas, in_parens}

abbrev pub value_step : ValueTree-F (List ℕ) → List ℕ
value_step (value_level.Name at name) = spaced name
value_step (value_level.Flag at flag) = if flag then word words.True else word words.False
value_step (value_level.Number at n) = whole n
value_step (value_level.Tuple at parts) = in_parens (commas parts)

abbrev pub value_text : ValueTree → List ℕ
value_text = fold-ValueTree (List ℕ) value_step

abbrev pub values_text : List ValueTree → List ℕ
values_text values = commas (map value_text values)

-- values in round brackets, as the key of a row
abbrev pub key_text : List ValueTree → List ℕ
key_text values = in_parens (values_text values)

-- the denominator is left out where it is 1
unfoldable pub weight_text : ℕ → ℕ → List ℕ
weight_text num den = if den == 1 then number num else number num ++ mark marks.Slash ++ number den

unfoldable pub entry_text : EntryTree → List ℕ
entry_text entry = value_text entry.value ++ mark marks.Colon ++ weight_text entry.num entry.den

abbrev pub entries_text : List EntryTree → List ℕ
entries_text entries = commas (map entry_text entries)

unfoldable pub row_text : RowTree → List ℕ
row_text row = key_text row.key ++ mark marks.Arrow ++ entries_text row.entries ++ mark marks.Semicolon
