-- Lines and columns of the bytes of a text. A line ends with its line feed.
use Rattle.std.specs.Prelude.{ℕ, ◌+◌, Bool, ◌==◌, not, List, length, take, reverse, count_by}
use Rattle.og_lex.specs.Characters.{run}

abbrev pub is_line_feed : ℕ → Bool
is_line_feed byte = byte == 10

-- right behind these bytes: one more than the line feeds among them
abbrev pub line_at_end : List ℕ → ℕ
line_at_end front = count_by is_line_feed front + 1

-- likewise: one more than the bytes behind the last line feed among them, or than all where there is none
abbrev pub column_at_end : List ℕ → ℕ
column_at_end front = length (run (λ byte. not (is_line_feed byte)) (reverse front)) + 1

-- of the byte at the offset, or of the text's end where there is none
abbrev pub line_of : List ℕ → ℕ → ℕ
line_of text at = line_at_end (take at text)

abbrev pub column_of : List ℕ → ℕ → ℕ
column_of text at = column_at_end (take at text)
