use Rattle.std.proofs.Common.{◌≡◌, drop}
use Rattle.og_lex.specs.LeftToRight.{word_among}
use Rattle.og_lex.proofs.reader.word_among.Given as goal

abbrev pub invariant-words : goal.invariant-words
invariant-words l = word_among l.words l.name ≡ word_among (drop l.word-index l.words) l.name
