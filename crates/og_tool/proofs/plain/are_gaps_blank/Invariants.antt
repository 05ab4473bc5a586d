use Rattle.std.proofs.Common.{◌≡◌, drop, length}
use Rattle.og_lex.specs.Spelling.{AreInOrder}
use Rattle.og_tool.specs.Texts.{are_gaps_blank}
use Rattle.og_tool.proofs.plain.are_gaps_blank.Given as goal

abbrev pub invariant-tokens : goal.invariant-tokens
invariant-tokens l =
    AreInOrder l.place (length l.text) (drop l.token-index l.tokens)
    × (are_gaps_blank l.text l.place (drop l.token-index l.tokens) ≡ are_gaps_blank l.text 0 l.tokens)
