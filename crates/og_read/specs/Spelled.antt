-- What a reader of a whole text answers.
use Rattle.std.specs.Prelude.{ℕ, List, Option, MatchOption}
use Rattle.og_lex.specs.declared.token.Token.{Token}
use Rattle.og_small.specs.declared.tree.SmallGame.{SmallGame}
use Rattle.og_small.specs.declared.tree.Section.{Section}
use Rattle.og_grammar.specs.Lexeme.{lexemes_of}
use Rattle.og_grammar.specs.Rule.{spells}
use Rattle.og_grammar.specs.Alone.{alone}
use Rattle.og_grammar.specs.Levels.{meaning}
use Rattle.og_read.specs.Grammar.{game, strategy}

-- all the tokens, which are of the text, are a small game, and this is its tree
abbrev pub SpellsGame : List ℕ → List Token → SmallGame → Type 0
SpellsGame text tokens found = spells (meaning alone) game (lexemes_of text tokens) found

-- all the tokens are sections of a strategy, and these are they
abbrev pub SpellsStrategy : List ℕ → List Token → List Section → Type 0
SpellsStrategy text tokens found = spells (meaning alone) strategy (lexemes_of text tokens) found

-- the small game that the tokens spell, and None exactly where they spell none
abbrev pub FindsGame : List ℕ → List Token → Option SmallGame → Type 0
FindsGame text tokens found =
    MatchOption found ((other : SmallGame) → SpellsGame text tokens other → ⊥) (SpellsGame text tokens)

-- the sections that the tokens spell, and None exactly where they spell none
abbrev pub FindsStrategy : List ℕ → List Token → Option (List Section) → Type 0
FindsStrategy text tokens found =
    MatchOption found ((other : List Section) → SpellsStrategy text tokens other → ⊥) (SpellsStrategy text tokens)
