-- A text has at most one small tree, and none where its one row of tokens is none.
use Rattle.std.proofs.Common.{◌≡◌, ℕ, List, Option, None, Some, Ok, subst}
use Rattle.og_lex.specs.declared.token.Token.{Token}
use Rattle.og_syntax.specs.declared.declarations.Program.{Program}
use Rattle.og_syntax.specs.declared.strategies.StrategyFile.{StrategyFile}
use Rattle.og_parse.specs.Parsed.{ParsesProgram, ParsesStrategy}
use Rattle.og_texts.specs.Texts.{HasTokens}
use Rattle.og_small.specs.declared.tree.SmallGame.{SmallGame}
use Rattle.og_small.specs.declared.tree.Section.{Section}
use Rattle.og_read.specs.Spelled.{SpellsGame, SpellsStrategy}
use Rattle.og_wires.specs.Sites.{Blocks}
use Rattle.og_wires.specs.Programs.{IsWired}
use Rattle.og_tool.specs.Texts.{IsSmallGame, IsSmallStrategy, IsGame, IsStrategy, IsMiswired, FindsGame, FindsStrategy, ReadsGame, ReadsStrategy}
use Rattle.og_tool.proofs.OneRow.{OneLexing, same_tokens}

-- what the readers' own crate says
abbrev pub OneGame : Type 0
OneGame = (text : List ℕ) (tokens : List Token) (one other : SmallGame) → SpellsGame text tokens one → SpellsGame text tokens other → one ≡ other

abbrev pub OneStrategy : Type 0
OneStrategy = (text : List ℕ) (tokens : List Token) (one other : List Section) → SpellsStrategy text tokens one → SpellsStrategy text tokens other → one ≡ other

module _ (lexing : OneLexing) (text : List ℕ) where
  -- what the one row of tokens is
  game_at : (ts : List Token) → HasTokens text ts → (tree : SmallGame) (g : IsGame text tree) → IsSmallGame text ts tree
  game_at ts has tree g =
      subst (λ (us : List Token). IsSmallGame text us tree)
      (same_tokens lexing text g.is_program.tokens ts g.is_program.has_tokens.tokens has.tokens) g.is_small

  strategy_at : (ts : List Token) → HasTokens text ts → (sections : List Section) (s : IsStrategy text sections) → IsSmallStrategy text ts sections
  strategy_at ts has sections s =
      subst (λ (us : List Token). IsSmallStrategy text us sections)
      (same_tokens lexing text s.is_file.tokens ts s.is_file.has_tokens.tokens has.tokens) s.is_small

  pub same_game : OneGame → (one other : SmallGame) → IsGame text one → IsGame text other → one ≡ other
  same_game law one other g h =
      law text h.is_program.tokens one other (game_at h.is_program.tokens h.is_program.has_tokens one g).spelled h.is_small.spelled

  pub same_strategy : OneStrategy → (one other : List Section) → IsStrategy text one → IsStrategy text other → one ≡ other
  same_strategy law one other s t =
      law text t.is_file.tokens one other (strategy_at t.is_file.tokens t.is_file.has_tokens one s).spelled t.is_small.spelled

  game_found : (blocks : Blocks) (ts : List Token) (has : HasTokens text ts) (p : Program) → ParsesProgram text ts (Ok p)
      → IsWired blocks p → (found : Option SmallGame) → FindsGame text ts found → ReadsGame blocks text (Ok found)
  game_found blocks ts has p parsed wired (Some tree) is = record {
    is_game = record { program = p; is_program = record { tokens = ts; has_tokens = has; parsed = parsed }; is_small = is };
    wired = wired;
  }
  game_found blocks ts has p parsed wired None none = record {
    no_game = record {
      program = p;
      is_program = record { tokens = ts; has_tokens = has; parsed = parsed };
      none = λ tree g. none tree (game_at ts has tree g);
    };
    wired = wired;
  }

  strategy_found : (ts : List Token) (has : HasTokens text ts) (p : StrategyFile) → ParsesStrategy text ts (Ok p)
      → (found : Option (List Section)) → FindsStrategy text ts found → ReadsStrategy text (Ok found)
  strategy_found ts has p parsed (Some sections) is =
      record { file = p; is_file = record { tokens = ts; has_tokens = has; parsed = parsed }; is_small = is }
  strategy_found ts has p parsed None none = record {
    file = p;
    is_file = record { tokens = ts; has_tokens = has; parsed = parsed };
    none = λ sections s. none sections (strategy_at ts has sections s);
  }

  -- the same of the text and the slice that the readers were lent
  pub game_read : (blocks : Blocks) (ts : List Token) (has : HasTokens text ts) (p : Program) → ParsesProgram text ts (Ok p)
      → IsWired blocks p → (lent : List ℕ) (slice : List Token) → lent ≡ text → slice ≡ ts
      → (found : Option SmallGame) → FindsGame lent slice found → ReadsGame blocks text (Ok found)
  game_read blocks ts has p parsed wired lent slice same all found is =
      game_found blocks ts has p parsed wired found
      (subst (λ (us : List Token). FindsGame text us found) all (subst (λ (s : List ℕ). FindsGame s slice found) same is))

  pub strategy_read : (ts : List Token) (has : HasTokens text ts) (p : StrategyFile) → ParsesStrategy text ts (Ok p)
      → (lent : List ℕ) (slice : List Token) → lent ≡ text → slice ≡ ts
      → (found : Option (List Section)) → FindsStrategy lent slice found → ReadsStrategy text (Ok found)
  strategy_read ts has p parsed lent slice same all found is =
      strategy_found ts has p parsed found
      (subst (λ (us : List Token). FindsStrategy text us found) all (subst (λ (s : List ℕ). FindsStrategy s slice found) same is))
