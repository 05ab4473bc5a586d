-- Canonical texts are read back.
use Rattle.std.proofs.Common.{◌≡◌, ℕ, ◌+◌, List, [], ◌∷◌, length, Ok, refl, sym, subst}
use Rattle.std.specs.Prelude.{slice_range}
use Rattle.std.specs.List.{AllByRecursion, AllZip}
use Rattle.std.specs.Str.{IsUtf8}
use Rattle.og_lex.specs.declared.token.Token.{Token}
use Rattle.og_lex.specs.Spelling.{AreTokens, IsTokenOf}
use Rattle.og_lex.specs.Written.{Written, IsWritten, text_of, placed}
use Rattle.og_lex.proofs.Placed.{in_turn_from}
use Rattle.og_grammar.specs.Lexeme.{terminal_of, value_of, lexeme_of, lexemes_of}
use Rattle.og_grammar.specs.Rule.{Rule, spells}
use Rattle.og_grammar.specs.Levels.{meaning}
use Rattle.og_syntax.specs.Unplaced.{decl_unplaced, section_unplaced}
use Rattle.og_syntax.specs.declared.declarations.Program.{Program}
use Rattle.og_syntax.specs.declared.strategies.StrategyFile.{StrategyFile}
use Rattle.og_language.specs.Symbols.{symbols}
use Rattle.og_language.specs.Language.{language}
use Rattle.og_language.specs.Grammar as g
use Rattle.og_canonical.specs.Programs.{program_text}
use Rattle.og_canonical.specs.Strategies.{file_text}
use Rattle.og_texts.specs.Texts.{HasTokens, IsProgram, IsStrategyFile}
use Rattle.og_reread.specs.Lexemes.{IsLexeme}
use Rattle.og_reread.specs.Rereading.{IsSomeProgram, IsSomeStrategy, KeepsLimits, IsProgramAgain, IsStrategyAgain}
use Rattle.og_reread.proofs.Rows.{lexemes}
use Rattle.og_reread.proofs.Again.{Writes}
use Rattle.og_reread.proofs.Sames.{same_lists}
use Rattle.og_reread.proofs.Depths.{program_again, strategy_again}

-- what the crate of the tokens says of those that are written with blanks
abbrev pub TextUtf8 : Type 0
TextUtf8 = (ws : List Written) → AllByRecursion IsWritten ws → IsUtf8 (text_of ws)

abbrev pub TextTokens : Type 0
TextTokens = (ws : List Written) → AllByRecursion IsWritten ws → AreTokens (text_of ws) (placed 0 ws)

abbrev pub TextBytes : Type 0
TextBytes = (ws : List Written) → AllZip (λ (w : Written) (t : Token). slice_range (text_of ws) t.start t.end ≡ w.bytes) ws (placed 0 ws)

-- the lexemes of the tokens are those that were written
same_lexemes : (text : List ℕ) (place : ℕ) (ws : List Written)
    → AllZip (λ (w : Written) (t : Token). slice_range text t.start t.end ≡ w.bytes) ws (placed place ws)
    → lexemes_of text (placed place ws) ≡ lexemes place ws
same_lexemes text place [] all = refl
same_lexemes text place (w ∷ ws) (one, all) =
    λ i. record {
      terminal = terminal_of w.kind;
      value = value_of w.kind;
      start = place;
      spelling = one i;
    } ∷ same_lexemes text (place + length w.bytes + 1) ws all i

-- The text has tokens that the rule spells, for a value that is such.
record IsSpelled {A : Type 0} (rule : Rule symbols A) (text : List ℕ) (Is : A → Type 0) : Type 0 where
  utf8 : IsUtf8 text
  tokens : List Token
  are_tokens : AreTokens text tokens
  value : A
  spelled : spells (meaning language) rule (lexemes_of text tokens) value
  is : Is value

module _ (utf8 : TextUtf8) (tokens : TextTokens) (bytes : TextBytes) where
  spelled_text : {A : Type 0} (rule : Rule symbols A) (text : List ℕ) (Is : A → Type 0) → Writes rule text Is → IsSpelled rule text Is
  spelled_text rule text Is w =
      subst (λ t. IsSpelled rule t Is) (sym w.is_text)
      (let s = w.spelled 0 in
      record {
        utf8 = utf8 w.row w.good;
        tokens = placed 0 w.row;
        are_tokens = tokens w.row w.good;
        value = s.0;
        spelled = subst (λ ts. spells (meaning language) rule ts s.0) (sym (same_lexemes (text_of w.row) 0 w.row (bytes w.row))) s.1;
        is = s.2;
      })

  pub program_back : (p : Program) → IsSomeProgram p → KeepsLimits (program_text p) → IsProgramAgain p
  program_back p (ts, real, spelled) limits =
      let s = spelled_text g.program (program_text p) _ (program_again ts (p.version, p.decls) real spelled) in
      record {
        again = record { at = length (program_text p); version = s.value.0; decls = s.value.1 };
        is_program = record {
          tokens = s.tokens;
          has_tokens = record { is_text = record { short = limits.short; utf8 = s.utf8 }; tokens = s.are_tokens };
          parsed = (refl, (s.spelled, limits.shallow s.tokens s.are_tokens));
        };
        same = λ i. record { at = 0; version = s.is.0 i; decls = same_lists decl_unplaced p.decls s.value.1 s.is.1 i };
      }

  pub strategy_back : (file : StrategyFile) → IsSomeStrategy file → KeepsLimits (file_text file) → IsStrategyAgain file
  strategy_back file (ts, real, spelled) limits =
      let s = spelled_text g.strategy (file_text file) _ (strategy_again ts file.sections real spelled) in
      record {
        again = record { at = length (file_text file); sections = s.value };
        is_file = record {
          tokens = s.tokens;
          has_tokens = record { is_text = record { short = limits.short; utf8 = s.utf8 }; tokens = s.are_tokens };
          parsed = (refl, (s.spelled, limits.shallow s.tokens s.are_tokens));
        };
        same = λ i. record { at = 0; sections = same_lists section_unplaced file.sections s.value s.is i };
      }

-- ---- the tokens of a text

one_lexeme : (text : List ℕ) (t : Token) → IsTokenOf text t → IsLexeme (lexeme_of text t)
one_lexeme text t is = record { kind = t.kind; terminal = refl; value = refl; utf8 = is.utf8; spelled = is.spelled }

all_lexemes : (text : List ℕ) (ts : List Token) → AllByRecursion (IsTokenOf text) ts → AllByRecursion IsLexeme (lexemes_of text ts)
all_lexemes text [] all = tt
all_lexemes text (t ∷ ts) (one, all) = (one_lexeme text t one, all_lexemes text ts all)

of_text : (text : List ℕ) (ts : List Token) → HasTokens text ts → AllByRecursion IsLexeme (lexemes_of text ts)
of_text text ts has = all_lexemes text ts (in_turn_from text (Ok ts) has.is_text.utf8 has.tokens)

pub some_program : (text : List ℕ) (p : Program) → IsProgram text p → IsSomeProgram p
some_program text p is = (lexemes_of text is.tokens, of_text text is.tokens is.has_tokens, is.parsed.1.0)

pub some_strategy : (text : List ℕ) (file : StrategyFile) → IsStrategyFile text file → IsSomeStrategy file
some_strategy text file is = (lexemes_of text is.tokens, of_text text is.tokens is.has_tokens, is.parsed.1.0)
