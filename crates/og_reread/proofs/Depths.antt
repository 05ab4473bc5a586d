-- What holds of the nonterminals, however deep they stand in one another.
use Rattle.std.proofs.Common.{ℕ, zero, suc, Bool, List, ◌++◌}
use Rattle.std.specs.Prelude.{flat_map}
use Rattle.std.specs.List.{AllByRecursion, AllZip}
use Rattle.og_grammar.specs.Lexeme.{Lexeme}
use Rattle.og_grammar.specs.Rule.{Meaning}
use Rattle.og_grammar.specs.Levels.{meaning, meaning_at}
use Rattle.og_syntax.specs.declared.games.GameTree.{GameTree}
use Rattle.og_language.specs.Symbols.{symbols, type_of_values, value, game}
use Rattle.og_language.specs.Language.{language}
use Rattle.og_language.specs.Grammar as g
use Rattle.og_canonical.specs.Types.{ty_text}
use Rattle.og_canonical.specs.Values.{value_text}
use Rattle.og_canonical.specs.Programs.{version_text, decl_text}
use Rattle.og_canonical.specs.Strategies.{section_text}
use Rattle.og_reread.specs.Lexemes.{IsLexeme}
use Rattle.og_reread.proofs.Again.{w_hole, Again}
use Rattle.og_reread.proofs.Tokens.{Equal}
use Rattle.og_reread.proofs.Sames.{SameTy, SameValue, SameDecl, SameSection}
use Rattle.og_reread.proofs.Turns.{Turns}
use Rattle.og_reread.proofs.Types.{a_limits, a_variable, a_name_tree, a_placed_name, a_type, a_type_list, a_params}
use Rattle.og_reread.proofs.Values.{a_value, a_key, a_table_key, a_some_values, a_rows}
use Rattle.og_reread.proofs.ExprLevels as exprs
use Rattle.og_reread.proofs.ExprWriting.{w_expr}
use Rattle.og_reread.proofs.Expressions.{t_expression}
use Rattle.og_reread.proofs.Parts.{Parts}
use Rattle.og_reread.proofs.GameLevels as games
use Rattle.og_reread.proofs.Games.{a_game}
use Rattle.og_reread.proofs.Declarations.{a_program}
use Rattle.og_reread.proofs.Strategies.{a_strategy}

-- What any nonterminal spells is written again.
record Nonterminals (m : Meaning symbols) : Type 0 where
  types : Again m g.ty ty_text SameTy
  values : Again m g.value_part value_text SameValue
  expressions : Turns m g.expr exprs.Whole
  games_at : (b : Bool) (ts : List Lexeme) (x : GameTree) → AllByRecursion IsLexeme ts → m.spelled (game b) ts x → games.Whole b x

parts_of : (m : Meaning symbols) → Nonterminals m → Parts m
parts_of m n = record {
  ty = n.types;
  type_list = a_type_list m n.types;
  variable = a_variable m;
  name_tree = a_name_tree m;
  placed_name = a_placed_name m;
  params = a_params m n.types;
  value = n.values;
  key = a_key m n.values;
  some_values = a_some_values m n.values;
  rows = a_rows m n.values;
  expr = λ ts e real is. w_expr e (n.expressions.such ts e real is);
}

at_depth : (k : ℕ) → Nonterminals (meaning_at language k)
at_depth zero = record {
  types = λ ts v real is. absurd is;
  values = λ ts v real is. absurd is;
  expressions = record { such = λ ts v real is. absurd is };
  games_at = λ b ts v real is. absurd is;
}
at_depth (suc k) =
    let m = meaning_at language k in
    let n = at_depth k in
    let parts = parts_of m n in
    record {
      types = λ ts v real is. w_hole type_of_values (ty_text v) (SameTy v) (a_type m n.types ts v real is);
      values = λ ts v real is. w_hole value (value_text v) (SameValue v) (a_value m n.values ts v real is);
      expressions = record {
        such = λ ts e real is. (t_expression m n.expressions n.types (a_table_key m n.values) (a_limits m)).such ts e real is;
      };
      games_at = λ b ts x real is. a_game m b parts n.games_at ts x real is;
    }

everywhere : Nonterminals (meaning language)
everywhere = record {
  types = λ ts v real is. (at_depth is.0).types ts v real is.1;
  values = λ ts v real is. (at_depth is.0).values ts v real is.1;
  expressions = record { such = λ ts e real is. (at_depth is.0).expressions.such ts e real is.1 };
  games_at = λ b ts x real is. (at_depth is.0).games_at b ts x real is.1;
}

pub program_again : Again (meaning language) g.program (λ v. version_text v.0 ++ flat_map decl_text v.1) (λ v w. Equal v.0 w.0 × AllZip SameDecl v.1 w.1)
program_again = a_program (meaning language) (parts_of (meaning language) everywhere) everywhere.games_at

pub strategy_again : Again (meaning language) g.strategy (flat_map section_text) (AllZip SameSection)
strategy_again = a_strategy (meaning language) everywhere.values
