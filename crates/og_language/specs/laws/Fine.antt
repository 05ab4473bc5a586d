-- The language is read by the next token alone: nonterminal by nonterminal, and then programs and strategy files.
use Rattle.std.specs.Prelude.{◌≡◌, true, false, Bool, List, refl}
use Rattle.std.specs.List.{list_all}
use Rattle.og_grammar.specs.Lexeme.{Lexeme}
use Rattle.og_grammar.specs.Rule.{same_terminal}
use Rattle.og_grammar.specs.Reading.{has, sees_any, nullable, first, more, fine}
use Rattle.og_grammar.specs.Levels.{guarded, IsFine}
use Rattle.og_grammar.proofs.TerminalSets.{sees_outside}
use Rattle.og_language.specs.Symbols.{Symbol, type_of_values, value, expression, game}
use Rattle.og_language.specs.Begins.{type_begins, value_begins, primary_begins, operand_begins, expression_begins, plain_game_begins, operators, compositions, begins, goes_on, tables}
use Rattle.og_language.specs.Grammar.{name, variable, name_tree, nonzero, bound, range, type_parts, tuple_type, type_rule, types_or_none, type_list, param, params, value_parts, tuple_value, value_rule, values_or_none, key, some_values, weight, entry, entries, row, rows_or_none, rows, exprs_or_none, args_in_brackets, named, some_exprs, group, arm, arms, otherwise, choice, result, table_key, table_row, some_results, table_keys, table_rows_or_none, table_rows, table, two_exprs, pair, triple, ratio, extremum, limits, bracketed, clamp, flag, form, primary, component, path, field, negation, unary, product_part, product_parts, product, sum_part, sum_parts, sum, comparison_mark, compared, comparison, inversion, inversions, conjunction, conjunctions, expression_rule, argument, some_arguments, arguments, call, game_in_brackets, agent, among_row, among_rows, among, among_or_all, decided, decision, nature, results, params_in_brackets, results_in_brackets, signature, function, identity, placed_name, library, params_field, results_field, exprs_field, names_or_none, names_field, operation, line_back, line, line_list, lines, block_inside, block, arm_game, branch_arm, branch_arms, arms_in_braces, branch, plain_form, plain_atom, atom, next_beside, others_beside, beside, next_then, others_then, game_rule, some_names, cases, cases_or_type, type_decl, answer, fn_decl, param_kind, game_param, some_game_params, game_params, game_params_or_none, game_body, game_decl, decl, second, header, declarations, program, placed_quoted, section, strategy}
use Rattle.og_language.specs.Language.{rule_of, language}

type_led : fine tables type_rule ≡ true
unfolding same_terminal name variable name_tree nonzero bound range type_parts tuple_type type_rule type_begins
type_led = refl

value_led : fine tables value_rule ≡ true
unfolding same_terminal name bound value_parts tuple_value value_rule value_begins
value_led = refl

expression_led : fine tables expression_rule ≡ true
unfolding same_terminal name variable name_tree nonzero bound range type_parts tuple_type type_rule types_or_none type_list param params value_parts tuple_value value_rule values_or_none key some_values weight entry entries row rows_or_none rows exprs_or_none args_in_brackets named some_exprs group arm arms otherwise choice result table_key table_row some_results table_keys table_rows_or_none table_rows table two_exprs pair triple ratio extremum limits bracketed clamp flag form primary component path field negation unary product_part product_parts product sum_part sum_parts sum comparison_mark compared comparison inversion inversions conjunction conjunctions expression_rule argument some_arguments arguments call game_in_brackets agent among_row among_rows among among_or_all decided decision nature results params_in_brackets results_in_brackets signature function identity placed_name library params_field results_field exprs_field names_or_none names_field operation line_back line line_list lines block_inside block arm_game branch_arm branch_arms arms_in_braces branch plain_form plain_atom atom next_beside others_beside beside next_then others_then game_rule some_names cases cases_or_type type_decl answer fn_decl param_kind game_param some_game_params game_params game_params_or_none game_body game_decl decl second header declarations program placed_quoted section strategy type_begins value_begins primary_begins operand_begins expression_begins operators
expression_led = refl

game_led : (branches : Bool) → fine tables (game_rule branches) ≡ true
unfolding same_terminal name variable name_tree nonzero bound range type_parts tuple_type type_rule types_or_none type_list param params value_parts tuple_value value_rule values_or_none key some_values weight entry entries row rows_or_none rows exprs_or_none args_in_brackets named some_exprs group arm arms otherwise choice result table_key table_row some_results table_keys table_rows_or_none table_rows table two_exprs pair triple ratio extremum limits bracketed clamp flag form primary component path field negation unary product_part product_parts product sum_part sum_parts sum comparison_mark compared comparison inversion inversions conjunction conjunctions expression_rule argument some_arguments arguments call game_in_brackets agent among_row among_rows among among_or_all decided decision nature results params_in_brackets results_in_brackets signature function identity placed_name library params_field results_field exprs_field names_or_none names_field operation line_back line line_list lines block_inside block arm_game branch_arm branch_arms arms_in_braces branch plain_form plain_atom atom next_beside others_beside beside next_then others_then game_rule some_names cases cases_or_type type_decl answer fn_decl param_kind game_param some_game_params game_params game_params_or_none game_body game_decl decl second header declarations program placed_quoted section strategy type_begins value_begins primary_begins operand_begins expression_begins plain_game_begins operators compositions
game_led true = refl
game_led false = refl

filled : (n : Symbol) → nullable (rule_of n) ≡ false
unfolding name variable name_tree nonzero bound range type_parts tuple_type type_rule types_or_none type_list param params value_parts tuple_value value_rule values_or_none key some_values weight entry entries row rows_or_none rows exprs_or_none args_in_brackets named some_exprs group arm arms otherwise choice result table_key table_row some_results table_keys table_rows_or_none table_rows table two_exprs pair triple ratio extremum limits bracketed clamp flag form primary component path field negation unary product_part product_parts product sum_part sum_parts sum comparison_mark compared comparison inversion inversions conjunction conjunctions expression_rule argument some_arguments arguments call game_in_brackets agent among_row among_rows among among_or_all decided decision nature results params_in_brackets results_in_brackets signature function identity placed_name library params_field results_field exprs_field names_or_none names_field operation line_back line line_list lines block_inside block arm_game branch_arm branch_arms arms_in_braces branch plain_form plain_atom atom next_beside others_beside beside next_then others_then game_rule some_names cases cases_or_type type_decl answer fn_decl param_kind game_param some_game_params game_params game_params_or_none game_body game_decl decl second header declarations program placed_quoted section strategy
filled type_of_values = refl
filled value = refl
filled expression = refl
filled (game true) = refl
filled (game false) = refl

lead : (n : Symbol) → fine tables (rule_of n) ≡ true
lead type_of_values = type_led
lead value = value_led
lead expression = expression_led
lead (game branches) = game_led branches

firsts : (n : Symbol) (ts : List Lexeme) → sees_any (first tables (rule_of n)) ts ≡ true → sees_any (begins n) ts ≡ true
unfolding name variable name_tree nonzero bound range type_parts tuple_type type_rule types_or_none type_list param params value_parts tuple_value value_rule values_or_none key some_values weight entry entries row rows_or_none rows exprs_or_none args_in_brackets named some_exprs group arm arms otherwise choice result table_key table_row some_results table_keys table_rows_or_none table_rows table two_exprs pair triple ratio extremum limits bracketed clamp flag form primary component path field negation unary product_part product_parts product sum_part sum_parts sum comparison_mark compared comparison inversion inversions conjunction conjunctions expression_rule argument some_arguments arguments call game_in_brackets agent among_row among_rows among among_or_all decided decision nature results params_in_brackets results_in_brackets signature function identity placed_name library params_field results_field exprs_field names_or_none names_field operation line_back line line_list lines block_inside block arm_game branch_arm branch_arms arms_in_braces branch plain_form plain_atom atom next_beside others_beside beside next_then others_then game_rule some_names cases cases_or_type type_decl answer fn_decl param_kind game_param some_game_params game_params game_params_or_none game_body game_decl decl second header declarations program placed_quoted section strategy type_begins value_begins primary_begins operand_begins expression_begins plain_game_begins operators compositions
firsts type_of_values ts e = e
firsts value ts e = e
firsts expression ts e = e
firsts (game true) ts e = e
firsts (game false) ts e = e

inside : (n : Symbol) → list_all (has (goes_on n)) (more tables (rule_of n)) ≡ true
unfolding same_terminal name variable name_tree nonzero bound range type_parts tuple_type type_rule types_or_none type_list param params value_parts tuple_value value_rule values_or_none key some_values weight entry entries row rows_or_none rows exprs_or_none args_in_brackets named some_exprs group arm arms otherwise choice result table_key table_row some_results table_keys table_rows_or_none table_rows table two_exprs pair triple ratio extremum limits bracketed clamp flag form primary component path field negation unary product_part product_parts product sum_part sum_parts sum comparison_mark compared comparison inversion inversions conjunction conjunctions expression_rule argument some_arguments arguments call game_in_brackets agent among_row among_rows among among_or_all decided decision nature results params_in_brackets results_in_brackets signature function identity placed_name library params_field results_field exprs_field names_or_none names_field operation line_back line line_list lines block_inside block arm_game branch_arm branch_arms arms_in_braces branch plain_form plain_atom atom next_beside others_beside beside next_then others_then game_rule some_names cases cases_or_type type_decl answer fn_decl param_kind game_param some_game_params game_params game_params_or_none game_body game_decl decl second header declarations program placed_quoted section strategy type_begins value_begins primary_begins operand_begins expression_begins plain_game_begins operators compositions
inside type_of_values = refl
inside value = refl
inside expression = refl
inside (game true) = refl
inside (game false) = refl

behind_a_token : (n : Symbol) → guarded false (rule_of n) ≡ true
unfolding name variable name_tree nonzero bound range type_parts tuple_type type_rule types_or_none type_list param params value_parts tuple_value value_rule values_or_none key some_values weight entry entries row rows_or_none rows exprs_or_none args_in_brackets named some_exprs group arm arms otherwise choice result table_key table_row some_results table_keys table_rows_or_none table_rows table two_exprs pair triple ratio extremum limits bracketed clamp flag form primary component path field negation unary product_part product_parts product sum_part sum_parts sum comparison_mark compared comparison inversion inversions conjunction conjunctions expression_rule argument some_arguments arguments call game_in_brackets agent among_row among_rows among among_or_all decided decision nature results params_in_brackets results_in_brackets signature function identity placed_name library params_field results_field exprs_field names_or_none names_field operation line_back line line_list lines block_inside block arm_game branch_arm branch_arms arms_in_braces branch plain_form plain_atom atom next_beside others_beside beside next_then others_then game_rule some_names cases cases_or_type type_decl answer fn_decl param_kind game_param some_game_params game_params game_params_or_none game_body game_decl decl second header declarations program placed_quoted section strategy
behind_a_token type_of_values = refl
behind_a_token value = refl
behind_a_token expression = refl
behind_a_token (game true) = refl
behind_a_token (game false) = refl

pub language_fine : IsFine language
language_fine = record {
  filled = filled;
  lead = lead;
  firsts = firsts;
  mores = λ n ts e. sees_outside (more tables (rule_of n)) (goes_on n) ts (inside n) e;
  behind = behind_a_token;
}

pub program_led : fine tables program ≡ true
unfolding same_terminal name variable name_tree nonzero bound range type_parts tuple_type type_rule types_or_none type_list param params value_parts tuple_value value_rule values_or_none key some_values weight entry entries row rows_or_none rows exprs_or_none args_in_brackets named some_exprs group arm arms otherwise choice result table_key table_row some_results table_keys table_rows_or_none table_rows table two_exprs pair triple ratio extremum limits bracketed clamp flag form primary component path field negation unary product_part product_parts product sum_part sum_parts sum comparison_mark compared comparison inversion inversions conjunction conjunctions expression_rule argument some_arguments arguments call game_in_brackets agent among_row among_rows among among_or_all decided decision nature results params_in_brackets results_in_brackets signature function identity placed_name library params_field results_field exprs_field names_or_none names_field operation line_back line line_list lines block_inside block arm_game branch_arm branch_arms arms_in_braces branch plain_form plain_atom atom next_beside others_beside beside next_then others_then game_rule some_names cases cases_or_type type_decl answer fn_decl param_kind game_param some_game_params game_params game_params_or_none game_body game_decl decl second header declarations program placed_quoted section strategy type_begins value_begins primary_begins operand_begins expression_begins plain_game_begins operators compositions
program_led = refl

pub strategy_led : fine tables strategy ≡ true
unfolding same_terminal name variable name_tree nonzero bound range type_parts tuple_type type_rule types_or_none type_list param params value_parts tuple_value value_rule values_or_none key some_values weight entry entries row rows_or_none rows exprs_or_none args_in_brackets named some_exprs group arm arms otherwise choice result table_key table_row some_results table_keys table_rows_or_none table_rows table two_exprs pair triple ratio extremum limits bracketed clamp flag form primary component path field negation unary product_part product_parts product sum_part sum_parts sum comparison_mark compared comparison inversion inversions conjunction conjunctions expression_rule argument some_arguments arguments call game_in_brackets agent among_row among_rows among among_or_all decided decision nature results params_in_brackets results_in_brackets signature function identity placed_name library params_field results_field exprs_field names_or_none names_field operation line_back line line_list lines block_inside block arm_game branch_arm branch_arms arms_in_braces branch plain_form plain_atom atom next_beside others_beside beside next_then others_then game_rule some_names cases cases_or_type type_decl answer fn_decl param_kind game_param some_game_params game_params game_params_or_none game_body game_decl decl second header declarations program placed_quoted section strategy type_begins value_begins primary_begins operand_begins expression_begins plain_game_begins operators compositions
strategy_led = refl
