-- The parts of games that hold no games, spelled again.
use Rattle.std.proofs.Common.{◌≡◌, ◌∙◌, ℕ, List, ◌++◌, Option, None, Some, refl, sym, ap}
use Rattle.std.proofs.Common.{map as each}
use Rattle.std.specs.Prelude.{flat_map}
use Rattle.std.specs.List.{AllZip}
use Rattle.og_lex.specs.declared.token.Word.{Word}
use Rattle.og_lex.specs.declared.token.Word.TheVariants as words
use Rattle.og_lex.specs.declared.token.Mark.TheVariants as marks
use Rattle.og_grammar.specs.declared.terminal.Terminal.TheVariants as terminals
use Rattle.og_grammar.specs.Rule.{Meaning, seq, star, map, at, give}
use Rattle.og_grammar.specs.Combinators as rules
use Rattle.og_language.specs.Symbols.{symbols}
use Rattle.og_language.specs.Trees.{or_empty}
use Rattle.og_language.specs.Grammar as g
use Rattle.og_syntax.specs.declared.games.AgentTree.TheVariants as agents
use Rattle.og_syntax.specs.declared.games.ArgTree.{ArgTree}
use Rattle.og_syntax.specs.declared.games.ArgTree.TheVariants as args
use Rattle.og_syntax.specs.declared.games.GameTree.{GameTree}
use Rattle.og_syntax.specs.declared.games.GameTree.TheVariants as games
use Rattle.og_syntax.specs.Unplaced as u
use Rattle.og_canonical.specs.Tokens as c
use Rattle.og_canonical.specs.Types.{ty_text, tys_text, params_text, names_text}
use Rattle.og_canonical.specs.Values.{value_text, values_text, key_text, row_text}
use Rattle.og_canonical.specs.Expressions.{expr_text, exprs_text, results_text}
use Rattle.og_canonical.specs.Games.{field, agent_text, arg_text, allowed_text, among_text, call_text, decision_text, nature_text, function_text, identity_text, shown_game}
use Rattle.og_canonical.proofs.GameForms as forms
use Rattle.og_reread.proofs.Again.{w_text, Again, a_give, a_seq, a_alt, a_map, a_at, a_star}
use Rattle.og_reread.proofs.Tokens.{Equal, Whatever, a_name, a_under, a_quoted, a_word}
use Rattle.og_reread.proofs.Lists.{a_behind_mark, a_before_mark, a_commas_or_none, a_parens, a_braces}
use Rattle.og_reread.proofs.Sames.{SameTy, SameName, SameParam, SameValue, SameRow, SameExpr, SameResult, SameAgent, SameArg, SameAllowed, SameAmong, SameGame, same_lists}
use Rattle.og_reread.proofs.Results.{a_results}
use Rattle.og_reread.proofs.Joins.{join3, join4, join5}
use Rattle.og_reread.proofs.Optional.{w_none, a_or_empty, a_optional, a_field}
use Rattle.og_reread.proofs.Parts.{Parts}
use Rattle.og_reread.proofs.GameForms.{game_call, game_decision, game_nature, game_forward, game_backward, game_identity, game_library}

-- the text of a game at its own level
abbrev pub own_text : GameTree → List ℕ
own_text x = (shown_game x).text

module _ (m : Meaning symbols) (parts : Parts m) where
  -- ---- parts

  pub a_argument : Again m g.argument arg_text SameArg
  unfolding g.argument arg_text
  a_argument =
      a_alt m _ _ arg_text SameArg
      (a_map m (λ v. args.Quoted v.0 v.1) (at rules.quoted) (λ v. c.quoted v.1) (λ v w. Equal v.1 w.1) arg_text SameArg (λ v. refl)
      (λ v w s. ap (args.Quoted 0) s) (a_at m rules.quoted c.quoted Equal (a_quoted m)))
      (a_alt m _ _ arg_text SameArg
      (a_map m (λ v. args.Var v.0 v.1) (at (rules.spelling_of terminals.Under)) (λ v. c.spaced v.1) (λ v w. Equal v.1 w.1) arg_text SameArg (λ v. refl)
      (λ v w s. ap (args.Var 0) s) (a_at m (rules.spelling_of terminals.Under) c.spaced Equal (a_under m)))
      (a_map m args.Val g.value_part value_text SameValue arg_text SameArg (λ v. refl) (λ v w s. ap args.Val s) parts.value))

  pub a_arguments : Again m g.arguments (λ xs. c.optional (each arg_text xs)) (AllZip SameArg)
  unfolding g.arguments g.some_arguments
  a_arguments = a_optional m g.argument arg_text SameArg a_argument

  pub a_agent : Again m g.agent agent_text SameAgent
  unfolding g.agent agent_text
  a_agent =
      a_alt m _ _ agent_text SameAgent
      (a_map m (λ v. agents.Quoted v.0 v.1) (at rules.quoted) (λ v. c.quoted v.1) (λ v w. Equal v.1 w.1) agent_text SameAgent (λ v. refl)
      (λ v w s. ap (agents.Quoted 0) s) (a_at m rules.quoted c.quoted Equal (a_quoted m)))
      (a_map m (λ v. agents.Var v.0 v.1) (at g.variable) (λ v. c.spaced v.1) (λ v w. Equal v.1 w.1) agent_text SameAgent (λ v. refl)
      (λ v w s. ap (agents.Var 0) s) (a_at m g.variable c.spaced Equal parts.variable))

  pub a_among_row : Again m g.among_row allowed_text SameAllowed
  unfolding g.among_row allowed_text
  a_among_row =
      a_map m (λ v. record { at = v.0.0; key = v.0.1; actions = v.1 }) _
      (λ v. key_text v.0.1 ++ (c.mark marks.Arrow ++ (values_text v.1 ++ c.mark marks.Semicolon)))
      (λ v w. AllZip SameValue v.0.1 w.0.1 × AllZip SameValue v.1 w.1)
      allowed_text SameAllowed
      (λ v. join4 (key_text v.0.1) (c.mark marks.Arrow) (values_text v.1) (c.mark marks.Semicolon))
      (λ v w s i. record {
        at = 0;
        key = same_lists u.value_unplaced v.0.1 w.0.1 s.0 i;
        actions = same_lists u.value_unplaced v.1 w.1 s.1 i;
      })
      (a_seq m g.key _ (λ v. key_text v.1) (λ vs. c.mark marks.Arrow ++ (values_text vs ++ c.mark marks.Semicolon))
      (λ v w. AllZip SameValue v.1 w.1) (AllZip SameValue) parts.key
      (a_behind_mark m marks.Arrow _ (λ vs. values_text vs ++ c.mark marks.Semicolon) (AllZip SameValue)
      (a_before_mark m marks.Semicolon g.some_values values_text (AllZip SameValue) parts.some_values)))

  pub a_among : Again m g.among (λ x. among_text (Some x)) (λ x y. u.among_unplaced y ≡ u.among_unplaced x)
  unfolding g.among g.among_rows among_text
  a_among =
      a_map m (λ v. record { at = v.0; rows = v.1 }) _ (λ v. c.word words.Among ++ c.in_braces (flat_map allowed_text v.1))
      (λ v w. Whatever v.0 w.0 × AllZip SameAllowed v.1 w.1) (λ x. among_text (Some x)) (λ x y. u.among_unplaced y ≡ u.among_unplaced x)
      (λ v. refl) (λ v w s i. record { at = 0; rows = same_lists u.allowed_unplaced v.1 w.1 s.1 i })
      (a_seq m (rules.word words.Among) _ (λ _. c.word words.Among) (λ rows. c.in_braces (flat_map allowed_text rows)) Whatever (AllZip SameAllowed)
      (a_word m words.Among)
      (a_braces m (star g.among_row) (flat_map allowed_text) (AllZip SameAllowed) (a_star m g.among_row allowed_text SameAllowed a_among_row)))

  pub a_among_or_all : Again m g.among_or_all among_text SameAmong
  unfolding g.among_or_all among_text
  a_among_or_all =
      a_alt m (map Some g.among) (give None) among_text SameAmong
      (a_map m Some g.among (λ x. among_text (Some x)) (λ x y. u.among_unplaced y ≡ u.among_unplaced x) among_text SameAmong (λ v. refl)
      (λ v w s. ap Some s) a_among)
      (a_give m None among_text SameAmong refl refl)

  pub a_params_in_brackets : Again m g.params_in_brackets (λ ps. c.in_parens (params_text ps)) (AllZip SameParam)
  unfolding g.params_in_brackets
  a_params_in_brackets = a_parens m g.params params_text (AllZip SameParam) parts.params

  a_signature : Again m g.signature (λ v. c.in_parens (params_text v.0) ++ (c.mark marks.Arrow ++ c.in_parens (results_text v.1)))
      (λ v w. AllZip SameParam v.0 w.0 × AllZip SameResult v.1 w.1)
  unfolding g.signature g.results_in_brackets
  a_signature =
      a_seq m g.params_in_brackets _ (λ ps. c.in_parens (params_text ps)) (λ rs. c.mark marks.Arrow ++ c.in_parens (results_text rs))
      (AllZip SameParam) (AllZip SameResult) a_params_in_brackets
      (a_behind_mark m marks.Arrow _ (λ rs. c.in_parens (results_text rs)) (AllZip SameResult)
      (a_parens m g.results results_text (AllZip SameResult) (a_results m parts.expr parts.ty)))

  -- ---- fields

  pub a_params_field : (k : Word) → Again m (g.params_field k) (λ ps. field k (params_text ps)) (AllZip SameParam)
  unfolding g.params_field g.params
  a_params_field k = a_field m k g.params params_text (AllZip SameParam) parts.params (w_none g.param SameParam)

  pub a_results_field : (k : Word) → Again m (g.results_field k) (λ rs. field k (results_text rs)) (AllZip SameResult)
  unfolding g.results_field g.results
  a_results_field k = a_field m k g.results results_text (AllZip SameResult) (a_results m parts.expr parts.ty) (w_none g.result SameResult)

  pub a_exprs_field : (k : Word) → Again m (g.exprs_field k) (λ es. field k (exprs_text es)) (AllZip SameExpr)
  unfolding g.exprs_field g.exprs_or_none
  a_exprs_field k =
      a_field m k g.exprs_or_none exprs_text (AllZip SameExpr) (a_commas_or_none m g.expr expr_text SameExpr parts.expr) (w_none g.expr SameExpr)

  pub a_names_field : (k : Word) → Again m (g.names_field k) (λ ns. field k (names_text ns)) (AllZip SameName)
  unfolding g.names_field g.names_or_none
  a_names_field k =
      a_field m k g.names_or_none names_text (AllZip SameName)
      (a_commas_or_none m g.name_tree (λ n. c.spaced n.name) SameName parts.name_tree) (w_none g.name_tree SameName)

  -- ---- games without games inside

  pub a_call : Again m g.call own_text SameGame
  unfolding g.call g.name call_text
  a_call =
      a_map m (λ v. games.Call v.0 v.1.0 (or_empty v.1.1)) _ (λ v. c.spaced v.1.0 ++ args_text v.1.1)
      (λ v w. Equal v.1.0 w.1.0 × same_args v.1.1 w.1.1) own_text SameGame
      (λ v. ap (λ x. x.text) (sym (forms.shown_call v.0 v.1.0 (or_empty v.1.1))))
      (λ v w s. game_call w.0 w.1.0 (or_empty w.1.1)
      ∙ (λ i. games.Call 0 (s.0 i) (same_lists u.arg_unplaced (or_empty v.1.1) (or_empty w.1.1) s.1 i))
      ∙ sym (game_call v.0 v.1.0 (or_empty v.1.1)))
      (a_at m _ (λ v. c.spaced v.0 ++ args_text v.1) (λ v w. Equal v.0 w.0 × same_args v.1 w.1)
      (a_seq m g.name (rules.opt g.arguments) c.spaced args_text Equal same_args (a_name m)
      (a_or_empty m g.arguments (λ xs. c.optional (each arg_text xs)) (AllZip SameArg) refl tt a_arguments)))
    where
      args_text : Option (List ArgTree) → List ℕ
      args_text o = c.optional (each arg_text (or_empty o))

      same_args : Option (List ArgTree) → Option (List ArgTree) → Type 0
      same_args o p = AllZip SameArg (or_empty o) (or_empty p)

  pub a_decision : Again m g.decision own_text SameGame
  unfolding g.decision g.decided decision_text
  a_decision =
      a_map m (λ v. games.Decision v.0 v.1.0 v.1.1.0 v.1.1.1.0 v.1.1.1.1) _
      (λ v. c.word words.DependentDecision ++ (agent_text v.1.0 ++ (tys_text v.1.1.0 ++ (ty_text v.1.1.1.0 ++ among_text v.1.1.1.1))))
      (λ v w. Whatever v.0 w.0
      × (SameAgent v.1.0 w.1.0 × (AllZip SameTy v.1.1.0 w.1.1.0 × (SameTy v.1.1.1.0 w.1.1.1.0 × SameAmong v.1.1.1.1 w.1.1.1.1))))
      own_text SameGame
      (λ v. join5 (c.word words.DependentDecision) (agent_text v.1.0) (tys_text v.1.1.0) (ty_text v.1.1.1.0) (among_text v.1.1.1.1)
      ∙ ap (λ x. x.text) (sym (forms.shown_decision v.0 v.1.0 v.1.1.0 v.1.1.1.0 v.1.1.1.1)))
      (λ v w s. game_decision w.0 w.1.0 w.1.1.0 w.1.1.1.0 w.1.1.1.1
      ∙ (λ i. games.Decision 0 (s.1.0 i) (same_lists u.ty_unplaced v.1.1.0 w.1.1.0 s.1.1.0 i) (s.1.1.1.0 i) (s.1.1.1.1 i))
      ∙ sym (game_decision v.0 v.1.0 v.1.1.0 v.1.1.1.0 v.1.1.1.1))
      (a_seq m (rules.word words.DependentDecision) _ (λ _. c.word words.DependentDecision)
      (λ v. agent_text v.0 ++ (tys_text v.1.0 ++ (ty_text v.1.1.0 ++ among_text v.1.1.1)))
      Whatever (λ v w. SameAgent v.0 w.0 × (AllZip SameTy v.1.0 w.1.0 × (SameTy v.1.1.0 w.1.1.0 × SameAmong v.1.1.1 w.1.1.1)))
      (a_word m words.DependentDecision)
      (a_seq m g.agent _ agent_text (λ v. tys_text v.0 ++ (ty_text v.1.0 ++ among_text v.1.1))
      SameAgent (λ v w. AllZip SameTy v.0 w.0 × (SameTy v.1.0 w.1.0 × SameAmong v.1.1 w.1.1)) a_agent
      (a_seq m g.type_list _ tys_text (λ v. ty_text v.0 ++ among_text v.1) (AllZip SameTy) (λ v w. SameTy v.0 w.0 × SameAmong v.1 w.1) parts.type_list
      (a_seq m g.ty g.among_or_all ty_text among_text SameTy SameAmong parts.ty a_among_or_all))))

  pub a_nature : Again m g.nature own_text SameGame
  unfolding g.nature nature_text
  a_nature =
      a_map m (λ v. games.Nature v.0 v.1.0 v.1.1.0 v.1.1.1) _
      (λ v. c.word words.Nature ++ (tys_text v.1.0 ++ (ty_text v.1.1.0 ++ c.in_braces (flat_map row_text v.1.1.1))))
      (λ v w. Whatever v.0 w.0 × (AllZip SameTy v.1.0 w.1.0 × (SameTy v.1.1.0 w.1.1.0 × AllZip SameRow v.1.1.1 w.1.1.1)))
      own_text SameGame
      (λ v. join4 (c.word words.Nature) (tys_text v.1.0) (ty_text v.1.1.0) (c.in_braces (flat_map row_text v.1.1.1))
      ∙ ap (λ x. x.text) (sym (forms.shown_nature v.0 v.1.0 v.1.1.0 v.1.1.1)))
      (λ v w s. game_nature w.0 w.1.0 w.1.1.0 w.1.1.1
      ∙ (λ i. games.Nature 0 (same_lists u.ty_unplaced v.1.0 w.1.0 s.1.0 i) (s.1.1.0 i) (same_lists u.row_unplaced v.1.1.1 w.1.1.1 s.1.1.1 i))
      ∙ sym (game_nature v.0 v.1.0 v.1.1.0 v.1.1.1))
      (a_seq m (rules.word words.Nature) _ (λ _. c.word words.Nature)
      (λ v. tys_text v.0 ++ (ty_text v.1.0 ++ c.in_braces (flat_map row_text v.1.1)))
      Whatever (λ v w. AllZip SameTy v.0 w.0 × (SameTy v.1.0 w.1.0 × AllZip SameRow v.1.1 w.1.1)) (a_word m words.Nature)
      (a_seq m g.type_list _ tys_text (λ v. ty_text v.0 ++ c.in_braces (flat_map row_text v.1))
      (AllZip SameTy) (λ v w. SameTy v.0 w.0 × AllZip SameRow v.1 w.1) parts.type_list
      (a_seq m g.ty g.rows ty_text (λ rs. c.in_braces (flat_map row_text rs)) SameTy (AllZip SameRow) parts.ty parts.rows)))

  -- variables, and what is computed from them
  a_worded_signature : (k : Word) → Again m (seq (rules.word k) g.signature) (λ v. function_text k v.1.0 v.1.1)
      (λ v w. Whatever v.0 w.0 × (AllZip SameParam v.1.0 w.1.0 × AllZip SameResult v.1.1 w.1.1))
  unfolding function_text
  a_worded_signature k ts v real is =
      w_text _ _ (function_text k v.1.0 v.1.1) _
      (join4 (c.word k) (c.in_parens (params_text v.1.0)) (c.mark marks.Arrow) (c.in_parens (results_text v.1.1)))
      (a_seq m (rules.word k) g.signature (λ _. c.word k)
      (λ v. c.in_parens (params_text v.0) ++ (c.mark marks.Arrow ++ c.in_parens (results_text v.1)))
      Whatever (λ v w. AllZip SameParam v.0 w.0 × AllZip SameResult v.1 w.1) (a_word m k) a_signature ts v real is)

  pub a_function : Again m g.function own_text SameGame
  unfolding g.function
  a_function =
      a_alt m _ _ own_text SameGame
      (a_map m (λ v. games.Forward v.0 v.1.0 v.1.1) _ (λ v. function_text words.ForwardFunction v.1.0 v.1.1)
      (λ v w. Whatever v.0 w.0 × (AllZip SameParam v.1.0 w.1.0 × AllZip SameResult v.1.1 w.1.1)) own_text SameGame
      (λ v. ap (λ x. x.text) (sym (forms.shown_forward v.0 v.1.0 v.1.1)))
      (λ v w s. game_forward w.0 w.1.0 w.1.1
      ∙ (λ i. games.Forward 0 (same_lists u.param_unplaced v.1.0 w.1.0 s.1.0 i) (same_lists u.result_unplaced v.1.1 w.1.1 s.1.1 i))
      ∙ sym (game_forward v.0 v.1.0 v.1.1))
      (a_worded_signature words.ForwardFunction))
      (a_map m (λ v. games.Backward v.0 v.1.0 v.1.1) _ (λ v. function_text words.BackwardFunction v.1.0 v.1.1)
      (λ v w. Whatever v.0 w.0 × (AllZip SameParam v.1.0 w.1.0 × AllZip SameResult v.1.1 w.1.1)) own_text SameGame
      (λ v. ap (λ x. x.text) (sym (forms.shown_backward v.0 v.1.0 v.1.1)))
      (λ v w s. game_backward w.0 w.1.0 w.1.1
      ∙ (λ i. games.Backward 0 (same_lists u.param_unplaced v.1.0 w.1.0 s.1.0 i) (same_lists u.result_unplaced v.1.1 w.1.1 s.1.1 i))
      ∙ sym (game_backward v.0 v.1.0 v.1.1))
      (a_worded_signature words.BackwardFunction))

  pub a_identity : Again m g.identity own_text SameGame
  unfolding g.identity identity_text
  a_identity =
      a_map m (λ v. games.Identity v.0 v.1.0 v.1.1) _ (λ v. c.word words.Identity ++ (tys_text v.1.0 ++ tys_text v.1.1))
      (λ v w. Whatever v.0 w.0 × (AllZip SameTy v.1.0 w.1.0 × AllZip SameTy v.1.1 w.1.1)) own_text SameGame
      (λ v. join3 (c.word words.Identity) (tys_text v.1.0) (tys_text v.1.1) ∙ ap (λ x. x.text) (sym (forms.shown_identity v.0 v.1.0 v.1.1)))
      (λ v w s. game_identity w.0 w.1.0 w.1.1
      ∙ (λ i. games.Identity 0 (same_lists u.ty_unplaced v.1.0 w.1.0 s.1.0 i) (same_lists u.ty_unplaced v.1.1 w.1.1 s.1.1 i))
      ∙ sym (game_identity v.0 v.1.0 v.1.1))
      (a_seq m (rules.word words.Identity) _ (λ _. c.word words.Identity) (λ v. tys_text v.0 ++ tys_text v.1)
      Whatever (λ v w. AllZip SameTy v.0 w.0 × AllZip SameTy v.1 w.1) (a_word m words.Identity)
      (a_seq m g.type_list g.type_list tys_text tys_text (AllZip SameTy) (AllZip SameTy) parts.type_list parts.type_list))

  pub a_library : Again m g.library own_text SameGame
  unfolding g.library
  a_library =
      a_map m (λ v. games.Library v.0 v.1) _ (λ v. c.word words.Library ++ c.spaced v.1.name)
      (λ v w. Whatever v.0 w.0 × SameName v.1 w.1) own_text SameGame
      (λ v. ap (λ x. x.text) (sym (forms.shown_library v.0 v.1)))
      (λ v w s. game_library w.0 w.1 ∙ ap (games.Library 0) s.1 ∙ sym (game_library v.0 v.1))
      (a_seq m (rules.word words.Library) g.placed_name (λ _. c.word words.Library) (λ n. c.spaced n.name) Whatever SameName
      (a_word m words.Library) parts.placed_name)

  pub a_plain_form : Again m g.plain_form own_text SameGame
  unfolding g.plain_form
  a_plain_form =
      a_alt m _ _ own_text SameGame a_decision
      (a_alt m _ _ own_text SameGame a_nature
      (a_alt m _ _ own_text SameGame a_function (a_alt m _ _ own_text SameGame a_identity a_library)))
