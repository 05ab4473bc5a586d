-- Games, written again as they are.
use Rattle.std.proofs.Common.{◌≡◌, ◌∙◌, ℕ, Bool, true, false, List, ◌++◌, sym, ap, append_assoc}
use Rattle.std.specs.Prelude.{flat_map}
use Rattle.std.specs.List.{AllByRecursion, AllZip}
use Rattle.og_lex.specs.declared.token.Word.TheVariants as words
use Rattle.og_lex.specs.declared.token.Mark.TheVariants as marks
use Rattle.og_grammar.specs.declared.terminal.Terminal.TheVariants as terminals
use Rattle.og_grammar.specs.Lexeme.{Lexeme}
use Rattle.og_grammar.specs.Rule.{Meaning, Rule, star, spells}
use Rattle.og_grammar.specs.Combinators as rules
use Rattle.og_language.specs.Symbols.{symbols, game}
use Rattle.og_language.specs.Trees.{or_empty, seq_onto, par_onto}
use Rattle.og_language.specs.Grammar as g
use Rattle.og_syntax.specs.declared.types.ParamTree.{ParamTree}
use Rattle.og_syntax.specs.declared.expressions.ExprTree.{ExprTree}
use Rattle.og_syntax.specs.declared.expressions.ResultTree.{ResultTree}
use Rattle.og_syntax.specs.declared.games.ArmTree.{ArmTree}
use Rattle.og_syntax.specs.declared.games.BlockTree.{BlockTree}
use Rattle.og_syntax.specs.declared.games.LineTree.{LineTree}
use Rattle.og_syntax.specs.declared.games.GameTree.{GameTree}
use Rattle.og_syntax.specs.declared.games.GameTree.TheVariants as games
use Rattle.og_syntax.specs.Unplaced as u
use Rattle.og_canonical.specs.Tokens as c
use Rattle.og_canonical.specs.Types.{ty_text, params_text, names_text}
use Rattle.og_canonical.specs.Values.{value_text}
use Rattle.og_canonical.specs.Expressions.{exprs_text, results_text}
use Rattle.og_canonical.specs.Games.{field, line_front, line_back, line_text, block_front, block_back, block_text, branch_arm_text, shown_game, game_text}
use Rattle.og_canonical.proofs.GameForms as forms
use Rattle.og_reread.specs.Lexemes.{IsLexeme}
use Rattle.og_reread.proofs.Again.{Writes, w_left, w_right, w_hole, Again, a_seq, a_map, a_star}
use Rattle.og_reread.proofs.Tokens.{Whatever, a_mark, a_word, a_separator}
use Rattle.og_reread.proofs.Lists.{a_within, a_behind_mark, a_before_mark, a_braces}
use Rattle.og_reread.proofs.Sames.{SameTy, SameName, SameParam, SameValue, SameExpr, SameResult, SameGame, same_lists}
use Rattle.og_reread.proofs.Joins.{join3, join4, join5}
use Rattle.og_reread.proofs.Optional.{a_worded}
use Rattle.og_reread.proofs.Turns.{Turns, t_map, t_made, t_seq, t_alt, t_star, t_behind, t_within}
use Rattle.og_reread.proofs.Parts.{Parts}
use Rattle.og_reread.proofs.GameForms.{line_whole, block_whole, arm_whole, game_block, game_branch}
use Rattle.og_reread.proofs.GameParts.{own_text, a_params_field, a_results_field, a_exprs_field, a_names_field, a_call, a_plain_form}
use Rattle.og_reread.proofs.GameLevels.{Whole, plain_atom, writes_at, whole_onto_seq, whole_onto_par, whole_plain}

abbrev pub SameLine : LineTree GameTree → LineTree GameTree → Type 0
SameLine a b = line_whole b ≡ line_whole a

abbrev pub SameBlock : BlockTree GameTree → BlockTree GameTree → Type 0
SameBlock a b = block_whole b ≡ block_whole a

abbrev pub SameArm : ArmTree GameTree → ArmTree GameTree → Type 0
SameArm a b = arm_whole b ≡ arm_whole a

-- neither composition is the outermost of it
abbrev IsPlain : GameTree → Type 0
IsPlain x = (shown_game x).level ≡ 3

module _ (m : Meaning symbols) where
  plain_call : Turns m g.call IsPlain
  unfolding g.call
  plain_call = t_made m _ _ IsPlain (λ v. ap (λ s. s.level) (forms.shown_call v.0 v.1.0 (or_empty v.1.1)))

  plain_block : (b : Bool) → Turns m (g.block b) IsPlain
  unfolding g.block
  plain_block b = t_made m _ _ IsPlain (λ v. ap (λ s. s.level) (forms.shown_block v.0 v.1))

  plain_branch : Turns m g.branch IsPlain
  unfolding g.branch
  plain_branch = t_made m _ _ IsPlain (λ v. ap (λ s. s.level) (forms.shown_branch v.0 v.1.0 v.1.1))

  plain_form : Turns m g.plain_form IsPlain
  unfolding g.plain_form g.decision g.nature g.function g.identity g.library
  plain_form =
      t_alt m _ _ IsPlain
      (t_made m _ _ IsPlain (λ v. ap (λ s. s.level) (forms.shown_decision v.0 v.1.0 v.1.1.0 v.1.1.1.0 v.1.1.1.1)))
      (t_alt m _ _ IsPlain
      (t_made m _ _ IsPlain (λ v. ap (λ s. s.level) (forms.shown_nature v.0 v.1.0 v.1.1.0 v.1.1.1)))
      (t_alt m _ _ IsPlain
      (t_alt m _ _ IsPlain
      (t_made m _ _ IsPlain (λ v. ap (λ s. s.level) (forms.shown_forward v.0 v.1.0 v.1.1)))
      (t_made m _ _ IsPlain (λ v. ap (λ s. s.level) (forms.shown_backward v.0 v.1.0 v.1.1))))
      (t_alt m _ _ IsPlain
      (t_made m _ _ IsPlain (λ v. ap (λ s. s.level) (forms.shown_identity v.0 v.1.0 v.1.1)))
      (t_made m _ _ IsPlain (λ v. ap (λ s. s.level) (forms.shown_library v.0 v.1))))))

module _ (m : Meaning symbols) (parts : Parts m)
    (below : (b : Bool) (ts : List Lexeme) (x : GameTree) → AllByRecursion IsLexeme ts → m.spelled (game b) ts x → Whole b x) where
  pub a_subgame : (b : Bool) → Again m (g.subgame b) game_text SameGame
  a_subgame b ts x real is = w_hole (game b) (game_text x) (SameGame x) (writes_at b 1 x (below b ts x real is))

  -- ---- lines and blocks

  a_operation : (b : Bool) → Again m (g.operation b) (λ x. field words.Operation (game_text x)) SameGame
  unfolding g.operation
  a_operation b = a_worded m words.Operation (g.subgame b) game_text SameGame (a_subgame b)

  a_line_back : Again m g.line_back (λ v. line_back v.0 v.1) (λ v w. AllZip SameName v.0 w.0 × AllZip SameExpr v.1 w.1)
  unfolding g.line_back line_back
  a_line_back =
      a_seq m (g.names_field words.Outputs) (g.exprs_field words.Returns) (λ ns. field words.Outputs (names_text ns))
      (λ es. field words.Returns (exprs_text es)) (AllZip SameName) (AllZip SameExpr)
      (a_names_field m parts words.Outputs) (a_exprs_field m parts words.Returns)

  a_line : (b : Bool) → Again m (g.line b) (line_text game_text) SameLine
  unfolding g.line line_front
  a_line b =
      a_map m (λ v. record { inputs = v.0; feedback = v.1.0; operation = v.1.1.0; outputs = v.1.1.1.0; returns = v.1.1.1.1 }) _
      (λ v. field words.Inputs (exprs_text v.0) ++ (field words.Feedback (names_text v.1.0)
      ++ (field words.Operation (game_text v.1.1.0) ++ line_back v.1.1.1.0 v.1.1.1.1)))
      (λ v w. AllZip SameExpr v.0 w.0 × (AllZip SameName v.1.0 w.1.0
      × (SameGame v.1.1.0 w.1.1.0 × (AllZip SameName v.1.1.1.0 w.1.1.1.0 × AllZip SameExpr v.1.1.1.1 w.1.1.1.1))))
      (line_text game_text) SameLine
      (λ v. join4 (field words.Inputs (exprs_text v.0)) (field words.Feedback (names_text v.1.0))
      (field words.Operation (game_text v.1.1.0)) (line_back v.1.1.1.0 v.1.1.1.1))
      (λ v w s i. record {
        inputs = same_lists u.expr_unplaced v.0 w.0 s.0 i;
        feedback = same_lists u.name_unplaced v.1.0 w.1.0 s.1.0 i;
        operation = s.1.1.0 i;
        outputs = same_lists u.name_unplaced v.1.1.1.0 w.1.1.1.0 s.1.1.1.0 i;
        returns = same_lists u.expr_unplaced v.1.1.1.1 w.1.1.1.1 s.1.1.1.1 i;
      })
      (a_seq m (g.exprs_field words.Inputs) _ (λ es. field words.Inputs (exprs_text es))
      (λ v. field words.Feedback (names_text v.0) ++ (field words.Operation (game_text v.1.0) ++ line_back v.1.1.0 v.1.1.1))
      (AllZip SameExpr)
      (λ v w. AllZip SameName v.0 w.0 × (SameGame v.1.0 w.1.0 × (AllZip SameName v.1.1.0 w.1.1.0 × AllZip SameExpr v.1.1.1 w.1.1.1)))
      (a_exprs_field m parts words.Inputs)
      (a_seq m (g.names_field words.Feedback) _ (λ ns. field words.Feedback (names_text ns))
      (λ v. field words.Operation (game_text v.0) ++ line_back v.1.0 v.1.1)
      (AllZip SameName) (λ v w. SameGame v.0 w.0 × (AllZip SameName v.1.0 w.1.0 × AllZip SameExpr v.1.1 w.1.1))
      (a_names_field m parts words.Feedback)
      (a_seq m (g.operation b) g.line_back (λ x. field words.Operation (game_text x)) (λ v. line_back v.0 v.1) SameGame
      (λ v w. AllZip SameName v.0 w.0 × AllZip SameExpr v.1 w.1) (a_operation b) a_line_back)))

  a_lines : (b : Bool) → Again m (g.lines b) (λ ls. c.separator ++ (flat_map (line_text game_text) ls ++ c.separator)) (AllZip SameLine)
  unfolding g.lines g.line_list
  a_lines b =
      a_within m (rules.place_of terminals.Separator) (star (g.line b)) (rules.place_of terminals.Separator) c.separator
      (flat_map (line_text game_text)) c.separator Whatever (AllZip SameLine) Whatever (a_separator m)
      (a_star m (g.line b) (line_text game_text) SameLine (a_line b)) (a_separator m)

  a_block_inside : (b : Bool) → Again m (g.block_inside b) (block_text game_text) SameBlock
  unfolding g.block_inside block_front block_back
  a_block_inside b =
      a_map m (λ v. record { inputs = v.0; feedback = v.1.0; lines = v.1.1.0; outputs = v.1.1.1.0; returns = v.1.1.1.1 }) _
      (λ v. ins v.0 ++ (feeds v.1.0 ++ (lines_text v.1.1.0 ++ (outs v.1.1.1.0 ++ backs v.1.1.1.1))))
      (λ v w. AllZip SameParam v.0 w.0 × (AllZip SameResult v.1.0 w.1.0
      × (AllZip SameLine v.1.1.0 w.1.1.0 × (AllZip SameResult v.1.1.1.0 w.1.1.1.0 × AllZip SameParam v.1.1.1.1 w.1.1.1.1))))
      (block_text game_text) SameBlock
      (λ v. texts (ins v.0) (feeds v.1.0) (flat_map (line_text game_text) v.1.1.0) (outs v.1.1.1.0) (backs v.1.1.1.1))
      (λ v w s i. record {
        inputs = same_lists u.param_unplaced v.0 w.0 s.0 i;
        feedback = same_lists u.result_unplaced v.1.0 w.1.0 s.1.0 i;
        lines = same_lists line_whole v.1.1.0 w.1.1.0 s.1.1.0 i;
        outputs = same_lists u.result_unplaced v.1.1.1.0 w.1.1.1.0 s.1.1.1.0 i;
        returns = same_lists u.param_unplaced v.1.1.1.1 w.1.1.1.1 s.1.1.1.1 i;
      })
      (a_seq m (g.params_field words.Inputs) _ ins (λ v. feeds v.0 ++ (lines_text v.1.0 ++ (outs v.1.1.0 ++ backs v.1.1.1)))
      (AllZip SameParam)
      (λ v w. AllZip SameResult v.0 w.0 × (AllZip SameLine v.1.0 w.1.0 × (AllZip SameResult v.1.1.0 w.1.1.0 × AllZip SameParam v.1.1.1 w.1.1.1)))
      (a_params_field m parts words.Inputs)
      (a_seq m (g.results_field words.Feedback) _ feeds (λ v. lines_text v.0 ++ (outs v.1.0 ++ backs v.1.1))
      (AllZip SameResult) (λ v w. AllZip SameLine v.0 w.0 × (AllZip SameResult v.1.0 w.1.0 × AllZip SameParam v.1.1 w.1.1))
      (a_results_field m parts words.Feedback)
      (a_seq m (g.lines b) _ lines_text (λ v. outs v.0 ++ backs v.1)
      (AllZip SameLine) (λ v w. AllZip SameResult v.0 w.0 × AllZip SameParam v.1 w.1) (a_lines b)
      (a_seq m (g.results_field words.Outputs) (g.params_field words.Returns) outs backs (AllZip SameResult) (AllZip SameParam)
      (a_results_field m parts words.Outputs) (a_params_field m parts words.Returns)))))
    where
      ins : List ParamTree → List ℕ
      ins ps = field words.Inputs (params_text ps)

      feeds : List (ResultTree ExprTree) → List ℕ
      feeds rs = field words.Feedback (results_text rs)

      lines_text : List (LineTree GameTree) → List ℕ
      lines_text ls = c.separator ++ (flat_map (line_text game_text) ls ++ c.separator)

      outs : List (ResultTree ExprTree) → List ℕ
      outs rs = field words.Outputs (results_text rs)

      backs : List ParamTree → List ℕ
      backs ps = field words.Returns (params_text ps)

      texts : (a d l o r : List ℕ)
          → a ++ (d ++ ((c.separator ++ (l ++ c.separator)) ++ (o ++ r))) ≡ (a ++ d ++ c.separator) ++ l ++ (c.separator ++ o ++ r)
      texts a d l o r =
          ap (λ z. a ++ (d ++ z)) (append_assoc c.separator (l ++ c.separator) (o ++ r))
          ∙ ap (λ z. a ++ (d ++ (c.separator ++ z))) (append_assoc l c.separator (o ++ r) ∙ ap (λ z. l ++ z) (join3 c.separator o r))
          ∙ join5 a d c.separator l (c.separator ++ o ++ r)

  a_block : (b : Bool) → Again m (g.block b) own_text SameGame
  unfolding g.block
  a_block b =
      a_map m (λ v. games.Block v.0 v.1) _ (λ v. c.word words.Block ++ c.in_braces (block_text game_text v.1))
      (λ v w. Whatever v.0 w.0 × SameBlock v.1 w.1) own_text SameGame
      (λ v. ap (λ x. x.text) (sym (forms.shown_block v.0 v.1)))
      (λ v w s. game_block w.0 w.1 ∙ ap (games.Block 0) s.1 ∙ sym (game_block v.0 v.1))
      (a_seq m (rules.word words.Block) _ (λ _. c.word words.Block) (λ x. c.in_braces (block_text game_text x)) Whatever SameBlock
      (a_word m words.Block) (a_braces m (g.block_inside b) (block_text game_text) SameBlock (a_block_inside b)))

  -- ---- branches

  a_branch_arm : Again m g.branch_arm (branch_arm_text game_text) SameArm
  unfolding g.branch_arm g.arm_game
  a_branch_arm =
      a_map m (λ v. record { at = v.0; key = v.1.0; game = v.1.1 }) _
      (λ v. c.mark marks.LeftParen ++ ((value_text v.1.0 ++ c.mark marks.RightParen)
      ++ (c.mark marks.Arrow ++ (game_text v.1.1 ++ c.mark marks.Semicolon))))
      (λ v w. Whatever v.0 w.0 × (SameValue v.1.0 w.1.0 × SameGame v.1.1 w.1.1)) (branch_arm_text game_text) SameArm
      (λ v. join3 (c.mark marks.LeftParen) (value_text v.1.0 ++ c.mark marks.RightParen)
      (c.mark marks.Arrow ++ (game_text v.1.1 ++ c.mark marks.Semicolon))
      ∙ ap (λ l. l ++ (c.mark marks.Arrow ++ (game_text v.1.1 ++ c.mark marks.Semicolon)))
      (join3 (c.mark marks.LeftParen) (value_text v.1.0) (c.mark marks.RightParen))
      ∙ join4 (c.in_parens (value_text v.1.0)) (c.mark marks.Arrow) (game_text v.1.1) (c.mark marks.Semicolon))
      (λ v w s i. record { at = 0; key = s.1.0 i; game = s.1.1 i })
      (a_seq m (rules.mark marks.LeftParen) _ (λ _. c.mark marks.LeftParen)
      (λ v. (value_text v.0 ++ c.mark marks.RightParen) ++ (c.mark marks.Arrow ++ (game_text v.1 ++ c.mark marks.Semicolon)))
      Whatever (λ v w. SameValue v.0 w.0 × SameGame v.1 w.1) (a_mark m marks.LeftParen)
      (a_seq m _ _ (λ v. value_text v ++ c.mark marks.RightParen) (λ x. c.mark marks.Arrow ++ (game_text x ++ c.mark marks.Semicolon))
      SameValue SameGame (a_before_mark m marks.RightParen g.value_part value_text SameValue parts.value)
      (a_behind_mark m marks.Arrow _ (λ x. game_text x ++ c.mark marks.Semicolon) SameGame
      (a_before_mark m marks.Semicolon (g.subgame true) game_text SameGame (a_subgame true)))))

  a_branch : Again m g.branch own_text SameGame
  unfolding g.branch g.arms_in_braces g.branch_arms
  a_branch =
      a_map m (λ v. games.Branch v.0 v.1.0 v.1.1) _
      (λ v. c.word words.Branch ++ (ty_text v.1.0 ++ c.in_braces (flat_map (branch_arm_text game_text) v.1.1)))
      (λ v w. Whatever v.0 w.0 × (SameTy v.1.0 w.1.0 × AllZip SameArm v.1.1 w.1.1)) own_text SameGame
      (λ v. join3 (c.word words.Branch) (ty_text v.1.0) (c.in_braces (flat_map (branch_arm_text game_text) v.1.1))
      ∙ ap (λ x. x.text) (sym (forms.shown_branch v.0 v.1.0 v.1.1)))
      (λ v w s. game_branch w.0 w.1.0 w.1.1
      ∙ (λ i. games.Branch 0 (s.1.0 i) (same_lists arm_whole v.1.1 w.1.1 s.1.1 i))
      ∙ sym (game_branch v.0 v.1.0 v.1.1))
      (a_seq m (rules.word words.Branch) _ (λ _. c.word words.Branch)
      (λ v. ty_text v.0 ++ c.in_braces (flat_map (branch_arm_text game_text) v.1))
      Whatever (λ v w. SameTy v.0 w.0 × AllZip SameArm v.1 w.1) (a_word m words.Branch)
      (a_seq m g.ty _ ty_text (λ arms. c.in_braces (flat_map (branch_arm_text game_text) arms)) SameTy (AllZip SameArm) parts.ty
      (a_braces m (star g.branch_arm) (flat_map (branch_arm_text game_text)) (AllZip SameArm)
      (a_star m g.branch_arm (branch_arm_text game_text) SameArm a_branch_arm))))

  -- ---- games

  -- by a rule of those that an atom is, which writes it again
  by_atom : (b : Bool) (f : Rule symbols GameTree) → ((x : GameTree) → Writes f (own_text x) (SameGame x) → Writes (g.atom b) (own_text x) (SameGame x))
      → Turns m f IsPlain → Again m f own_text SameGame → Turns m f (Whole b)
  by_atom b f as_atom plain p = record {
    such = λ ts x real is. whole_plain b x (plain.such ts x real is) (as_atom x (p ts x real is));
  }

  whole_plain_atom : (b : Bool) → Turns m (g.plain_atom b) (Whole b)
  unfolding g.plain_atom g.game_in_brackets
  whole_plain_atom b =
      t_alt m _ _ (Whole b)
      (by_atom b g.call (λ x w. plain_atom b (own_text x) (SameGame x) (w_left g.call _ (own_text x) (SameGame x) w)) (plain_call m) (a_call m parts))
      (t_alt m _ _ (Whole b) (t_within m _ (g.subgame b) _ (Whole b) (record { such = below b }))
      (t_alt m _ _ (Whole b)
      (by_atom b (g.block b)
      (λ x w. plain_atom b (own_text x) (SameGame x)
      (w_right g.call _ (own_text x) (SameGame x)
      (w_right (g.game_in_brackets b) _ (own_text x) (SameGame x) (w_left (g.block b) _ (own_text x) (SameGame x) w))))
      (plain_block m b) (a_block b))
      (by_atom b g.plain_form
      (λ x w. plain_atom b (own_text x) (SameGame x)
      (w_right g.call _ (own_text x) (SameGame x)
      (w_right (g.game_in_brackets b) _ (own_text x) (SameGame x) (w_right (g.block b) g.plain_form (own_text x) (SameGame x) w))))
      (plain_form m) (a_plain_form m parts))))

  whole_atom : (b : Bool) → Turns m (g.atom b) (Whole b)
  unfolding g.atom
  whole_atom true =
      t_alt m g.branch (g.plain_atom true) (Whole true)
      (by_atom true g.branch (λ x w. w_left g.branch (g.plain_atom true) (own_text x) (SameGame x) w) (plain_branch m) a_branch)
      (whole_plain_atom true)
  whole_atom false = whole_plain_atom false

  whole_beside : (b : Bool) → Turns m (g.beside b) (Whole b)
  unfolding g.beside g.others_beside g.next_beside
  whole_beside b =
      t_map m (λ v. par_onto v.0 v.1) _ (λ v. Whole b v.0 × AllByRecursion (Whole b) v.1) (Whole b)
      (λ v is. whole_onto_par b v.0 v.1 is.0 is.1)
      (t_seq m (g.atom b) _ (Whole b) (AllByRecursion (Whole b)) (whole_atom b)
      (t_star m _ (Whole b) (t_behind m _ (g.atom b) (Whole b) (whole_atom b))))

  whole_game : (b : Bool) → Turns m (g.game_rule b) (Whole b)
  unfolding g.game_rule g.others_then g.next_then
  whole_game b =
      t_map m (λ v. seq_onto v.0 v.1) _ (λ v. Whole b v.0 × AllByRecursion (Whole b) v.1) (Whole b)
      (λ v is. whole_onto_seq b v.0 v.1 is.0 is.1)
      (t_seq m (g.beside b) _ (Whole b) (AllByRecursion (Whole b)) (whole_beside b)
      (t_star m _ (Whole b) (t_behind m _ (g.beside b) (Whole b) (whole_beside b))))

-- What real tokens spell as a game is written again, where that holds of the games inside.
pub a_game : (m : Meaning symbols) (b : Bool) → Parts m
    → ((b : Bool) (ts : List Lexeme) (x : GameTree) → AllByRecursion IsLexeme ts → m.spelled (game b) ts x → Whole b x)
    → (ts : List Lexeme) (x : GameTree) → AllByRecursion IsLexeme ts → spells m (g.game_rule b) ts x → Whole b x
a_game m b parts below = (whole_game m parts below b).such
