-- Declarations and programs, spelled again.
use Rattle.std.proofs.Common.{◌≡◌, ◌∙◌, ◌⊎◌, ℕ, Bool, true, false, List, [], ◌++◌, inl, inr, refl, sym, ap, subst, append_assoc}
use Rattle.std.proofs.Common.{map as each}
use Rattle.std.specs.Prelude.{flat_map, ◌==◌, if◌then◌else◌}
use Rattle.std.specs.List.{AllByRecursion, AllZip}
use Rattle.std.proofs.lemmas.Bool.{eqb-true}
use Rattle.og_lex.specs.declared.token.Word.TheVariants as words
use Rattle.og_lex.specs.declared.token.Mark.TheVariants as marks
use Rattle.og_grammar.specs.declared.terminal.Terminal.TheVariants as terminals
use Rattle.og_grammar.specs.Lexeme.{Lexeme}
use Rattle.og_grammar.specs.Rule.{Meaning, one, map}
use Rattle.og_grammar.specs.Combinators as rules
use Rattle.og_language.specs.Symbols.{symbols, game}
use Rattle.og_language.specs.Trees.{or_empty}
use Rattle.og_language.specs.Grammar as g
use Rattle.og_syntax.specs.declared.types.NameTree.{NameTree}
use Rattle.og_syntax.specs.declared.types.TyTree.{TyTree}
use Rattle.og_syntax.specs.declared.games.GameTree.{GameTree}
use Rattle.og_syntax.specs.declared.declarations.Decl.TheVariants as decls
use Rattle.og_syntax.specs.declared.declarations.ParamKind.TheVariants as kinds
use Rattle.og_syntax.specs.Unplaced as u
use Rattle.og_canonical.specs.Tokens as c
use Rattle.og_canonical.specs.Types.{ty_text, params_text, names_text}
use Rattle.og_canonical.specs.Expressions.{expr_text}
use Rattle.og_canonical.specs.Games.{game_text}
use Rattle.og_canonical.specs.Programs.{kind_text, game_param_text, enum_text, alias_text, fn_front, game_front, decl_text, version_text}
use Rattle.og_reread.specs.Lexemes.{IsLexeme}
use Rattle.og_reread.proofs.Again.{Writes, w_text, Again, a_seq, a_alt, a_map, a_star}
use Rattle.og_reread.proofs.Tokens.{Equal, Whatever, w_number, number_small, a_mark, a_word}
use Rattle.og_reread.proofs.Lists.{a_within, a_behind_mark, a_before_mark, a_behind_word, a_commas, a_braces}
use Rattle.og_reread.proofs.Sames.{SameTy, SameName, SameParam, SameExpr, SameGame, SameKind, SameGameParam, SameDecl, same_lists}
use Rattle.og_reread.proofs.Joins.{join3, join5, join6}
use Rattle.og_reread.proofs.Optional.{a_or_empty, a_optional}
use Rattle.og_reread.proofs.Turns.{Turns, t_map, t_within}
use Rattle.og_reread.proofs.Parts.{Parts}
use Rattle.og_reread.proofs.GameParts.{a_params_in_brackets}
use Rattle.og_reread.proofs.GameLevels.{Whole}
use Rattle.og_reread.proofs.Games.{a_subgame}

-- what stands behind the `=` of a type
abbrev type_text : List NameTree ⊎ TyTree → List ℕ
type_text (inl names) = c.in_braces (names_text names)
type_text (inr t) = ty_text t

-- the same type, under whichever name
abbrev SameType : List NameTree ⊎ TyTree → List NameTree ⊎ TyTree → Type 0
SameType x y = (n k : NameTree) → SameName n k → SameDecl (g.type_of n x) (g.type_of k y)

-- ---- the version

module _ (m : Meaning symbols) where
  a_second : Again m g.second c.number Equal
  unfolding g.second
  a_second ts v real (t, (is, same, passes), made) =
      subst (λ n. Writes (map (λ x. x.value) (one terminals.Number (λ x. x.value == 2))) (c.number n) (Equal n)) (sym made)
      (w_number t.value (number_small m t (subst (AllByRecursion IsLexeme) is real).0 same) (λ x. x.value == 2)
      (λ x e. ap (λ n. n == 2) e ∙ passes))

  is_second : Turns m g.header (λ v. (v == 2) ≡ true)
  unfolding g.header g.second
  is_second =
      t_within m _ _ _ (λ v. (v == 2) ≡ true)
      (t_map m (λ x. x.value) (one terminals.Number (λ x. x.value == 2)) (λ x. (x.value == 2) ≡ true) (λ v. (v == 2) ≡ true) (λ x is. is)
      (record { such = λ ts x real is. is.2 }))

  version_written : (v : ℕ) → (v == 2) ≡ true → c.word words.Version ++ (c.number v ++ c.mark marks.Semicolon) ≡ version_text v
  unfolding version_text
  version_written v is =
      join3 (c.word words.Version) (c.number v) (c.mark marks.Semicolon)
      ∙ ap (λ n. c.word words.Version ++ c.number n ++ c.mark marks.Semicolon) (eqb-true v 2 is)
      ∙ ap (λ b. if b then c.word words.Version ++ c.number 2 ++ c.mark marks.Semicolon else []) (sym is)

  a_header : Again m g.header version_text Equal
  unfolding g.header
  a_header ts v real is =
      w_text _ _ (version_text v) (Equal v) (version_written v (is_second.such ts v real is))
      (a_within m (rules.word words.Version) g.second (rules.mark marks.Semicolon) (c.word words.Version) c.number (c.mark marks.Semicolon)
      Whatever Equal Whatever (a_word m words.Version) a_second (a_mark m marks.Semicolon) ts v real is)

module _ (m : Meaning symbols) (parts : Parts m) where
  -- ---- types

  a_cases : Again m g.cases (λ ns. c.in_braces (names_text ns)) (AllZip SameName)
  unfolding g.cases g.some_names
  a_cases =
      a_braces m (rules.commas g.placed_name) names_text (AllZip SameName)
      (a_commas m g.placed_name (λ n. c.spaced n.name) SameName parts.placed_name)

  a_cases_or_type : Again m g.cases_or_type type_text SameType
  unfolding g.cases_or_type
  a_cases_or_type =
      a_alt m _ _ type_text SameType
      (a_map m inl g.cases (λ ns. c.in_braces (names_text ns)) (AllZip SameName) type_text SameType (λ v. refl)
      (λ v w s n k r i. decls.Enum 0 (r i).name (same_lists u.name_unplaced v w s i)) a_cases)
      (a_map m inr g.ty ty_text SameTy type_text SameType (λ v. refl) (λ v w s n k r i. decls.Alias 0 (r i).name (s i)) parts.ty)

  type_decl_text : (n : NameTree) (x : List NameTree ⊎ TyTree)
      → c.word words.«Type» ++ (c.spaced n.name ++ (c.mark marks.Assign ++ (type_text x ++ c.mark marks.Semicolon))) ≡ decl_text (g.type_of n x)
  unfolding decl_text enum_text alias_text
  type_decl_text n (inl names) =
      join5 (c.word words.«Type») (c.spaced n.name) (c.mark marks.Assign) (c.in_braces (names_text names)) (c.mark marks.Semicolon)
  type_decl_text n (inr t) = join5 (c.word words.«Type») (c.spaced n.name) (c.mark marks.Assign) (ty_text t) (c.mark marks.Semicolon)

  a_type_decl : Again m g.type_decl decl_text SameDecl
  unfolding g.type_decl
  a_type_decl =
      a_map m (λ v. g.type_of v.0 v.1) _
      (λ v. c.word words.«Type» ++ (c.spaced v.0.name ++ (c.mark marks.Assign ++ (type_text v.1 ++ c.mark marks.Semicolon))))
      (λ v w. SameName v.0 w.0 × SameType v.1 w.1) decl_text SameDecl
      (λ v. type_decl_text v.0 v.1) (λ v w s. s.1 v.0 w.0 s.0)
      (a_behind_word m words.«Type» _ (λ v. c.spaced v.0.name ++ (c.mark marks.Assign ++ (type_text v.1 ++ c.mark marks.Semicolon)))
      (λ v w. SameName v.0 w.0 × SameType v.1 w.1)
      (a_seq m g.placed_name _ (λ n. c.spaced n.name) (λ x. c.mark marks.Assign ++ (type_text x ++ c.mark marks.Semicolon)) SameName SameType
      parts.placed_name
      (a_behind_mark m marks.Assign _ (λ x. type_text x ++ c.mark marks.Semicolon) SameType
      (a_before_mark m marks.Semicolon g.cases_or_type type_text SameType a_cases_or_type))))

  -- ---- functions

  a_answer : Again m g.answer (λ v. c.mark marks.Colon ++ (ty_text v.0 ++ (c.mark marks.Assign ++ expr_text v.1)))
      (λ v w. SameTy v.0 w.0 × SameExpr v.1 w.1)
  unfolding g.answer
  a_answer =
      a_behind_mark m marks.Colon _ (λ v. ty_text v.0 ++ (c.mark marks.Assign ++ expr_text v.1)) (λ v w. SameTy v.0 w.0 × SameExpr v.1 w.1)
      (a_seq m g.ty _ ty_text (λ e. c.mark marks.Assign ++ expr_text e) SameTy SameExpr parts.ty
      (a_behind_mark m marks.Assign g.expr expr_text SameExpr parts.expr))

  fn_text : (f n p l t a e s : List ℕ) → f ++ (n ++ (p ++ ((l ++ (t ++ (a ++ e))) ++ s))) ≡ (f ++ n ++ p ++ l ++ t ++ a) ++ e ++ s
  fn_text f n p l t a e s =
      ap (λ z. f ++ (n ++ (p ++ z)))
      (append_assoc l (t ++ (a ++ e)) s ∙ ap (λ z. l ++ z) (append_assoc t (a ++ e) s ∙ ap (λ z. t ++ z) (append_assoc a e s)))
      ∙ join5 f n p l (t ++ (a ++ (e ++ s))) ∙ join5 (f ++ n ++ p ++ l) t a e s

  a_fn_decl : Again m g.fn_decl decl_text SameDecl
  unfolding g.fn_decl decl_text fn_front
  a_fn_decl =
      a_map m (λ v. decls.Fn v.0.at v.0.name v.1.0 v.1.1.0 v.1.1.1) _
      (λ v. c.word words.Fn ++ (c.spaced v.0.name ++ (c.in_parens (params_text v.1.0)
      ++ ((c.mark marks.Colon ++ (ty_text v.1.1.0 ++ (c.mark marks.Assign ++ expr_text v.1.1.1))) ++ c.mark marks.Semicolon))))
      (λ v w. SameName v.0 w.0 × (AllZip SameParam v.1.0 w.1.0 × (SameTy v.1.1.0 w.1.1.0 × SameExpr v.1.1.1 w.1.1.1)))
      decl_text SameDecl
      (λ v. fn_text (c.word words.Fn) (c.spaced v.0.name) (c.in_parens (params_text v.1.0)) (c.mark marks.Colon) (ty_text v.1.1.0)
      (c.mark marks.Assign) (expr_text v.1.1.1) (c.mark marks.Semicolon))
      (λ v w s i. decls.Fn 0 (s.0 i).name (same_lists u.param_unplaced v.1.0 w.1.0 s.1.0 i) (s.1.1.0 i) (s.1.1.1 i))
      (a_behind_word m words.Fn _
      (λ v. c.spaced v.0.name ++ (c.in_parens (params_text v.1.0)
      ++ ((c.mark marks.Colon ++ (ty_text v.1.1.0 ++ (c.mark marks.Assign ++ expr_text v.1.1.1))) ++ c.mark marks.Semicolon)))
      (λ v w. SameName v.0 w.0 × (AllZip SameParam v.1.0 w.1.0 × (SameTy v.1.1.0 w.1.1.0 × SameExpr v.1.1.1 w.1.1.1)))
      (a_seq m g.placed_name _ (λ n. c.spaced n.name)
      (λ v. c.in_parens (params_text v.0)
      ++ ((c.mark marks.Colon ++ (ty_text v.1.0 ++ (c.mark marks.Assign ++ expr_text v.1.1))) ++ c.mark marks.Semicolon))
      SameName (λ v w. AllZip SameParam v.0 w.0 × (SameTy v.1.0 w.1.0 × SameExpr v.1.1 w.1.1)) parts.placed_name
      (a_seq m g.params_in_brackets _ (λ ps. c.in_parens (params_text ps))
      (λ v. (c.mark marks.Colon ++ (ty_text v.0 ++ (c.mark marks.Assign ++ expr_text v.1))) ++ c.mark marks.Semicolon)
      (AllZip SameParam) (λ v w. SameTy v.0 w.0 × SameExpr v.1 w.1) (a_params_in_brackets m parts)
      (a_before_mark m marks.Semicolon g.answer (λ v. c.mark marks.Colon ++ (ty_text v.0 ++ (c.mark marks.Assign ++ expr_text v.1)))
      (λ v w. SameTy v.0 w.0 × SameExpr v.1 w.1) a_answer))))

  -- ---- parameters of games

  a_param_kind : Again m g.param_kind kind_text SameKind
  unfolding g.param_kind kind_text
  a_param_kind =
      a_alt m _ _ kind_text SameKind
      (a_map m (λ _. kinds.Agent) (rules.word words.Agent) (λ _. c.word words.Agent) Whatever kind_text SameKind (λ v. refl) (λ v w s. refl)
      (a_word m words.Agent))
      (a_map m kinds.Of g.ty ty_text SameTy kind_text SameKind (λ v. refl) (λ v w s. ap kinds.Of s) parts.ty)

  a_game_param : Again m g.game_param game_param_text SameGameParam
  unfolding g.game_param game_param_text
  a_game_param =
      a_map m (λ v. record { at = v.0.at; name = v.0.name; kind = v.1 }) _ (λ v. c.spaced v.0.name ++ (c.mark marks.Colon ++ kind_text v.1))
      (λ v w. SameName v.0 w.0 × SameKind v.1 w.1) game_param_text SameGameParam
      (λ v. join3 (c.spaced v.0.name) (c.mark marks.Colon) (kind_text v.1))
      (λ v w s i. record { at = 0; name = (s.0 i).name; kind = s.1 i })
      (a_seq m g.name_tree _ (λ n. c.spaced n.name) (λ k. c.mark marks.Colon ++ kind_text k) SameName SameKind parts.name_tree
      (a_behind_mark m marks.Colon g.param_kind kind_text SameKind a_param_kind))

  a_game_params_or_none : Again m g.game_params_or_none (λ ps. c.optional (each game_param_text ps)) (AllZip SameGameParam)
  unfolding g.game_params_or_none g.game_params g.some_game_params
  a_game_params_or_none =
      a_map m or_empty _ (λ o. c.optional (each game_param_text (or_empty o))) (λ o p. AllZip SameGameParam (or_empty o) (or_empty p))
      (λ ps. c.optional (each game_param_text ps)) (AllZip SameGameParam) (λ o. refl) (λ o p s. s)
      (a_or_empty m g.game_params (λ ps. c.optional (each game_param_text ps)) (AllZip SameGameParam) refl tt
      (a_optional m g.game_param game_param_text SameGameParam a_game_param))

module _ (m : Meaning symbols) (parts : Parts m)
    (below : (b : Bool) (ts : List Lexeme) (x : GameTree) → AllByRecursion IsLexeme ts → m.spelled (game b) ts x → Whole b x) where
  a_game_body : (b : Bool) → Again m (g.game_body b) (λ x. c.mark marks.Assign ++ (game_text x ++ c.mark marks.Semicolon)) SameGame
  unfolding g.game_body
  a_game_body b =
      a_behind_mark m marks.Assign _ (λ x. game_text x ++ c.mark marks.Semicolon) SameGame
      (a_before_mark m marks.Semicolon (g.subgame b) game_text SameGame (a_subgame m parts below b))

  a_game_decl : (b : Bool) → Again m (g.game_decl b) decl_text SameDecl
  unfolding g.game_decl decl_text game_front
  a_game_decl b =
      a_map m (λ v. decls.Game v.0.at v.0.name v.1.0 v.1.1) _
      (λ v. c.word words.Game ++ (c.spaced v.0.name ++ (c.optional (each game_param_text v.1.0)
      ++ (c.mark marks.Assign ++ (game_text v.1.1 ++ c.mark marks.Semicolon)))))
      (λ v w. SameName v.0 w.0 × (AllZip SameGameParam v.1.0 w.1.0 × SameGame v.1.1 w.1.1)) decl_text SameDecl
      (λ v. join6 (c.word words.Game) (c.spaced v.0.name) (c.optional (each game_param_text v.1.0)) (c.mark marks.Assign)
      (game_text v.1.1) (c.mark marks.Semicolon))
      (λ v w s i. decls.Game 0 (s.0 i).name (same_lists u.game_param_unplaced v.1.0 w.1.0 s.1.0 i) (s.1.1 i))
      (a_behind_word m words.Game _
      (λ v. c.spaced v.0.name ++ (c.optional (each game_param_text v.1.0) ++ (c.mark marks.Assign ++ (game_text v.1.1 ++ c.mark marks.Semicolon))))
      (λ v w. SameName v.0 w.0 × (AllZip SameGameParam v.1.0 w.1.0 × SameGame v.1.1 w.1.1))
      (a_seq m g.placed_name _ (λ n. c.spaced n.name)
      (λ v. c.optional (each game_param_text v.0) ++ (c.mark marks.Assign ++ (game_text v.1 ++ c.mark marks.Semicolon)))
      SameName (λ v w. AllZip SameGameParam v.0 w.0 × SameGame v.1 w.1) parts.placed_name
      (a_seq m g.game_params_or_none (g.game_body b) (λ ps. c.optional (each game_param_text ps))
      (λ x. c.mark marks.Assign ++ (game_text x ++ c.mark marks.Semicolon)) (AllZip SameGameParam) SameGame
      (a_game_params_or_none m parts) (a_game_body b))))

  -- ---- declarations and programs

  pub a_decl : (b : Bool) → Again m (g.decl b) decl_text SameDecl
  unfolding g.decl
  a_decl b =
      a_alt m _ _ decl_text SameDecl (a_type_decl m parts) (a_alt m _ _ decl_text SameDecl (a_fn_decl m parts) (a_game_decl b))

  a_declarations : (b : Bool) → Again m (g.declarations b) (flat_map decl_text) (AllZip SameDecl)
  unfolding g.declarations
  a_declarations b = a_star m (g.decl b) decl_text SameDecl (a_decl b)

  -- the version and the declarations
  pub a_program : Again m g.program (λ v. version_text v.0 ++ flat_map decl_text v.1) (λ v w. Equal v.0 w.0 × AllZip SameDecl v.1 w.1)
  unfolding g.program version_text
  a_program =
      a_alt m _ _ (λ v. version_text v.0 ++ flat_map decl_text v.1) (λ v w. Equal v.0 w.0 × AllZip SameDecl v.1 w.1)
      (a_seq m g.header (g.declarations true) version_text (flat_map decl_text) Equal (AllZip SameDecl) (a_header m) (a_declarations true))
      (a_map m (λ ds. (1, ds)) (g.declarations false) (flat_map decl_text) (AllZip SameDecl)
      (λ v. version_text v.0 ++ flat_map decl_text v.1) (λ v w. Equal v.0 w.0 × AllZip SameDecl v.1 w.1) (λ ds. refl) (λ ds es s. (refl, s))
      (a_declarations false))
