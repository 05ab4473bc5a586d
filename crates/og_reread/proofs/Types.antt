-- Bounds, names, types and variables with their types, spelled again.
use Rattle.std.proofs.Common.{◌≡◌, ◌∙◌, ℕ, zero, suc, ◌^◌, ◌<◌, ℤ, pos, negsuc, List, [], ◌++◌, Option, None, Some, refl, sym, ap, subst, cond, arith, append_assoc, le-ltb}
use Rattle.std.proofs.lemmas.Int.{ints}
use Rattle.std.proofs.Common.{map as each}
use Rattle.std.specs.Prelude.{unsigned_abs}
use Rattle.std.specs.List.{AllByRecursion, AllZip}
use Rattle.og_lex.specs.declared.token.Mark.TheVariants as marks
use Rattle.og_lex.specs.declared.token.Word.TheVariants as words
use Rattle.og_grammar.specs.declared.terminal.Terminal.TheVariants as terminals
use Rattle.og_grammar.specs.Reading.{any}
use Rattle.og_grammar.specs.Rule.{Meaning, seq, alt, map, at, give}
use Rattle.og_grammar.specs.Combinators as rules
use Rattle.og_syntax.specs.declared.types.TyTree.{TyTree}
use Rattle.og_syntax.specs.declared.types.TyTree.TheOpen as ty_level
use Rattle.og_syntax.specs.declared.types.TyTree.TheFolds.{fold-roll-TyTree}
use Rattle.og_syntax.specs.declared.types.TyTree.TheVariants as tys
use Rattle.og_syntax.specs.Unplaced as u
use Rattle.og_syntax.proofs.WithoutPlaces as without
use Rattle.og_language.specs.Symbols.{symbols}
use Rattle.og_language.specs.Trees.{signed}
use Rattle.og_language.specs.Grammar as g
use Rattle.og_canonical.specs.Tokens as c
use Rattle.og_canonical.specs.Types.{range_text, ty_step, ty_text, tys_text, param_text, params_text}
use Rattle.og_canonical.proofs.TypeForms.{tuple_text}
use Rattle.og_reread.specs.Lexemes.{IsLexeme}
use Rattle.og_reread.proofs.Rows.{split_all}
use Rattle.og_reread.proofs.Again.{Writes, w_text, w_give, w_seq, w_map, w_left, w_right, Again, a_seq, a_alt, a_map, a_at, a_as}
use Rattle.og_reread.proofs.Tokens.{Equal, Whatever, w_mark, w_number, a_name, a_under, a_word, number_small}
use Rattle.og_reread.proofs.Lists.{a_behind_mark, a_commas_or_none, a_two_or_more, a_parens, a_brackets, a_placed_parens}
use Rattle.og_reread.proofs.Sames.{SameTy, SameName, SameParam, same_lists}

-- ---- bounds

no_minus : Writes (rules.opt (rules.mark marks.Minus)) [] (λ v. v ≡ None)
no_minus = w_right (map Some (rules.mark marks.Minus)) (give None) [] (λ v. v ≡ None) (w_give None (λ v. v ≡ None) refl)

some_minus : Writes (rules.opt (rules.mark marks.Minus)) (c.mark marks.Minus) (λ v. (place : ℕ) × (v ≡ Some place))
some_minus =
    w_left (map Some (rules.mark marks.Minus)) (give None) (c.mark marks.Minus) (λ v. (place : ℕ) × (v ≡ Some place))
    (w_map Some (rules.mark marks.Minus) (c.mark marks.Minus) (λ _. Unit {0}) (λ v. (place : ℕ) × (v ≡ Some place)) (λ place is. (place, refl))
    (w_mark marks.Minus))

-- a number is written as its size, behind a minus where it is below 0
whole_size : (n : ℕ) → c.whole (pos n) ≡ c.number n
unfolding c.whole
whole_size n = ap (λ b. cond b (c.mark marks.Minus ++ c.number n) (c.number n)) (le-ltb n 0 (omega arith))

negative_is : (n : ℕ) → signed (Some n) (suc n) ≡ negsuc n
negative_is n = omega (arith, ints)

pub w_bound : (z : ℤ) → unsigned_abs z < 2 ^ 63 → Writes g.bound (c.whole z) (Equal z)
unfolding g.bound c.whole
w_bound (pos n) small =
    w_map (λ v. signed v.0 v.1) (seq (rules.opt (rules.mark marks.Minus)) rules.number) (c.whole (pos n))
    (λ v. (v.0 ≡ None) × (v.1 ≡ n)) (Equal (pos n)) (λ v s. λ i. signed (s.0 i) (s.1 i))
    (w_text (seq (rules.opt (rules.mark marks.Minus)) rules.number) (c.number n) (c.whole (pos n)) (λ v. (v.0 ≡ None) × (v.1 ≡ n)) (sym (whole_size n))
    (w_seq (rules.opt (rules.mark marks.Minus)) rules.number [] (c.number n) (λ v. v ≡ None) (Equal n) no_minus
    (w_number n small any (λ u e. refl))))
w_bound (negsuc n) small =
    w_map (λ v. signed v.0 v.1) (seq (rules.opt (rules.mark marks.Minus)) rules.number) (c.whole (negsuc n))
    (λ v. ((place : ℕ) × (v.0 ≡ Some place)) × (v.1 ≡ suc n)) (Equal (negsuc n)) (λ v s. (λ i. signed (s.0.1 i) (s.1 i)) ∙ negative_is n)
    (w_seq (rules.opt (rules.mark marks.Minus)) rules.number (c.mark marks.Minus) (c.number (suc n)) (λ v. (place : ℕ) × (v ≡ Some place)) (Equal (suc n)) some_minus
    (w_number (suc n) small any (λ u e. refl)))

signed_size : (v : Option ℕ × ℕ) → unsigned_abs (signed v.0 v.1) ≡ v.1
signed_size (None, n) = refl
signed_size (Some place, zero) = refl
signed_size (Some place, suc n) = ap unsigned_abs (negative_is n)

module _ (m : Meaning symbols) where
  pub a_bound : Again m g.bound c.whole Equal
  unfolding g.bound
  a_bound ts v real (a, (xs, ys, cut, sign, (t, (is, same, passes), made)), of) =
      let parts = split_all IsLexeme xs ys (subst (AllByRecursion IsLexeme) cut real) in
      let lexeme = (subst (AllByRecursion IsLexeme) is parts.1).0 in
      let size : unsigned_abs v ≡ t.value = ap unsigned_abs of ∙ signed_size a ∙ made in
      w_bound v (subst (λ n. n < 2 ^ 63) (sym size) (number_small m t lexeme same))

  pub a_limits : Again m g.limits (λ v. range_text v.1.0 v.1.1) (λ v w. w.1 ≡ v.1)
  unfolding g.limits range_text
  a_limits =
      a_as m (at (seq g.bound (rules.behind (rules.mark marks.DotDot) g.bound)))
      (λ v. c.whole v.1.0 ++ (c.mark marks.DotDot ++ c.whole v.1.1)) (λ v. range_text v.1.0 v.1.1)
      (λ v w. (w.1.0 ≡ v.1.0) × (w.1.1 ≡ v.1.1)) (λ v w. w.1 ≡ v.1)
      (λ v. sym (append_assoc (c.whole v.1.0) (c.mark marks.DotDot) (c.whole v.1.1))) (λ v w s i. (s.0 i, s.1 i))
      (a_at m (seq g.bound (rules.behind (rules.mark marks.DotDot) g.bound)) (λ v. c.whole v.0 ++ (c.mark marks.DotDot ++ c.whole v.1))
      (λ v w. Equal v.0 w.0 × Equal v.1 w.1)
      (a_seq m g.bound (rules.behind (rules.mark marks.DotDot) g.bound) c.whole (λ z. c.mark marks.DotDot ++ c.whole z) Equal Equal a_bound
      (a_behind_mark m marks.DotDot g.bound c.whole Equal a_bound)))

-- ---- names

module _ (m : Meaning symbols) where
  pub a_variable : Again m g.variable c.spaced Equal
  unfolding g.variable
  a_variable =
      a_alt m (rules.spelling_of terminals.Name) (rules.spelling_of terminals.Under) c.spaced Equal (a_name m) (a_under m)

  pub a_name_tree : Again m g.name_tree (λ n. c.spaced n.name) SameName
  unfolding g.name_tree
  a_name_tree =
      a_map m (λ v. record { at = v.0; name = v.1 }) (at g.variable) (λ v. c.spaced v.1) (λ v w. Equal v.1 w.1) (λ n. c.spaced n.name) SameName
      (λ v. refl) (λ v w s i. record { at = 0; name = s i }) (a_at m g.variable c.spaced Equal a_variable)

  pub a_placed_name : Again m g.placed_name (λ n. c.spaced n.name) SameName
  unfolding g.placed_name g.name
  a_placed_name =
      a_map m (λ v. record { at = v.0; name = v.1 }) (at g.name) (λ v. c.spaced v.1) (λ v w. Equal v.1 w.1) (λ n. c.spaced n.name) SameName
      (λ v. refl) (λ v w s i. record { at = 0; name = s i }) (a_at m g.name c.spaced Equal (a_name m))

-- ---- types

name_unplaced : (place : ℕ) (name : List ℕ) → u.ty_unplaced (tys.Name place name) ≡ tys.Name 0 name
name_unplaced place name = ap u.ty_unplaced (sym (tys.rolls-Name place name)) ∙ fold-roll-TyTree TyTree u.ty_step (ty_level.Name place name)

bool_unplaced : (place : ℕ) → u.ty_unplaced (tys.Bool place) ≡ tys.Bool 0
bool_unplaced place = ap u.ty_unplaced (sym (tys.rolls-Bool place)) ∙ fold-roll-TyTree TyTree u.ty_step (ty_level.Bool place)

number_unplaced : (place : ℕ) → u.ty_unplaced (tys.Number place) ≡ tys.Number 0
number_unplaced place = ap u.ty_unplaced (sym (tys.rolls-Number place)) ∙ fold-roll-TyTree TyTree u.ty_step (ty_level.Number place)

range_unplaced : (place : ℕ) (low high : ℤ) → u.ty_unplaced (tys.Range place low high) ≡ tys.Range 0 low high
range_unplaced place low high =
    ap u.ty_unplaced (sym (tys.rolls-Range place low high)) ∙ fold-roll-TyTree TyTree u.ty_step (ty_level.Range place low high)

name_type_text : (place : ℕ) (name : List ℕ) → c.spaced name ≡ ty_text (tys.Name place name)
name_type_text place name =
    sym (ap ty_text (sym (tys.rolls-Name place name)) ∙ fold-roll-TyTree (List ℕ) ty_step (ty_level.Name place name))

bool_text : (place : ℕ) → c.word words.Bool ≡ ty_text (tys.Bool place)
bool_text place = sym (ap ty_text (sym (tys.rolls-Bool place)) ∙ fold-roll-TyTree (List ℕ) ty_step (ty_level.Bool place))

number_text : (place : ℕ) → c.word words.Number ≡ ty_text (tys.Number place)
number_text place = sym (ap ty_text (sym (tys.rolls-Number place)) ∙ fold-roll-TyTree (List ℕ) ty_step (ty_level.Number place))

range_type_text : (place : ℕ) (low high : ℤ) → range_text low high ≡ ty_text (tys.Range place low high)
range_type_text place low high =
    sym (ap ty_text (sym (tys.rolls-Range place low high)) ∙ fold-roll-TyTree (List ℕ) ty_step (ty_level.Range place low high))

module _ (m : Meaning symbols) where
  a_range : Again m g.range ty_text SameTy
  unfolding g.range g.limits
  a_range =
      a_map m (λ v. tys.Range v.0 v.1.0 v.1.1) g.limits (λ v. range_text v.1.0 v.1.1) (λ v w. w.1 ≡ v.1) ty_text SameTy
      (λ v. range_type_text v.0 v.1.0 v.1.1)
      (λ v w s. range_unplaced w.0 w.1.0 w.1.1 ∙ (λ i. tys.Range 0 (s i).0 (s i).1) ∙ sym (range_unplaced v.0 v.1.0 v.1.1))
      (a_limits m)

  a_tuple_type : Again m g.ty ty_text SameTy → Again m g.tuple_type ty_text SameTy
  unfolding g.tuple_type g.type_parts
  a_tuple_type types =
      a_map m (λ v. tys.Tuple v.0 v.1) (seq (rules.mark marks.LeftParen) (rules.before g.type_parts (rules.mark marks.RightParen)))
      (λ v. c.in_parens (c.commas (each ty_text v.1))) (λ v w. AllZip SameTy v.1 w.1) ty_text SameTy
      (λ v. sym (tuple_text v.0 v.1))
      (λ v w s. without.ty_tuple w.0 w.1 ∙ ap (tys.Tuple 0) (same_lists u.ty_unplaced v.1 w.1 s) ∙ sym (without.ty_tuple v.0 v.1))
      (a_placed_parens m g.type_parts (λ ts. c.commas (each ty_text ts)) (AllZip SameTy) (a_two_or_more m g.ty ty_text SameTy types))

  name_type : Again m (map (λ v. tys.Name v.0 v.1) (at g.name)) ty_text SameTy
  unfolding g.name
  name_type =
      a_map m (λ v. tys.Name v.0 v.1) (at g.name) (λ v. c.spaced v.1) (λ v w. Equal v.1 w.1) ty_text SameTy
      (λ v. name_type_text v.0 v.1) (λ v w s. name_unplaced w.0 w.1 ∙ ap (tys.Name 0) s ∙ sym (name_unplaced v.0 v.1))
      (a_at m g.name c.spaced Equal (a_name m))

  bool_type : Again m (map tys.Bool (rules.word words.Bool)) ty_text SameTy
  bool_type =
      a_map m tys.Bool (rules.word words.Bool) (λ _. c.word words.Bool) Whatever ty_text SameTy
      bool_text (λ v w s. bool_unplaced w ∙ sym (bool_unplaced v)) (a_word m words.Bool)

  number_type : Again m (map tys.Number (rules.word words.Number)) ty_text SameTy
  number_type =
      a_map m tys.Number (rules.word words.Number) (λ _. c.word words.Number) Whatever ty_text SameTy
      number_text (λ v w s. number_unplaced w ∙ sym (number_unplaced v)) (a_word m words.Number)

  pub a_type : Again m g.ty ty_text SameTy → Again m g.type_rule ty_text SameTy
  unfolding g.type_rule
  a_type types =
      a_alt m (map (λ v. tys.Name v.0 v.1) (at g.name))
      (alt (map tys.Bool (rules.word words.Bool)) (alt (map tys.Number (rules.word words.Number)) (alt g.range g.tuple_type)))
      ty_text SameTy name_type
      (a_alt m (map tys.Bool (rules.word words.Bool)) (alt (map tys.Number (rules.word words.Number)) (alt g.range g.tuple_type)) ty_text SameTy bool_type
      (a_alt m (map tys.Number (rules.word words.Number)) (alt g.range g.tuple_type) ty_text SameTy number_type
      (a_alt m g.range g.tuple_type ty_text SameTy a_range (a_tuple_type types))))

-- ---- types where a type may stand

module _ (m : Meaning symbols) (types : Again m g.ty ty_text SameTy) where
  pub a_types_or_none : Again m g.types_or_none (λ ts. c.commas (each ty_text ts)) (AllZip SameTy)
  unfolding g.types_or_none
  a_types_or_none = a_commas_or_none m g.ty ty_text SameTy types

  pub a_type_list : Again m g.type_list tys_text (AllZip SameTy)
  unfolding g.type_list
  a_type_list = a_brackets m g.types_or_none (λ ts. c.commas (each ty_text ts)) (AllZip SameTy) a_types_or_none

  pub a_param : Again m g.param param_text SameParam
  unfolding g.param param_text
  a_param =
      a_map m (λ v. record { at = v.0; name = v.1.0; ty = v.1.1 }) (at (seq g.variable (rules.behind (rules.mark marks.Colon) g.ty)))
      (λ v. c.spaced v.1.0 ++ (c.mark marks.Colon ++ ty_text v.1.1)) (λ v w. Equal v.1.0 w.1.0 × SameTy v.1.1 w.1.1) param_text SameParam
      (λ v. sym (append_assoc (c.spaced v.1.0) (c.mark marks.Colon) (ty_text v.1.1)))
      (λ v w s i. record { at = 0; name = s.0 i; ty = s.1 i })
      (a_at m (seq g.variable (rules.behind (rules.mark marks.Colon) g.ty)) (λ v. c.spaced v.0 ++ (c.mark marks.Colon ++ ty_text v.1))
      (λ v w. Equal v.0 w.0 × SameTy v.1 w.1)
      (a_seq m g.variable (rules.behind (rules.mark marks.Colon) g.ty) c.spaced (λ t. c.mark marks.Colon ++ ty_text t) Equal SameTy (a_variable m)
      (a_behind_mark m marks.Colon g.ty ty_text SameTy types)))

  pub a_params : Again m g.params params_text (AllZip SameParam)
  unfolding g.params
  a_params = a_commas_or_none m g.param param_text SameParam a_param

  pub a_params_in_brackets : Again m g.params_in_brackets (λ ps. c.in_parens (params_text ps)) (AllZip SameParam)
  unfolding g.params_in_brackets
  a_params_in_brackets = a_parens m g.params params_text (AllZip SameParam) a_params
