-- The bounds of types that texts stand for fit.
use Rattle.std.proofs.Common.{◌≡◌, ◌∙◌, ℕ, true, List, [], ◌∷◌, ◌++◌, map, length, refl, sym, subst}
use Rattle.std.specs.Prelude.{Option, Some, None, nat_le, int_le, ◌&&◌, Ok}
use Rattle.std.specs.List.{list_all}
use Rattle.std.proofs.lemmas.Bool.{and_parts, and_from}
use Rattle.std.proofs.lemmas.List.Folds.{list_all-append}
use Rattle.og_types.specs.declared.ty.Ty.{Ty}
use Rattle.og_types.specs.declared.ty.Ty.TheVariants as ty
use Rattle.og_types.specs.Ty.{bounds_fit}
use Rattle.og_types.proofs.TyLevels.{bounds_fit_bool, bounds_fit_range, bounds_fit_number, bounds_fit_tuple}
use Rattle.og_expr.specs.Types.{is_word}
use Rattle.og_game.specs.Wired.{is_small, has_few_values}
use Rattle.og_syntax.specs.declared.types.TyTree.{TyTree}
use Rattle.og_syntax.specs.declared.types.TyTree.TheOpen.{TyTree-F}
use Rattle.og_syntax.specs.declared.types.TyTree.TheOpen as one
use Rattle.og_syntax.specs.declared.types.TyTree.TheViews.{roll-TyTree}
use Rattle.og_syntax.specs.declared.types.TyTree.TheFolds.{ind-TyTree, map-TyTree, fold-roll-TyTree}
use Rattle.og_names.specs.Names.{lookup}
use Rattle.og_typing.specs.declared.fault.WireFault.TheVariants.{WrongType, TooManyValues, TooBig}
use Rattle.og_typing.specs.declared.meaning.Meaning.{Meaning}
use Rattle.og_typing.specs.declared.meaning.Meaning.TheVariants as meanings
use Rattle.og_typing.specs.Checked.{Checked, ◌>>◌, rule, in_turn}
use Rattle.og_typing.specs.Types.{Table, type_named, are_bounds, sized, with_type, tuple_type, type_rule, type_walk}
use Rattle.og_typing.proofs.Steps.{bind_ok, rule_holds}
use Rattle.og_inlining.proofs.Accepted.{one_answer}

sized_same : (at : ℕ) (u t : Ty) → sized at u ≡ Ok t → u ≡ t
sized_same at u t is =
    let small = bind_ok (rule (is_small u) (TooBig at)) (λ _. rule (has_few_values u) (TooManyValues at) >> Ok u) t is in
    let few = bind_ok (rule (has_few_values u) (TooManyValues at)) (λ _. Ok u) t small.2 in
    one_answer (Ok u) u t refl few.2

module _ (declared : Table Meaning)
    (known : (name : List ℕ) (t : Ty) → lookup name declared ≡ Some (meanings.Type t) → bounds_fit t ≡ true) where
  abbrev Bounded : TyTree → Type 0
  Bounded written = (t : Ty) → type_walk written declared ≡ Ok t → bounds_fit t ≡ true

  named_bounded : (at : ℕ) (name : List ℕ) (t : Ty) (m : Option Meaning) → lookup name declared ≡ m → type_named at m ≡ Ok t
      → bounds_fit t ≡ true
  named_bounded at name t (Some (meanings.Type u)) there is =
      subst (λ w. bounds_fit w ≡ true) (one_answer (Ok u) u t refl is) (known name u there)
  named_bounded at name t (Some (meanings.Case family cases index)) there is = cc
  named_bounded at name t (Some (meanings.Function f)) there is = cc
  named_bounded at name t (Some (meanings.Game number)) there is = cc
  named_bounded at name t None there is = cc

  all_bounded : (parts : List ((e : TyTree) × Bounded e)) (before after : List Ty)
      → in_turn (with_type declared) before (map type_walk (map (λ e. e.0) parts)) ≡ Ok after
      → list_all bounds_fit before ≡ true → list_all bounds_fit after ≡ true
  all_bounded [] before after is all = subst (λ ts. list_all bounds_fit ts ≡ true) (one_answer (Ok before) before after refl is) all
  all_bounded (part ∷ parts) before after is all =
      let walked = bind_ok (with_type declared before (type_walk part.0))
      (λ next. in_turn (with_type declared) next (map type_walk (map (λ e. e.0) parts))) after is in
      let found = bind_ok (type_walk part.0 declared) (λ t. Ok (before ++ t ∷ [])) walked.0 walked.1 in
      all_bounded parts walked.0 after walked.2
      (subst (λ ts. list_all bounds_fit ts ≡ true) (one_answer (Ok (before ++ found.0 ∷ [])) (before ++ found.0 ∷ []) walked.0 refl found.2)
      (list_all-append bounds_fit before (found.0 ∷ [])
      ∙ and_from (list_all bounds_fit before) (list_all bounds_fit (found.0 ∷ [])) all (and_from (bounds_fit found.0) true (part.1 found.0 found.1) refl)))

  form_bounded : (form : TyTree-F ((e : TyTree) × Bounded e)) (t : Ty)
      → type_rule (map-TyTree TyTree (Table Meaning → Checked Ty) type_walk (map-TyTree ((e : TyTree) × Bounded e) TyTree (λ e. e.0) form)) declared ≡ Ok t
      → bounds_fit t ≡ true
  form_bounded (one.Name at name) t is = named_bounded at name t (lookup name declared) refl is
  form_bounded (one.Bool at) t is = subst (λ w. bounds_fit w ≡ true) (one_answer (Ok ty.Bool) ty.Bool t refl is) bounds_fit_bool
  form_bounded (one.Number at) t is = subst (λ w. bounds_fit w ≡ true) (one_answer (Ok ty.Number) ty.Number t refl is) bounds_fit_number
  form_bounded (one.Range at low high) t is =
      let held = bind_ok (rule (are_bounds low high) (WrongType at)) (λ _. sized at (ty.Range low high)) t is in
      let holds = rule_holds (are_bounds low high) (WrongType at) held.0 held.1 in
      subst (λ w. bounds_fit w ≡ true) (sized_same at (ty.Range low high) t held.2)
      (bounds_fit_range low high ∙ (and_parts (int_le low high) (is_word low && is_word high) holds).1)
  form_bounded (one.Tuple at parts) t is =
      let walked = bind_ok (in_turn (with_type declared) [] (map type_walk (map (λ e. e.0) parts))) (λ types. tuple_type at types) t is in
      let held = bind_ok (rule (nat_le 2 (length walked.0)) (WrongType at)) (λ _. sized at (ty.Tuple walked.0)) t walked.2 in
      subst (λ w. bounds_fit w ≡ true) (sized_same at (ty.Tuple walked.0) t held.2)
      (bounds_fit_tuple walked.0 ∙ all_bounded parts [] walked.0 walked.1 refl)

  pub type_bounded : (written : TyTree) (t : Ty) → type_walk written declared ≡ Ok t → bounds_fit t ≡ true
  type_bounded = ind-TyTree Bounded (λ x y is. subst (λ z. Bounded (roll-TyTree z)) is (λ t walked.
      form_bounded y t
      (sym (λ i. fold-roll-TyTree (Table Meaning → Checked Ty) type_rule (map-TyTree ((e : TyTree) × Bounded e) TyTree (λ e. e.0) y) i declared)
      ∙ walked)))
