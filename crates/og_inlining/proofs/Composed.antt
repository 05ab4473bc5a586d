-- Accepted components, tuples and choices have trees whose types go as the ones that were found.
use Rattle.std.proofs.Common.{◌≡◌, ◌∙◌, ℕ, zero, suc, ◌+◌, Bool, true, false, List, [], ◌∷◌, ◌++◌, map, length, refl, ap, sym, subst, true≢false, arith}
use Rattle.std.specs.Prelude.{Option, Some, None, option_and_then, if◌then◌else◌, nat_le, nat_lt, ◌^◌, Ok}
use Rattle.std.specs.Option.{option_map}
use Rattle.std.specs.List.{list_all, AllByRecursion}
use Rattle.std.proofs.lemmas.Bool.{and_from, lt-ltb}
use Rattle.std.proofs.lemmas.List.Folds.{list_all-append}
use Rattle.std.proofs.lemmas.Option.{same_Some}
use Rattle.og_types.specs.declared.ty.Ty.{Ty}
use Rattle.og_types.specs.declared.ty.Ty.TheVariants as ty
use Rattle.og_types.proofs.TyLevels.{fits_tuples}
use Rattle.og_expr.specs.declared.node.NodeOf.TheVariants as nodes
use Rattle.og_expr.specs.declared.node.Term.{Term}
use Rattle.og_expr.specs.Terms.{term_of}
use Rattle.og_expr.specs.Levels.{choice_with, node_with, fold_of_node}
use Rattle.og_expr.specs.Types.{goes_as, join_all, component, each_of as each_type, type_rule, type_of}
use Rattle.og_expr.proofs.Narrower.{narrower_some, narrower_component}
use Rattle.og_game.specs.Wired.{is_small}
use Rattle.og_syntax.specs.declared.expressions.ExprTree.{ExprTree}
use Rattle.og_syntax.specs.declared.expressions.ExprTree.TheOpen as forms
use Rattle.og_syntax.specs.declared.expressions.IfArm.{IfArm}
use Rattle.og_typing.specs.declared.fault.WireFault.TheVariants.{WrongType, TooBig}
use Rattle.og_typing.specs.Checked.{rule, in_turn}
use Rattle.og_typing.specs.Levels.{arm_with}
use Rattle.og_typing.specs.Scopes.{Names}
use Rattle.og_typing.specs.Expressions.{part_of, expr_walk, kind, join_found, joined, settled, beside, written_component, component_of, components, tuple_kind, arm_walk, arms_walk, field_walk, tuple_walk, if_walk}
use Rattle.og_typing.proofs.Steps.{bind_ok, rule_holds}
use Rattle.og_inlining.specs.Seen.{Seen}
use Rattle.og_inlining.specs.Steps.{each_of}
use Rattle.og_inlining.specs.Trees.{built, fields, tree_in, tree_rule, part_tree, arm_tree, tree_goes}
use Rattle.og_inlining.proofs.Induction.{OfArm}
use Rattle.og_inlining.proofs.Accepted.{Holds, holds_bind, holds_rule, holds_kind, one_answer, join_all_goes, fitting_tree, built_some, built_goes, then_goes}
use Rattle.og_inlining.proofs.Parts.{Sound, go_as, beside_fit, found_join, joined_fits, arms_fit}
use Rattle.og_inlining.proofs.Operations.{counted}

-- ---- components

when_there : {A : Type 0} (b : Bool) (o : Option A) (a : A) → (if b then o else None) ≡ Some a → (b ≡ true) × (o ≡ Some a)
when_there true o a is = (refl, is)
when_there false o a is = cc

field_type : (k : ℕ) (u v : Ty) (e : Term) → goes_as u (type_of e) ≡ true → written_component k u ≡ Some v
    → goes_as v (type_rule (node_with type_of (nodes.Field e k))) ≡ true
field_type k u v e goes is =
    let there = when_there (nat_lt k (2 ^ 63)) (component k u) v is in
    ap (λ b. goes_as v (if b then option_and_then (component k) (type_of e) else None)) there.0
    ∙ narrower_component k (Some u) (type_of e) (narrower_some u (type_of e) goes) v there.1

fields_go : (at : ℕ) (path : List ℕ) (u t : Ty) (e : Term) → goes_as u (type_of e) ≡ true → components at u path ≡ Ok t
    → tree_goes t (fields e path) ≡ true
fields_go at [] u t e goes is = subst (λ w. goes_as w (type_of e) ≡ true) (one_answer (Ok u) u t refl is) goes
fields_go at (k ∷ path) u t e goes is =
    let found = bind_ok (component_of at u k) (λ next. in_turn (component_of at) next path) t is in
    let field = field_type k u found.0 e goes (found_join at (written_component k u) found.0 found.1) in
    then_goes t (built (nodes.Field e k)) (λ next. fields next path) (term_of (nodes.Field e k))
    (built_some found.0 (nodes.Field e k) field)
    (fields_go at path found.0 t (term_of (nodes.Field e k))
    (ap (goes_as found.0) (fold_of_node type_rule (nodes.Field e k)) ∙ field) found.2)

pub field_holds : (names : Names) (seen : Seen) (depth at : ℕ) (part : ExprTree) (path : List ℕ) → Sound names seen part
    → Holds (field_walk at names depth (part_of part) path) (tree_rule (forms.Field at (tree_in part) path) seen)
unfolding field_walk tree_rule
field_holds names seen depth at part path sound =
    holds_rule (nat_lt 0 (length path)) (WrongType at) _ _ (λ some.
    holds_rule (nat_le (depth + length path) 49) (TooBig at) _ _ (λ shallow.
    holds_bind (expr_walk part names (depth + length path)) _ _ (λ found is.
    holds_bind (components (part_of part).at found.ty path) (λ t. Ok (kind t found.deep)) _ (λ t inside.
    let there = fitting_tree found.ty (tree_in part seen) (sound (depth + length path) found is) in
    holds_kind t found.deep _
    (then_goes t (tree_in part seen) (λ e. fields e path) there.tree there.is
    (fields_go (part_of part).at path found.ty t there.tree there.goes inside))))))

-- ---- tuples

tuple_goes : (ts : List Ty) (os : Option (List Ty)) → go_as ts os ≡ true → goes_as (ty.Tuple ts) (option_map ty.Tuple os) ≡ true
tuple_goes ts None go = absurd (true≢false (sym go))
tuple_goes ts (Some us) go = fits_tuples us ts ∙ go

pub tuple_holds : (names : Names) (seen : Seen) (depth at : ℕ) (parts : List ExprTree) → AllByRecursion (Sound names seen) parts
    → Holds (tuple_walk at names depth (map part_of parts)) (tree_rule (forms.Tuple at (map tree_in parts)) seen)
unfolding tuple_walk tree_rule
tuple_holds names seen depth at parts sound =
    holds_rule (nat_le 2 (length (map part_of parts))) (WrongType at) _ _ (λ two.
    holds_bind (in_turn (beside names (depth + 1)) (record { types = []; deep = depth }) (map part_of parts)) (tuple_kind at) _ (λ found is.
    holds_rule (is_small (ty.Tuple found.types)) (TooBig at) (Ok (kind (ty.Tuple found.types) found.deep)) _ (λ small.
    let all = beside_fit names seen (depth + 1) (record { types = []; deep = depth }) found parts sound is in
    holds_kind (ty.Tuple found.types) found.deep _
    (then_goes (ty.Tuple found.types) (each_of (part_tree seen) [] (map tree_in parts)) (λ es. built (nodes.Tuple es)) all.trees (all.are [])
    (built_goes (ty.Tuple found.types) (nodes.Tuple all.trees)
    (ap (λ b. goes_as (ty.Tuple found.types) (if b then option_map ty.Tuple (each_type (map type_of all.trees)) else None))
    (counted (nat_le 2) type_of all.trees part_of parts all.count two)
    ∙ tuple_goes found.types (each_type (map type_of all.trees))
    (subst (λ ts. go_as ts (each_type (map type_of all.trees)) ≡ true) (sym all.behind) all.go)))))))

-- ---- choices by conditions

pub one_some : (n : ℕ) → nat_le 1 n ≡ true → nat_lt 0 n ≡ true
one_some zero is = absurd (true≢false (sym is))
one_some (suc n) is = lt-ltb 0 (suc n) (omega arith)

some_behind : {A : Type 0} (xs : List A) (x : A) → nat_lt 0 (length (xs ++ x ∷ [])) ≡ true
some_behind [] x = refl
some_behind (y ∷ xs) x = lt-ltb 0 (suc (length (xs ++ x ∷ []))) (omega arith)

branches_go : (t : Ty) (os : List (Option Ty)) (o : Option Ty) → list_all (goes_as t) os ≡ true → goes_as t o ≡ true
    → goes_as t (join_all (os ++ o ∷ [])) ≡ true
branches_go t os o all last =
    join_all_goes t (os ++ o ∷ []) (some_behind os o)
    (list_all-append (goes_as t) os (o ∷ [])
    ∙ and_from (list_all (goes_as t) os) (list_all (goes_as t) (o ∷ [])) all (and_from (goes_as t o) true last refl))

pub if_holds : (names : Names) (seen : Seen) (depth at : ℕ) (arms : List (IfArm ExprTree)) (otherwise : ExprTree)
    → AllByRecursion (OfArm (Sound names seen)) arms → Sound names seen otherwise
    → Holds (if_walk at names depth (map (arm_with part_of) arms) (part_of otherwise))
    (tree_rule (forms.If at (map (arm_with tree_in) arms) (tree_in otherwise)) seen)
unfolding if_walk tree_rule
if_holds names seen depth at arms otherwise sound last =
    holds_bind (arms_walk at names depth (map (arm_with part_of) arms)) _ _ (λ branches armed.
    holds_bind (joined names (depth + 1) branches (part_of otherwise)) (settled at) _ (λ all joins.
    holds_bind (join_found at all.ty) (λ t. Ok (kind t all.deep)) _ (λ t some.
    let held = bind_ok (rule (nat_le 1 (length (map (arm_with part_of) arms))) (WrongType at))
    (λ _. in_turn (arm_walk names (depth + 1)) (record { ty = None; deep = depth }) (map (arm_with part_of) arms)) branches armed in
    let last_one = joined_fits names seen (depth + 1) branches all otherwise last joins in
    let same = same_Some last_one.ty t (sym last_one.is ∙ found_join at all.ty t some) in
    let first = arms_fit names seen (depth + 1) (record { ty = None; deep = depth }) branches last_one.ty arms sound held.2 last_one.under in
    holds_kind t all.deep _
    (then_goes t (each_of (arm_tree seen) [] (map (arm_with tree_in) arms))
    (λ choices. option_and_then (λ e. built (nodes.If choices e)) (tree_in otherwise seen)) first.trees (first.are [])
    (then_goes t (tree_in otherwise seen) (λ e. built (nodes.If first.trees e)) last_one.there.tree last_one.there.is
    (subst (λ w. tree_goes w (built (nodes.If first.trees last_one.there.tree)) ≡ true) same
    (built_goes last_one.ty (nodes.If first.trees last_one.there.tree)
    (ap (λ b. goes_as last_one.ty (if b then join_all (map (λ c. c.body) (map (choice_with type_of) first.trees) ++ type_of last_one.there.tree ∷ []) else None))
    (and_from (nat_lt 0 (length (map (choice_with type_of) first.trees))) _
    (one_some _ (counted (nat_le 1) (choice_with type_of) first.trees (arm_with part_of) arms first.count
    (rule_holds (nat_le 1 (length (map (arm_with part_of) arms))) (WrongType at) held.0 held.1))) first.conditions)
    ∙ branches_go last_one.ty (map (λ c. c.body) (map (choice_with type_of) first.trees)) (type_of last_one.there.tree) first.go last_one.there.goes))))))))
