-- Accepted names and calls have trees whose types go as the ones that were found.
use Rattle.std.proofs.Common.{◌≡◌, ◌∙◌, ℕ, zero, suc, ◌+◌, ◌-◌, ◌<◌, ◌≤◌, ◌⊎◌, inl, inr, get_or, cond, Bool, true, false, List, [], ◌∷◌, ◌++◌, map, length, refl, ap, sym, subst, true≢false, arith}
use Rattle.std.specs.Prelude.{Option, Some, None, option_and_then, if◌then◌else◌, nat_lt, nat_le, ◌^◌, not, ◌==◌, slice_get, Contains, IsSomeAnd, Ok}
use Rattle.std.specs.List.{prefix_len, AllByRecursion}
use Rattle.std.specs.Map as entries
use Rattle.std.proofs.lemmas.Bool.{lt-ltb, ltb-true, le-ltb, eqb-true}
use Rattle.std.proofs.lemmas.List.{append_assoc, append-nil, length-map}
use Rattle.std.proofs.lemmas.Option.{same_Some, none-some, slice_get_within, slice_get_cases}
use Rattle.og_types.specs.declared.ty.Ty.{Ty}
use Rattle.og_types.specs.declared.ty.Ty.TheVariants as ty
use Rattle.og_types.specs.Ty.{fits, bounds_fit}
use Rattle.og_types.proofs.FitsLaws.{fits_itself}
use Rattle.og_expr.specs.declared.node.NodeOf.TheVariants as nodes
use Rattle.og_expr.specs.declared.node.Term.{Term}
use Rattle.og_expr.specs.Terms.{term_of}
use Rattle.og_expr.specs.Types.{goes_as, type_of}
use Rattle.og_expr.specs.Variables.{numbers_of, variables_of, all_variables}
use Rattle.og_expr.specs.Variables as exprs
use Rattle.og_expr.specs.Replaced.{replaced, tree_at, takes}
use Rattle.og_expr.proofs.Listed.{types_listed}
use Rattle.og_expr.proofs.Occurrences.{all_is}
use Rattle.og_game.specs.Scopes.{whence}
use Rattle.og_game.specs.declared.scope.Variable.{Variable}
use Rattle.og_syntax.specs.declared.expressions.ExprTree.{ExprTree}
use Rattle.og_syntax.specs.declared.expressions.ExprTree.TheOpen as forms
use Rattle.og_names.specs.Names.{lookup, place, same_name, has_name}
use Rattle.og_typing.specs.declared.fault.WireFault.TheVariants.{BackwardInForward, FeedbackTooEarly, TooBig, WrongCount}
use Rattle.og_typing.specs.declared.kind.Kind.{Kind}
use Rattle.og_typing.specs.declared.meaning.Function.{Function}
use Rattle.og_typing.specs.declared.meaning.Given.{Given}
use Rattle.og_typing.specs.declared.meaning.Given.TheVariants as givens
use Rattle.og_typing.specs.declared.meaning.Meaning.{Meaning}
use Rattle.og_typing.specs.declared.meaning.Meaning.TheVariants as meanings
use Rattle.og_typing.specs.Checked.{◌>>=◌, ◌>>◌, rule}
use Rattle.og_typing.specs.Types.{Table}
use Rattle.og_typing.specs.Scopes.{Names, named_as, name_walk, function_named, call_depth}
use Rattle.og_typing.specs.Expressions.{part_of, expr_walk, expr_rule, kind, goes_to, each_fitting}
use Rattle.og_typing.proofs.Steps.{bind_ok, rule_holds}
use Rattle.og_inlining.specs.Steps.{provided}
use Rattle.og_inlining.specs.Seen.{Seen}
use Rattle.og_inlining.specs.Trees.{built, variable_tree, case_tree, leaf_tree, occurs, argument, arguments, stands_for, placed, body_with, tree_in, tree_rule, tree_goes, named_tree, call_tree}
use Rattle.og_inlining.specs.Sound.{seen_with, IsBody, Fits}
use Rattle.og_inlining.proofs.Accepted.{Holds, holds_bind, holds_kind, one_answer, weaker, typed_goes, fitting_tree, built_some, built_goes, then_goes}
use Rattle.og_inlining.proofs.Parts.{Sound, goes_fits}
use Rattle.og_inlining.proofs.Occurring.{number_there}
use Rattle.og_inlining.proofs.Standing.{takes_all}

-- ---- places of names

-- how many names come before the name
abbrev pub before : {A : Type 0} → List ℕ → Table A → ℕ
before name table = prefix_len (λ key. not (same_name name key)) (entries.keys_of table)

pub key_count : {A : Type 0} (table : Table A) → length (entries.keys_of table) ≡ length table
key_count [] = refl
key_count (e ∷ es) = ap suc (key_count es)

module _ {A : Type 0} (name : List ℕ) where
  shorter : (e : List ℕ × A) (es : Table A) (v : A) (b : Bool) → cond b (Some e.1) (lookup name es) ≡ Some v
      → (lookup name es ≡ Some v → before name es < length (entries.keys_of es))
      → cond (not b) (1 + before name es) 0 < 1 + length (entries.keys_of es)
  shorter e es v true h further = omega arith
  shorter e es v false h further = omega (arith, further h)

  pub before_all : (table : Table A) (v : A) → lookup name table ≡ Some v → before name table < length (entries.keys_of table)
  before_all [] v is = absurd (none-some v is)
  before_all (e ∷ es) v is = omega (arith, shorter e es v (same_name name e.0) is (before_all es v))

  longer : (e : List ℕ × A) (es : Table A) (b : Bool) → cond b (Some e.1) (lookup name es) ≡ None
      → (lookup name es ≡ None → length (entries.keys_of es) ≤ before name es)
      → 1 + length (entries.keys_of es) ≤ cond (not b) (1 + before name es) 0
  longer e es true h further = absurd (none-some e.1 (sym h))
  longer e es false h further = omega (arith, further h)

  before_none : (table : Table A) → lookup name table ≡ None → length (entries.keys_of table) ≤ before name table
  before_none [] is = omega arith
  before_none (e ∷ es) is = omega (arith, longer e es (same_name name e.0) is (before_none es))

pub placed_at : {A : Type 0} (name : List ℕ) (table : Table A) (v : A) → lookup name table ≡ Some v
    → place name table ≡ Some (before name table)
placed_at name table v is =
    ap (λ b. cond b (Some (before name table)) None)
    (lt-ltb (before name table) (length (entries.keys_of table)) (before_all name table v is))

pub placed_nowhere : {A : Type 0} (name : List ℕ) (table : Table A) → lookup name table ≡ None → place name table ≡ None
placed_nowhere name table is =
    ap (λ b. cond b (Some (before name table)) None)
    (le-ltb (before name table) (length (entries.keys_of table)) (before_none name table is))

-- ---- names

variable_goes : (name : List ℕ) (variables : Table Variable) (v : Variable) (tree : Option Term) (m : Option Meaning)
    → lookup name variables ≡ Some v → bounds_fit v.ty ≡ true → nat_lt (length variables) (2 ^ 32) ≡ true
    → tree_goes v.ty (leaf_tree (place name variables) (lookup name variables) tree m) ≡ true
variable_goes name variables v tree m is bounds few =
    let number = before name variables in
    let below = before_all name variables v is in
    let small = ltb-true (length variables) (2 ^ 32) few in
    ap (λ o. tree_goes v.ty (leaf_tree o (lookup name variables) tree m)) (placed_at name variables v is)
    ∙ ap (λ o. tree_goes v.ty (variable_tree number o)) is
    ∙ ap (λ b. tree_goes v.ty (if b then built (nodes.Var number v.ty) else None))
    (lt-ltb number (2 ^ 32) (omega (arith, below, small, key_count variables)))
    ∙ built_goes v.ty (nodes.Var number v.ty) (typed_goes (bounds_fit v.ty) v.ty bounds)

given_goes : (t : Ty) (v : Option Variable) (tree : Option Term) (m : Option Meaning) → tree_goes t tree ≡ true
    → tree_goes t (leaf_tree None v tree m) ≡ true
given_goes t v None m goes = absurd (true≢false (sym goes))
given_goes t v (Some e) m goes = goes

named_goes : (names : Names) (given bodies : Table Term) → Fits names given bodies → (at : ℕ) (name : List ℕ) (t : Ty)
    → (v : Option Variable) → lookup name names.variables ≡ v
    → (g : Option Given) → lookup name names.given ≡ g
    → (m : Option Meaning) → lookup name names.declared ≡ m
    → named_as at names.stand v g m ≡ Ok t
    → tree_goes t (leaf_tree (place name names.variables) (lookup name names.variables) (lookup name given) (lookup name names.declared)) ≡ true
named_goes names given bodies fit at name t (Some v) is g p m q found =
    let held = bind_ok (rule (whence names.stand v.origin) (FeedbackTooEarly at)) (λ _. Ok v.ty) t found in
    subst (λ u. tree_goes u (leaf_tree (place name names.variables) (lookup name names.variables) (lookup name given) (lookup name names.declared)) ≡ true)
    (one_answer (Ok v.ty) v.ty t refl held.2)
    (variable_goes name names.variables v (lookup name given) (lookup name names.declared) is (fit.variables name v is) fit.few)
named_goes names given bodies fit at name t None is (Some givens.Agent) p m q found = cc
named_goes names given bodies fit at name t None is (Some (givens.Value u)) p m q found =
    ap (λ o. tree_goes t (leaf_tree o (lookup name names.variables) (lookup name given) (lookup name names.declared))) (placed_nowhere name names.variables is)
    ∙ given_goes t (lookup name names.variables) (lookup name given) (lookup name names.declared)
    (subst (λ w. tree_goes w (lookup name given) ≡ true) (one_answer (Ok u) u t refl found) (fit.values name u p))
named_goes names given bodies fit at name t None is None p (Some (meanings.Case family cases index)) q found =
    ap (λ o. tree_goes t (leaf_tree o (lookup name names.variables) (lookup name given) (lookup name names.declared))) (placed_nowhere name names.variables is)
    ∙ ap (λ o. tree_goes t (leaf_tree None (lookup name names.variables) o (lookup name names.declared))) (fit.others name p)
    ∙ ap (λ o. tree_goes t (case_tree o)) q
    ∙ subst (λ w. tree_goes w (built (nodes.Case family cases index)) ≡ true) (one_answer (Ok (ty.Enum family cases)) (ty.Enum family cases) t refl found)
    (built_goes (ty.Enum family cases) (nodes.Case family cases index)
    (typed_goes (nat_lt index cases) (ty.Enum family cases) (fit.cases name family cases index q)))
named_goes names given bodies fit at name t None is None p (Some (meanings.Type u)) q found = cc
named_goes names given bodies fit at name t None is None p (Some (meanings.Function f)) q found = cc
named_goes names given bodies fit at name t None is None p (Some (meanings.Game number)) q found = cc
named_goes names given bodies fit at name t None is None p None q found = cc

pub name_holds : (names : Names) (given bodies : Table Term) → Fits names given bodies → (depth at : ℕ) (name : List ℕ)
    → Holds (expr_rule (forms.Name at name) names depth) (tree_rule (forms.Name at name) (seen_with names given bodies))
unfolding expr_rule tree_rule named_tree
name_holds names given bodies fit depth at name =
    holds_bind (name_walk at name names) (λ t. Ok (kind t depth)) _ (λ t is.
    let held = bind_ok (rule (not (has_name name names.hidden)) (BackwardInForward at))
    (λ _. named_as at names.stand (lookup name names.variables) (lookup name names.given) (lookup name names.declared)) t is in
    holds_kind t depth _
    (named_goes names given bodies fit at name t (lookup name names.variables) refl (lookup name names.given) refl
    (lookup name names.declared) refl held.2))

-- ---- calls

-- The trees from the place on go as the types there, where they are used.
abbrev Goes : (ℕ → Bool) → List Ty → ℕ → List Term → Type 0
Goes used types i [] = Unit {0}
Goes used types i (u ∷ us) =
    ((t : Ty) → used i ≡ true → slice_get types i ≡ Some t → goes_as t (type_of u) ≡ true) × Goes used types (i + 1) us

record ArgsFit (seen : Seen) (used : ℕ → Bool) (types : List Ty) (i : ℕ) (args : List ExprTree) : Type 0 where
  trees : List Term
  are : (found : List Term) → arguments seen used i found (map tree_in args) ≡ Some (found ++ trees)
  go : Goes used types i trees
  count : length trees ≡ length args

goes_there : (at deep : ℕ) (found : Kind) (d : ℕ) (o : Option Ty) (t : Ty) → o ≡ Some t → goes_to at o deep found ≡ Ok d
    → fits found.ty t ≡ true
goes_there at deep found d None t some is = absurd (none-some t some)
goes_there at deep found d (Some u) t some is =
    subst (λ w. fits found.ty w ≡ true) (same_Some u t some) (goes_fits at u deep found d is)

abbrev OneFits : Seen → Bool → Option Ty → ExprTree → Type 0
OneFits seen used wanted e =
    (u : Term) × (argument seen used (tree_in e) ≡ Some u) × ((t : Ty) → used ≡ true → wanted ≡ Some t → goes_as t (type_of u) ≡ true)

one_fits : (names : Names) (seen : Seen) (depth deep d : ℕ) (found : Kind) (used : Bool) (wanted : Option Ty) (e : ExprTree)
    → Sound names seen e → expr_walk e names depth ≡ Ok found → goes_to (part_of e).at wanted deep found ≡ Ok d
    → OneFits seen used wanted e
one_fits names seen depth deep d found true wanted e sound walked goes =
    let there = fitting_tree found.ty (tree_in e seen) (sound depth found walked) in
    (there.tree, there.is, λ t _ some. weaker found.ty t (type_of there.tree) there.goes (goes_there (part_of e).at deep found d wanted t some goes))
one_fits names seen depth deep d found false wanted e sound walked goes =
    (term_of (nodes.Flag false), built_some ty.Bool (nodes.Flag false) (fits_itself ty.Bool), λ t no some. absurd (true≢false (sym no)))

args_fit : (names : Names) (seen : Seen) (used : ℕ → Bool) (depth : ℕ) (types : List Ty) (i deep d : ℕ) (args : List ExprTree)
    → AllByRecursion (Sound names seen) args → each_fitting names depth types i deep (map part_of args) ≡ Ok d
    → ArgsFit seen used types i args
args_fit names seen used depth types i deep d [] sound is =
    record { trees = []; are = λ found. ap Some (sym (append-nil found)); go = tt; count = refl }
args_fit names seen used depth types i deep d (e ∷ args) sound is =
    let walked = bind_ok (expr_walk e names depth)
    (λ found. goes_to (part_of e).at (slice_get types i) deep found >>= (λ deeper. each_fitting names depth types (i + 1) deeper (map part_of args))) d is in
    let goes = bind_ok (goes_to (part_of e).at (slice_get types i) deep walked.0)
    (λ deeper. each_fitting names depth types (i + 1) deeper (map part_of args)) d walked.2 in
    let first = one_fits names seen depth deep goes.0 walked.0 (used i) (slice_get types i) e sound.0 walked.1 goes.1 in
    let rest = args_fit names seen used depth types (i + 1) goes.0 d args sound.1 goes.2 in
    record {
      trees = first.0 ∷ rest.trees;
      are = λ found.
          ap (option_and_then (λ tree. arguments seen used (i + 1) (found ++ tree ∷ []) (map tree_in args))) first.1
          ∙ rest.are (found ++ first.0 ∷ [])
          ∙ ap Some (append_assoc found (first.0 ∷ []) rest.trees);
      go = (first.2, rest.go);
      count = ap suc rest.count;
    }

first_place : (n i : ℕ) → n ≡ i + 0 → n ≡ i
first_place n i same = omega (arith, same)

goes_at : (used : ℕ → Bool) (types : List Ty) (i : ℕ) (trees : List Term) → Goes used types i trees
    → (j : ℕ) (u : Term) → slice_get trees j ≡ Some u → (n : ℕ) → n ≡ i + j → (t : Ty) → used n ≡ true → slice_get types n ≡ Some t
    → goes_as t (type_of u) ≡ true
goes_at used types i [] go j u there n same t is some = absurd (none-some u there)
goes_at used types i (tree ∷ trees) go zero u there n same t is some =
    let here = subst (λ k. (used k ≡ true) × (slice_get types k ≡ Some t)) (first_place n i same) (is, some) in
    subst (λ e. goes_as t (type_of e) ≡ true) (same_Some tree u there) (go.0 t here.0 here.1)
goes_at used types i (tree ∷ trees) go (suc j) u there n same t is some =
    goes_at used types (i + 1) trees go.1 j u there n (omega (arith, same)) t is some

-- Each parameter of a body that uses it has a tree that goes in its place.
trees_stand : (f : Function) (body : Term) → IsBody f body → (trees : List Term) → length trees ≡ length f.params
    → Goes (occurs (numbers_of body)) f.params 0 trees → all_variables (stands_for trees) body ≡ true
trees_stand f body is trees count go =
    (all_is (stands_for trees) body).1 (λ v there. by v there (slice_get_cases trees v.0).1)
  where
    by : (v : exprs.Variable) → Contains (variables_of body) v
        → ((u : Term) × (v.0 < length trees) × (slice_get trees v.0 ≡ Some u) × (get_or trees v.0 u ≡ u))
        ⊎ ((length trees ≤ v.0) × (slice_get trees v.0 ≡ None))
        → tree_goes v.1 (slice_get trees v.0) ≡ true
    by v there (inr past) =
        absurd (omega (arith, past.0, count, slice_get_within f.params v.0 v.1 (is.params v there)))
    by v there (inl found) =
        ap (tree_goes v.1) found.2
        ∙ goes_at (occurs (numbers_of body)) f.params 0 trees go v.0 found.0 found.2 v.0 (omega arith) v.1
        (number_there (variables_of body) v there) (is.params v there)

body_goes : (f : Function) (body : Term) → IsBody f body → (trees : List Term) → length trees ≡ length f.params
    → Goes (occurs (numbers_of body)) f.params 0 trees → tree_goes f.answer (placed body trees) ≡ true
body_goes f body is trees count go =
    let stand = trees_stand f body is trees count go in
    then_goes f.answer (provided (all_variables (stands_for trees) body)) (λ _. Some (replaced (tree_at trees) body)) tt
    (ap provided stand) (by (type_of body) refl (takes_all trees body stand))
  where
    by : (o : Option Ty) → type_of body ≡ o → all_variables (takes trees) body ≡ true → goes_as f.answer (type_of (replaced (tree_at trees) body)) ≡ true
    by None at taken = absurd (true≢false (sym (sym (ap (goes_as f.answer) at) ∙ is.answer)))
    by (Some t) at taken =
        weaker t f.answer (type_of (replaced (tree_at trees) body)) (types_listed trees body t taken at)
        (sym (ap (goes_as f.answer) at) ∙ is.answer)

full_count : (at depth : ℕ) (f : Function) (count below : ℕ) → call_depth at depth f count ≡ Ok below → count ≡ length f.params
full_count at depth f count below is =
    let deep = bind_ok (rule (nat_le (depth + f.height) 49) (TooBig at))
    (λ _. rule (count == length f.params) (WrongCount at) >> Ok (depth + f.height - 1)) below is in
    let full = bind_ok (rule (count == length f.params) (WrongCount at)) (λ _. Ok (depth + f.height - 1)) below deep.2 in
    eqb-true count (length f.params) (rule_holds (count == length f.params) (WrongCount at) full.0 full.1)

function_there : (at : ℕ) (m : Option Meaning) (f : Function) → function_named at m ≡ Ok f → m ≡ Some (meanings.Function f)
function_there at (Some (meanings.Function g)) f is = cc
function_there at (Some (meanings.Type t)) f is = cc
function_there at (Some (meanings.Case family cases index)) f is = cc
function_there at (Some (meanings.Game number)) f is = cc
function_there at None f is = cc

some_and : {A : Type 0} (o : Option A) (P : A → Type 0) → IsSomeAnd o P → (a : A) × (o ≡ Some a) × P a
some_and None P h = absurd h
some_and (Some a) P h = (a, refl, h)

pub call_holds : (names : Names) (given bodies : Table Term) → Fits names given bodies → (depth at : ℕ) (name : List ℕ) (args : List ExprTree)
    → AllByRecursion (Sound names (seen_with names given bodies)) args
    → Holds (expr_rule (forms.Call at name (map part_of args)) names depth)
    (tree_rule (forms.Call at name (map tree_in args)) (seen_with names given bodies))
unfolding expr_rule tree_rule call_tree
call_holds names given bodies fit depth at name args sound =
    holds_bind (function_named at (lookup name names.declared)) _ _ (λ f is.
    holds_bind (call_depth at depth f (length (map part_of args))) _ _ (λ below deepens.
    holds_bind (each_fitting names below f.params 0 below (map part_of args)) (λ deep. Ok (kind f.answer deep)) _ (λ deep fitted.
    let body = some_and (lookup name bodies) (IsBody f) (fit.functions name f (function_there at (lookup name names.declared) f is)) in
    let seen = seen_with names given bodies in
    let trees = args_fit names seen (occurs (numbers_of body.0)) below f.params 0 below deep args sound fitted in
    let count = trees.count ∙ sym (length-map args part_of) ∙ full_count at depth f (length (map part_of args)) below deepens in
    holds_kind f.answer deep _
    (ap (λ o. tree_goes f.answer (body_with seen (map tree_in args) o)) body.1
    ∙ then_goes f.answer (arguments seen (occurs (numbers_of body.0)) 0 [] (map tree_in args)) (placed body.0) trees.trees (trees.are [])
    (body_goes f body.0 body.2 trees.trees count trees.go)))))
