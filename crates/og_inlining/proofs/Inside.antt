-- The variables of a tree are those of the expression that it stands for.
use Rattle.std.proofs.Common.{◌≡◌, ◌∙◌, ℕ, zero, suc, ◌+◌, Bool, true, false, List, [], ◌∷◌, ◌++◌, map, refl, ap, sym, subst, true≢false}
use Rattle.std.specs.Prelude.{Option, Some, None, is_some, option_and_then, if◌then◌else◌, nat_lt, ◌^◌, slice_get, flat_map, unwrap_or}
use Rattle.std.specs.List.{list_all, AllByRecursion}
use Rattle.std.proofs.lemmas.Bool.{and_parts, and_from}
use Rattle.std.proofs.lemmas.List.Folds.{list_all-append}
use Rattle.std.proofs.lemmas.Option.{same_Some, none-some}
use Rattle.og_types.specs.declared.ty.Ty.{Ty}
use Rattle.og_expr.specs.declared.node.NodeOf.{NodeOf}
use Rattle.og_expr.specs.declared.node.NodeOf.TheVariants as nodes
use Rattle.og_expr.specs.declared.node.Addend.{Addend}
use Rattle.og_expr.specs.declared.node.Addend.TheVariants as addends
use Rattle.og_expr.specs.declared.node.Factor.{Factor}
use Rattle.og_expr.specs.declared.node.Factor.TheVariants as factors
use Rattle.og_expr.specs.declared.node.Choice.{Choice}
use Rattle.og_expr.specs.declared.node.Key.{Key}
use Rattle.og_expr.specs.declared.node.Term.{Term}
use Rattle.og_expr.specs.Terms.{term_of}
use Rattle.og_expr.specs.Types.{type_of}
use Rattle.og_expr.specs.Levels.{addend_with, factor_with, choice_with, key_with, node_with, fold_of_node}
use Rattle.og_expr.specs.Parts.{all_together, addend_part, factor_part, choice_parts, together}
use Rattle.og_expr.specs.Variables.{numbers_of, variables_of, at_variables, and_also, all_variables}
use Rattle.og_expr.specs.Replaced.{replaced, tree_at}
use Rattle.og_expr.proofs.Occurrences.{all_listed, variables_replaced}
use Rattle.og_game.specs.declared.scope.Variable.{Variable}
use Rattle.og_syntax.specs.declared.expressions.ExprTree.{ExprTree}
use Rattle.og_syntax.specs.declared.expressions.ExprTree.TheOpen.{ExprTree-F}
use Rattle.og_syntax.specs.declared.expressions.ExprTree.TheOpen as forms
use Rattle.og_syntax.specs.declared.expressions.ExprTree.TheViews.{roll-ExprTree, out-roll-ExprTree}
use Rattle.og_syntax.specs.declared.expressions.SumPart.{SumPart}
use Rattle.og_syntax.specs.declared.expressions.SumPart.TheVariants as sums
use Rattle.og_syntax.specs.declared.expressions.ProductPart.{ProductPart}
use Rattle.og_syntax.specs.declared.expressions.ProductPart.TheVariants as products
use Rattle.og_syntax.specs.declared.expressions.IfArm.{IfArm}
use Rattle.og_syntax.specs.declared.expressions.ResultTree.{ResultTree}
use Rattle.og_syntax.specs.declared.expressions.TableRow.{TableRow}
use Rattle.og_names.specs.Names.{lookup, place}
use Rattle.og_typing.specs.declared.meaning.Meaning.{Meaning}
use Rattle.og_typing.specs.declared.meaning.Meaning.TheVariants as meanings
use Rattle.og_typing.specs.Types.{type_walk}
use Rattle.og_typing.specs.Levels as texts
use Rattle.og_typing.specs.Levels.{form_with, sum_with, product_with, arm_with, row_with, fold_of_form}
use Rattle.og_inlining.specs.Seen.{Seen}
use Rattle.og_inlining.specs.Steps.{each_of, given_by, provided}
use Rattle.og_inlining.specs.Trees.{built, case_tree, leaf_tree, named_tree, occurs, argument, arguments, tree_goes, stands_for, placed, body_with, call_tree, part_tree, addend_tree, factor_tree, arm_tree, test_of, fields, key_tree, types_of, order_of, row_there, rows_tree, tree_rule, tree_in}
use Rattle.og_inlining.proofs.Induction.{OfSum, OfProduct, OfArm, OfKey, OfRow, PartsOf, expr_induction}

-- ---- what is there

some_bind : {A B : Type 0} (f : A → Option B) (o : Option A) (b : B) → option_and_then f o ≡ Some b
    → (a : A) × (o ≡ Some a) × (f a ≡ Some b)
some_bind f None b is = absurd (none-some b is)
some_bind f (Some a) b is = (a, refl, is)

built_is : (n : NodeOf Term) (e : Term) → built n ≡ Some e → e ≡ term_of n
unfolding built
built_is n e is = by (is_some (type_of (term_of n))) is
  where
    by : (b : Bool) → (if b then Some (term_of n) else None) ≡ Some e → e ≡ term_of n
    by true h = sym (same_Some (term_of n) e h)
    by false h = absurd (none-some e h)

provided_holds : (b : Bool) (u : Unit {0}) → provided b ≡ Some u → b ≡ true
provided_holds true u is = refl
provided_holds false u is = absurd (none-some u is)

-- ---- lists

all_into : {A : Type 0} (P Q : A → Type 0) (as' : List A) → ((a : A) → P a → Q a) → AllByRecursion P as' → AllByRecursion Q as'
all_into P Q [] into all = tt
all_into P Q (a ∷ as') into all = (into a all.0, all_into P Q as' into all.1)

all_mapped : {A B : Type 0} (P : B → Type 0) (f : A → B) (as' : List A) → AllByRecursion (λ a. P (f a)) as'
    → AllByRecursion P (map f as')
all_mapped P f [] all = tt
all_mapped P f (a ∷ as') all = (all.0, all_mapped P f as' all.1)

-- what each item gives passes
abbrev Passes : {X Y : Type 0} → (X → Option Y) → (Y → Bool) → X → Type 0
Passes {X} {Y} item test x = (y : Y) → item x ≡ Some y → test y ≡ true

each_passes : {X Y : Type 0} (item : X → Option Y) (test : Y → Bool) (xs : List X) → AllByRecursion (Passes item test) xs
    → (found all : List Y) → each_of item found xs ≡ Some all → list_all test found ≡ true → list_all test all ≡ true
each_passes item test [] pass found all is before = subst (λ ys. list_all test ys ≡ true) (same_Some found all is) before
each_passes item test (x ∷ xs) pass found all is before =
    let step = some_bind (λ y. each_of item (found ++ y ∷ []) xs) (item x) all is in
    each_passes item test xs pass.1 (found ++ step.0 ∷ []) all step.2
    (list_all-append test found (step.0 ∷ [])
    ∙ and_from (list_all test found) (list_all test (step.0 ∷ [])) before (and_from (test step.0) true (pass.0 step.0 step.1) refl))

together_is : {A B : Type 0} (g : B → Bool) (f : A → B) (as' : List A)
    → all_together true and_also g (map f as') ≡ list_all (λ a. g (f a)) as'
together_is g f [] = refl
together_is g f (a ∷ as') = ap (λ b. and_also (g (f a)) b) (together_is g f as')

all_got : {A : Type 0} (test : A → Bool) (as' : List A) (k : ℕ) (a : A) → list_all test as' ≡ true → slice_get as' k ≡ Some a
    → test a ≡ true
all_got test [] k a all is = absurd (none-some a is)
all_got test (b ∷ as') zero a all is =
    ap test (sym (same_Some b a is)) ∙ (and_parts (test b) (list_all test as') all).0
all_got test (b ∷ as') (suc k) a all is = all_got test as' k a (and_parts (test b) (list_all test as') all).1 is

all_follow : {A : Type 0} (p q : A → Bool) (as' : List A) → ((a : A) → p a ≡ true → q a ≡ true) → list_all p as' ≡ true
    → list_all q as' ≡ true
all_follow p q [] follows all = refl
all_follow p q (a ∷ as') follows all =
    let both = and_parts (p a) (list_all p as') all in
    and_from (q a) (list_all q as') (follows a both.0) (all_follow p q as' follows both.1)

flat_passes : {A B : Type 0} (p : B → Bool) (f : A → List B) (as' : List A) → list_all (λ a. list_all p (f a)) as' ≡ true
    → list_all p (flat_map f as') ≡ true
flat_passes p f [] all = refl
flat_passes p f (a ∷ as') all =
    let both = and_parts (list_all p (f a)) (list_all (λ a. list_all p (f a)) as') all in
    list_all-append p (f a) (flat_map f as')
    ∙ and_from (list_all p (f a)) (list_all p (flat_map f as')) both.0 (flat_passes p f as' both.1)

module _ (test : ℕ → Ty → Bool) where
  abbrev pass : Term → Bool
  pass = all_variables test

  -- a form over trees that pass
  node_passes : (n : NodeOf Term) (e : Term) → built n ≡ Some e
      → at_variables test (together true and_also) (node_with pass n) ≡ true → pass e ≡ true
  node_passes n e is parts =
      ap pass (built_is n e is) ∙ fold_of_node (at_variables test (together true and_also)) n ∙ parts

  -- ---- trees for the variables

  stand_passes : (trees : List Term) (number : ℕ) (t : Ty) → list_all pass trees ≡ true → stands_for trees number t ≡ true
      → list_all (λ v. test v.0 v.1) (variables_of (tree_at trees number t)) ≡ true
  stand_passes trees number t all stands = by (slice_get trees number) refl stands
    where
      by : (o : Option Term) → slice_get trees number ≡ o → tree_goes t o ≡ true
          → list_all (λ v. test v.0 v.1) (variables_of (tree_at trees number t)) ≡ true
      by None at h = absurd (true≢false (sym h))
      by (Some u) at h =
          ap (λ o. list_all (λ v. test v.0 v.1) (variables_of (unwrap_or o (term_of (nodes.Var number t))))) at
          ∙ all_listed test u ∙ all_got pass trees number u all at

  replaced_passes : (body : Term) (trees : List Term) (e : Term) → list_all pass trees ≡ true → placed body trees ≡ Some e
      → pass e ≡ true
  replaced_passes body trees e all is =
      let step = some_bind (λ _. Some (replaced (tree_at trees) body)) (provided (all_variables (stands_for trees) body)) e is in
      let stands = provided_holds (all_variables (stands_for trees) body) step.0 step.1 in
      ap pass (sym (same_Some (replaced (tree_at trees) body) e step.2))
      ∙ sym (all_listed test (replaced (tree_at trees) body))
      ∙ ap (list_all (λ v. test v.0 v.1)) (variables_replaced (tree_at trees) body)
      ∙ flat_passes (λ v. test v.0 v.1) (λ v. variables_of (tree_at trees v.0 v.1)) (variables_of body)
      (all_follow (λ v. stands_for trees v.0 v.1) (λ v. list_all (λ w. test w.0 w.1) (variables_of (tree_at trees v.0 v.1)))
      (variables_of body) (λ v h. stand_passes trees v.0 v.1 all h) (all_listed (stands_for trees) body ∙ stands))

  module _ (seen : Seen)
      (variables : (name : List ℕ) (k : ℕ) (v : Variable) → place name seen.variables ≡ Some k → lookup name seen.variables ≡ Some v
      → test k v.ty ≡ true)
      (given : (name : List ℕ) (e : Term) → lookup name seen.given ≡ Some e → pass e ≡ true) where
    abbrev Inside : ExprTree → Type 0
    Inside e = (tree : Term) → tree_in e seen ≡ Some tree → pass tree ≡ true

    part_passes : (part : ExprTree) → Inside part → Passes (part_tree seen) pass (tree_in part)
    part_passes part inside tree is = inside tree is

    parts_pass : (parts : List ExprTree) → AllByRecursion Inside parts → (es : List Term)
        → each_of (part_tree seen) [] (map tree_in parts) ≡ Some es → all_together true and_also (λ b. b) (map pass es) ≡ true
    parts_pass parts all es is =
        together_is (λ b. b) pass es
        ∙ each_passes (part_tree seen) pass (map tree_in parts)
        (all_mapped (Passes (part_tree seen) pass) tree_in parts all) [] es is refl

    sum_passes : (part : SumPart ExprTree) → OfSum Inside part
        → Passes (addend_tree seen) (λ a. addend_part (addend_with pass a)) (sum_with tree_in part)
    sum_passes (sums.Plus e) inside y is =
        let step = some_bind (λ e. Some (addends.Plus e)) (tree_in e seen) y is in
        ap (λ a. addend_part (addend_with pass a)) (sym (same_Some (addends.Plus step.0) y step.2)) ∙ inside step.0 step.1
    sum_passes (sums.Minus e) inside y is =
        let step = some_bind (λ e. Some (addends.Minus e)) (tree_in e seen) y is in
        ap (λ a. addend_part (addend_with pass a)) (sym (same_Some (addends.Minus step.0) y step.2)) ∙ inside step.0 step.1

    sums_pass : (rest : List (SumPart ExprTree)) → AllByRecursion (OfSum Inside) rest → (more : List (Addend Term))
        → each_of (addend_tree seen) [] (map (sum_with tree_in) rest) ≡ Some more
        → all_together true and_also addend_part (map (addend_with pass) more) ≡ true
    sums_pass rest all more is =
        together_is addend_part (addend_with pass) more
        ∙ each_passes (addend_tree seen) (λ a. addend_part (addend_with pass a)) (map (sum_with tree_in) rest)
        (all_mapped (Passes (addend_tree seen) (λ a. addend_part (addend_with pass a))) (sum_with tree_in) rest
        (all_into (OfSum Inside) (λ part. Passes (addend_tree seen) (λ a. addend_part (addend_with pass a)) (sum_with tree_in part)) rest sum_passes all))
        [] more is refl

    product_passes : (part : ProductPart ExprTree) → OfProduct Inside part
        → Passes (factor_tree seen) (λ a. factor_part true (factor_with pass a)) (product_with tree_in part)
    product_passes (products.Times e) inside y is =
        let step = some_bind (λ e. Some (factors.Times e)) (tree_in e seen) y is in
        ap (λ a. factor_part true (factor_with pass a)) (sym (same_Some (factors.Times step.0) y step.2)) ∙ inside step.0 step.1
    product_passes (products.Over n) inside y is =
        ap (λ a. factor_part true (factor_with pass a)) (sym (same_Some (factors.Over n) y is))

    products_pass : (rest : List (ProductPart ExprTree)) → AllByRecursion (OfProduct Inside) rest → (more : List (Factor Term))
        → each_of (factor_tree seen) [] (map (product_with tree_in) rest) ≡ Some more
        → all_together true and_also (factor_part true) (map (factor_with pass) more) ≡ true
    products_pass rest all more is =
        together_is (factor_part true) (factor_with pass) more
        ∙ each_passes (factor_tree seen) (λ a. factor_part true (factor_with pass a)) (map (product_with tree_in) rest)
        (all_mapped (Passes (factor_tree seen) (λ a. factor_part true (factor_with pass a))) (product_with tree_in) rest
        (all_into (OfProduct Inside) (λ part. Passes (factor_tree seen) (λ a. factor_part true (factor_with pass a)) (product_with tree_in part)) rest product_passes all))
        [] more is refl

    arm_passes : (arm : IfArm ExprTree) → OfArm Inside arm
        → Passes (arm_tree seen) (λ c. choice_parts and_also (choice_with pass c)) (arm_with tree_in arm)
    arm_passes arm inside y is =
        let first = some_bind (λ c. option_and_then (λ e. Some (record { cond = c; body = e })) (tree_in arm.body seen)) (tree_in arm.cond seen) y is in
        let second = some_bind (λ e. Some (record { cond = first.0; body = e })) (tree_in arm.body seen) y first.2 in
        ap (λ c. choice_parts and_also (choice_with pass c)) (sym (same_Some (record { cond = first.0; body = second.0 }) y second.2))
        ∙ and_from (pass first.0) (pass second.0) (inside.0 first.0 first.1) (inside.1 second.0 second.1)

    arms_pass : (arms : List (IfArm ExprTree)) → AllByRecursion (OfArm Inside) arms → (choices : List (Choice Term))
        → each_of (arm_tree seen) [] (map (arm_with tree_in) arms) ≡ Some choices
        → all_together true and_also (choice_parts and_also) (map (choice_with pass) choices) ≡ true
    arms_pass arms all choices is =
        together_is (choice_parts and_also) (choice_with pass) choices
        ∙ each_passes (arm_tree seen) (λ c. choice_parts and_also (choice_with pass c)) (map (arm_with tree_in) arms)
        (all_mapped (Passes (arm_tree seen) (λ c. choice_parts and_also (choice_with pass c))) (arm_with tree_in) arms
        (all_into (OfArm Inside) (λ arm. Passes (arm_tree seen) (λ c. choice_parts and_also (choice_with pass c)) (arm_with tree_in arm)) arms arm_passes all))
        [] choices is refl

    key_passes : (key : ResultTree ExprTree) → OfKey Inside key → Passes (key_tree seen) (λ k. pass k.expr) (texts.key_with tree_in key)
    key_passes key inside y is =
        let first = some_bind (λ e. option_and_then (λ t. Some (record { expr = e; ty = t })) (given_by (type_walk key.ty seen.declared))) (tree_in key.expr seen) y is in
        let second = some_bind (λ t. Some (record { expr = first.0; ty = t })) (given_by (type_walk key.ty seen.declared)) y first.2 in
        ap (λ k. pass k.expr) (sym (same_Some (record { expr = first.0; ty = second.0 }) y second.2)) ∙ inside first.0 first.1

    keys_pass : (keys : List (ResultTree ExprTree)) → AllByRecursion (OfKey Inside) keys → (keyed : List (Key Term))
        → each_of (key_tree seen) [] (map (texts.key_with tree_in) keys) ≡ Some keyed
        → all_together true and_also (λ key. key.expr) (map (key_with pass) keyed) ≡ true
    keys_pass keys all keyed is =
        together_is (λ key. key.expr) (key_with pass) keyed
        ∙ each_passes (key_tree seen) (λ k. pass k.expr) (map (texts.key_with tree_in) keys)
        (all_mapped (Passes (key_tree seen) (λ k. pass k.expr)) (texts.key_with tree_in) keys
        (all_into (OfKey Inside) (λ key. Passes (key_tree seen) (λ k. pass k.expr) (texts.key_with tree_in key)) keys key_passes all))
        [] keyed is refl

    row_passes : (rows : List (TableRow ExprTree)) → AllByRecursion (OfRow Inside) rows → (at : ℕ)
        → Passes (row_there seen (map (row_with tree_in) rows)) pass at
    unfolding row_there
    row_passes [] all at y is = absurd (none-some y is)
    row_passes (row ∷ rows) all zero y is = all.0 y is
    row_passes (row ∷ rows) all (suc at) y is = row_passes rows all.1 at y is

    always : {A : Type 0} (P : A → Type 0) → ((a : A) → P a) → (as' : List A) → AllByRecursion P as'
    always P each [] = tt
    always P each (a ∷ as') = (each a, always P each as')

    rows_pass : (rows : List (TableRow ExprTree)) → AllByRecursion (OfRow Inside) rows → (order : List ℕ) (bodies : List Term)
        → each_of (row_there seen (map (row_with tree_in) rows)) [] order ≡ Some bodies
        → all_together true and_also (λ b. b) (map pass bodies) ≡ true
    rows_pass rows all order bodies is =
        together_is (λ b. b) pass bodies
        ∙ each_passes (row_there seen (map (row_with tree_in) rows)) pass order
        (always (Passes (row_there seen (map (row_with tree_in) rows)) pass) (row_passes rows all) order) [] bodies is refl

    args_pass : (used : ℕ → Bool) (i : ℕ) (args : List ExprTree) → AllByRecursion Inside args → (found trees : List Term)
        → arguments seen used i found (map tree_in args) ≡ Some trees → list_all pass found ≡ true → list_all pass trees ≡ true
    args_pass used i [] all found trees is before = subst (λ ys. list_all pass ys ≡ true) (same_Some found trees is) before
    args_pass used i (arg ∷ args) all found trees is before =
        let step = some_bind (λ tree. arguments seen used (i + 1) (found ++ tree ∷ []) (map tree_in args)) (argument seen (used i) (tree_in arg)) trees is in
        args_pass used (i + 1) args all.1 (found ++ step.0 ∷ []) trees step.2
        (list_all-append pass found (step.0 ∷ [])
        ∙ and_from (list_all pass found) (list_all pass (step.0 ∷ [])) before
        (and_from (pass step.0) true (arg_passes (used i) arg all.0 step.0 step.1) refl))
      where
        arg_passes : (b : Bool) (arg : ExprTree) → Inside arg → (e : Term) → argument seen b (tree_in arg) ≡ Some e → pass e ≡ true
        arg_passes true arg inside e is = inside e is
        arg_passes false arg inside e is = node_passes (nodes.Flag false) e is refl

    fields_pass : (path : List ℕ) (e tree : Term) → pass e ≡ true → fields e path ≡ Some tree → pass tree ≡ true
    fields_pass [] e tree all is = ap pass (sym (same_Some e tree is)) ∙ all
    fields_pass (k ∷ path) e tree all is =
        let step = some_bind (λ next. fields next path) (built (nodes.Field e k)) tree is in
        fields_pass path step.0 tree (node_passes (nodes.Field e k) step.0 step.1 all) step.2

    case_passes : (m : Option Meaning) (e : Term) → case_tree m ≡ Some e → pass e ≡ true
    case_passes (Some (meanings.Case family cases index)) e is = node_passes (nodes.Case family cases index) e is refl
    case_passes (Some (meanings.Type t)) e is = absurd (none-some e is)
    case_passes (Some (meanings.Function f)) e is = absurd (none-some e is)
    case_passes (Some (meanings.Game number)) e is = absurd (none-some e is)
    case_passes None e is = absurd (none-some e is)

    small_variable : (b : Bool) (number : ℕ) (t : Ty) (e : Term) → (if b then built (nodes.Var number t) else None) ≡ Some e
        → test number t ≡ true → pass e ≡ true
    small_variable true number t e is passes = node_passes (nodes.Var number t) e is passes
    small_variable false number t e is passes = absurd (none-some e is)

    leaf_passes : (name : List ℕ) (k : Option ℕ) → place name seen.variables ≡ k → (v : Option Variable)
        → lookup name seen.variables ≡ v → (g : Option Term) → lookup name seen.given ≡ g → (m : Option Meaning) (e : Term)
        → leaf_tree k v g m ≡ Some e → pass e ≡ true
    leaf_passes name (Some k) p None q g r m e is = absurd (none-some e is)
    leaf_passes name (Some k) p (Some v) q g r m e is =
        small_variable (nat_lt k (2 ^ 32)) k v.ty e is (variables name k v p q)
    leaf_passes name None p v q (Some tree) r m e is = ap pass (sym (same_Some tree e is)) ∙ given name tree r
    leaf_passes name None p v q None r m e is = case_passes m e is

    called_passes : (args : List ExprTree) → AllByRecursion Inside args → (body : Option Term) (e : Term)
        → body_with seen (map tree_in args) body ≡ Some e → pass e ≡ true
    called_passes args all None e is = absurd (none-some e is)
    called_passes args all (Some body) e is =
        let step = some_bind (placed body) (arguments seen (occurs (numbers_of body)) 0 [] (map tree_in args)) e is in
        replaced_passes body step.0 e (args_pass (occurs (numbers_of body)) 0 args all [] step.0 step.1 refl) step.2

    two_pass : (left right : ExprTree) → Inside left → Inside right → (n : Term → Term → NodeOf Term)
        → ((a b : Term) → at_variables test (together true and_also) (node_with pass (n a b)) ≡ and_also (pass a) (pass b))
        → (e : Term) → option_and_then (λ l. option_and_then (λ r. built (n l r)) (tree_in right seen)) (tree_in left seen) ≡ Some e
        → pass e ≡ true
    two_pass left right p q n parts e is =
        let first = some_bind (λ l. option_and_then (λ r. built (n l r)) (tree_in right seen)) (tree_in left seen) e is in
        let second = some_bind (λ r. built (n first.0 r)) (tree_in right seen) e first.2 in
        node_passes (n first.0 second.0) e second.2
        (parts first.0 second.0 ∙ and_from (pass first.0) (pass second.0) (p first.0 first.1) (q second.0 second.1))

    one_passes : (part : ExprTree) → Inside part → (n : Term → NodeOf Term)
        → ((a : Term) → at_variables test (together true and_also) (node_with pass (n a)) ≡ pass a)
        → (e : Term) → option_and_then (λ a. built (n a)) (tree_in part seen) ≡ Some e → pass e ≡ true
    one_passes part p n parts e is =
        let step = some_bind (λ a. built (n a)) (tree_in part seen) e is in
        node_passes (n step.0) e step.2 (parts step.0 ∙ p step.0 step.1)

    form_passes : (form : ExprTree-F ExprTree) → PartsOf Inside form → (e : Term)
        → tree_rule (form_with tree_in form) seen ≡ Some e → pass e ≡ true
    unfolding tree_rule named_tree call_tree rows_tree
    form_passes (forms.Number at n) all e is = node_passes (nodes.Literal n) e is refl
    form_passes (forms.Flag at flag) all e is = node_passes (nodes.Flag flag) e is refl
    form_passes (forms.Name at name) all e is =
        leaf_passes name (place name seen.variables) refl (lookup name seen.variables) refl (lookup name seen.given) refl
        (lookup name seen.declared) e is
    form_passes (forms.Call at name args) all e is = called_passes args all (lookup name seen.bodies) e is
    form_passes (forms.Or at parts) all e is =
        let step = some_bind (λ es. built (nodes.Or es)) (each_of (part_tree seen) [] (map tree_in parts)) e is in
        node_passes (nodes.Or step.0) e step.2 (parts_pass parts all step.0 step.1)
    form_passes (forms.And at parts) all e is =
        let step = some_bind (λ es. built (nodes.And es)) (each_of (part_tree seen) [] (map tree_in parts)) e is in
        node_passes (nodes.And step.0) e step.2 (parts_pass parts all step.0 step.1)
    form_passes (forms.Not at part) all e is = one_passes part all nodes.Not (λ a. refl) e is
    form_passes (forms.Compare at op left right) all e is =
        two_pass left right all.0 all.1 (nodes.Compare (test_of op)) (λ a b. refl) e is
    form_passes (forms.Sum at first rest) all e is =
        let one = some_bind (λ e. option_and_then (λ more. built (nodes.Sum e more)) (each_of (addend_tree seen) [] (map (sum_with tree_in) rest))) (tree_in first seen) e is in
        let more = some_bind (λ more. built (nodes.Sum one.0 more)) (each_of (addend_tree seen) [] (map (sum_with tree_in) rest)) e one.2 in
        node_passes (nodes.Sum one.0 more.0) e more.2
        (and_from (pass one.0) (all_together true and_also addend_part (map (addend_with pass) more.0)) (all.0 one.0 one.1) (sums_pass rest all.1 more.0 more.1))
    form_passes (forms.Product at first rest) all e is =
        let one = some_bind (λ e. option_and_then (λ more. built (nodes.Product e more)) (each_of (factor_tree seen) [] (map (product_with tree_in) rest))) (tree_in first seen) e is in
        let more = some_bind (λ more. built (nodes.Product one.0 more)) (each_of (factor_tree seen) [] (map (product_with tree_in) rest)) e one.2 in
        node_passes (nodes.Product one.0 more.0) e more.2
        (and_from (pass one.0) (all_together true and_also (factor_part true) (map (factor_with pass) more.0)) (all.0 one.0 one.1) (products_pass rest all.1 more.0 more.1))
    form_passes (forms.Neg at part) all e is = one_passes part all nodes.Neg (λ a. refl) e is
    form_passes (forms.Field at part path) all e is =
        let step = some_bind (λ e. fields e path) (tree_in part seen) e is in
        fields_pass path step.0 e (all step.0 step.1) step.2
    form_passes (forms.Tuple at parts) all e is =
        let step = some_bind (λ es. built (nodes.Tuple es)) (each_of (part_tree seen) [] (map tree_in parts)) e is in
        node_passes (nodes.Tuple step.0) e step.2 (parts_pass parts all step.0 step.1)
    form_passes (forms.If at arms otherwise) all e is =
        let choices = some_bind (λ choices. option_and_then (λ e. built (nodes.If choices e)) (tree_in otherwise seen)) (each_of (arm_tree seen) [] (map (arm_with tree_in) arms)) e is in
        let last = some_bind (λ e. built (nodes.If choices.0 e)) (tree_in otherwise seen) e choices.2 in
        node_passes (nodes.If choices.0 last.0) e last.2
        (and_from (all_together true and_also (choice_parts and_also) (map (choice_with pass) choices.0)) (pass last.0)
        (arms_pass arms all.0 choices.0 choices.1) (all.1 last.0 last.1))
    form_passes (forms.Table at keys rows) all e is =
        let keyed = some_bind (λ keyed. option_and_then (λ order. option_and_then (λ bodies. built (nodes.Table keyed bodies))
        (each_of (row_there seen (map (row_with tree_in) rows)) [] order)) (order_of seen.declared (types_of keyed) (map (row_with tree_in) rows)))
        (each_of (key_tree seen) [] (map (texts.key_with tree_in) keys)) e is in
        let order = some_bind (λ order. option_and_then (λ bodies. built (nodes.Table keyed.0 bodies))
        (each_of (row_there seen (map (row_with tree_in) rows)) [] order)) (order_of seen.declared (types_of keyed.0) (map (row_with tree_in) rows)) e keyed.2 in
        let bodies = some_bind (λ bodies. built (nodes.Table keyed.0 bodies)) (each_of (row_there seen (map (row_with tree_in) rows)) [] order.0) e order.2 in
        node_passes (nodes.Table keyed.0 bodies.0) e bodies.2
        (and_from (all_together true and_also (λ key. key.expr) (map (key_with pass) keyed.0)) (all_together true and_also (λ b. b) (map pass bodies.0))
        (keys_pass keys all.0 keyed.0 keyed.1) (rows_pass rows all.1 order.0 bodies.0 bodies.1))
    form_passes (forms.Ratio at x y otherwise) all e is =
        let a = some_bind (λ a. option_and_then (λ b. option_and_then (λ c. built (nodes.Ratio a b c)) (tree_in otherwise seen)) (tree_in y seen)) (tree_in x seen) e is in
        let b = some_bind (λ b. option_and_then (λ c. built (nodes.Ratio a.0 b c)) (tree_in otherwise seen)) (tree_in y seen) e a.2 in
        let c = some_bind (λ c. built (nodes.Ratio a.0 b.0 c)) (tree_in otherwise seen) e b.2 in
        node_passes (nodes.Ratio a.0 b.0 c.0) e c.2
        (and_from (pass a.0) (and_also (pass b.0) (pass c.0)) (all.0 a.0 a.1) (and_from (pass b.0) (pass c.0) (all.1 b.0 b.1) (all.2 c.0 c.1)))
    form_passes (forms.Min at first second) all e is = two_pass first second all.0 all.1 nodes.Min (λ a b. refl) e is
    form_passes (forms.Max at first second) all e is = two_pass first second all.0 all.1 nodes.Max (λ a b. refl) e is
    form_passes (forms.Clamp at lo_at lo hi part) all e is = one_passes part all (nodes.Clamp lo hi) (λ a. refl) e is

    -- Where the expression's variables and the given trees pass the test, so does its tree.
    pub tree_passes : (e : ExprTree) → Inside e
    tree_passes = expr_induction Inside (λ form all tree is.
        form_passes form all tree
        (sym (ap (λ f. tree_rule (form_with tree_in f) seen) (out-roll-ExprTree form))
        ∙ sym (λ i. fold_of_form tree_rule (roll-ExprTree form) i seen) ∙ is))
