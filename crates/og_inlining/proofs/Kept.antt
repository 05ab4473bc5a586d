-- What a written type, value or expression stands for stays where more names are known.
use Rattle.std.proofs.Common.{◌≡◌, ◌∙◌, ℕ, zero, suc, ◌+◌, Bool, true, false, List, [], ◌∷◌, ◌++◌, map, length, refl, ap, sym, subst}
use Rattle.std.specs.Prelude.{Option, Some, None, option_and_then, ◌==◌, slice_get, Ok, Err}
use Rattle.std.specs.List.{AllByRecursion}
use Rattle.std.proofs.lemmas.Option.{none-some}
use Rattle.og_types.specs.declared.ty.Ty.{Ty}
use Rattle.og_types.specs.Ty.{holds}
use Rattle.og_types.specs.declared.value.Value.{Value}
use Rattle.og_types.specs.declared.value.Value.TheVariants as value
use Rattle.og_types.specs.Values.{joint_rank_of}
use Rattle.og_expr.specs.declared.node.NodeOf.TheVariants as nodes
use Rattle.og_expr.specs.declared.node.Addend.TheVariants as addends
use Rattle.og_expr.specs.declared.node.Factor.TheVariants as factors
use Rattle.og_expr.specs.declared.node.Key.{Key}
use Rattle.og_expr.specs.declared.node.Term.{Term}
use Rattle.og_expr.specs.Variables.{numbers_of}
use Rattle.og_game.specs.declared.scope.Variable.{Variable}
use Rattle.og_syntax.specs.declared.types.TyTree.{TyTree}
use Rattle.og_syntax.specs.declared.types.TyTree.TheOpen.{TyTree-F}
use Rattle.og_syntax.specs.declared.types.TyTree.TheOpen as types
use Rattle.og_syntax.specs.declared.types.TyTree.TheViews.{roll-TyTree}
use Rattle.og_syntax.specs.declared.types.TyTree.TheFolds.{ind-TyTree, map-TyTree, fold-roll-TyTree}
use Rattle.og_syntax.specs.declared.values.ValueTree.{ValueTree}
use Rattle.og_syntax.specs.declared.values.ValueTree.TheOpen.{ValueTree-F}
use Rattle.og_syntax.specs.declared.values.ValueTree.TheOpen as values
use Rattle.og_syntax.specs.declared.values.ValueTree.TheViews.{roll-ValueTree}
use Rattle.og_syntax.specs.declared.values.ValueTree.TheFolds.{ind-ValueTree, map-ValueTree, fold-roll-ValueTree}
use Rattle.og_syntax.specs.declared.expressions.ExprTree.{ExprTree}
use Rattle.og_syntax.specs.declared.expressions.ExprTree.TheOpen.{ExprTree-F}
use Rattle.og_syntax.specs.declared.expressions.ExprTree.TheOpen as forms
use Rattle.og_syntax.specs.declared.expressions.ExprTree.TheViews.{roll-ExprTree, out-roll-ExprTree}
use Rattle.og_syntax.specs.declared.expressions.SumPart.{SumPart}
use Rattle.og_syntax.specs.declared.expressions.SumPart.TheVariants as sums
use Rattle.og_syntax.specs.declared.expressions.ProductPart.{ProductPart}
use Rattle.og_syntax.specs.declared.expressions.ProductPart.TheVariants as products
use Rattle.og_syntax.specs.declared.expressions.IfArm.{IfArm}
use Rattle.og_syntax.specs.declared.expressions.ResultTree.{ResultTree}
use Rattle.og_syntax.specs.declared.expressions.TableRow.{TableRow}
use Rattle.og_names.specs.Names.{lookup, place}
use Rattle.og_typing.specs.declared.fault.WireFault.TheVariants.{WrongType, WrongCount}
use Rattle.og_typing.specs.declared.meaning.Meaning.{Meaning}
use Rattle.og_typing.specs.Checked.{Checked, ◌>>=◌, ◌>>◌, rule, in_turn}
use Rattle.og_typing.specs.Types.{Table, type_named, with_type, all_types, tuple_type, type_rule, type_walk}
use Rattle.og_typing.specs.Values.{value_place, case_named, with_value, meant_rule, meant, value_of, values_from, rank_found, key_walk}
use Rattle.og_typing.specs.Expressions.{are_keys}
use Rattle.og_typing.specs.Levels.{form_with, sum_with, product_with, arm_with, key_with, row_with, fold_of_form}
use Rattle.og_typing.proofs.Steps.{bind_ok}
use Rattle.og_inlining.specs.Seen.{Seen}
use Rattle.og_inlining.specs.Steps.{provided, each_of, given_by}
use Rattle.og_inlining.specs.Sound.{Extends}
use Rattle.og_inlining.specs.Trees.{Tree, built, variable_tree, case_tree, leaf_tree, named_tree, occurs, argument, arguments, placed, body_with, call_tree, part_tree, addend_tree, factor_tree, arm_tree, test_of, fields, key_tree, types_of, rank_in, ranks_of, places, order_of, row_there, rows_tree, tree_rule, tree_in}
use Rattle.og_inlining.proofs.Induction.{OfSum, OfProduct, OfArm, OfKey, OfRow, PartsOf, expr_induction}

-- ---- what is kept

-- What the first gives, so does the second.
abbrev pub Walk : {A : Type 0} → Checked A → Checked A → Type 0
Walk {A} first second = (a : A) → first ≡ Ok a → second ≡ Ok a

abbrev pub Kept : {A : Type 0} → Option A → Option A → Type 0
Kept {A} first second = (a : A) → first ≡ Some a → second ≡ Some a

pub walk_then : {A B : Type 0} (first second : Checked A) (f g : A → Checked B) → Walk first second
    → ((a : A) → Walk (f a) (g a)) → Walk (first >>= f) (second >>= g)
walk_then first second f g kept further b is =
    let step = bind_ok first f b is in
    ap (λ walk. walk >>= g) (kept step.0 step.1) ∙ further step.0 b step.2

pub walk_turn : {X A : Type 0} (first second : A → X → Checked A) (xs : List X)
    → AllByRecursion (λ x. (found : A) → Walk (first found x) (second found x)) xs
    → (found : A) → Walk (in_turn first found xs) (in_turn second found xs)
walk_turn first second [] kept found = λ a is. is
walk_turn first second (x ∷ xs) kept found =
    walk_then (first found x) (second found x) (λ next. in_turn first next xs) (λ next. in_turn second next xs)
    (kept.0 found) (walk_turn first second xs kept.1)

pub then_kept : {A B : Type 0} (first second : Option A) (f g : A → Option B) → Kept first second
    → ((a : A) → Kept (f a) (g a)) → Kept (option_and_then f first) (option_and_then g second)
then_kept None second f g kept further b is = absurd (none-some b is)
then_kept (Some a) second f g kept further b is = ap (option_and_then g) (kept a refl) ∙ further a b is

pub same_kept : {A : Type 0} (o : Option A) → Kept o o
same_kept o a is = is

pub given_kept : {A : Type 0} (first second : Checked A) → Walk first second → Kept (given_by first) (given_by second)
given_kept (Ok b) second kept a is = ap given_by (kept b refl) ∙ is
given_kept (Err fault) second kept a is = absurd (none-some a is)

pub each_kept : {X Y : Type 0} (first second : X → Option Y) (xs : List X)
    → AllByRecursion (λ x. Kept (first x) (second x)) xs → (found : List Y) → Kept (each_of first found xs) (each_of second found xs)
each_kept first second [] kept found = λ a is. is
each_kept first second (x ∷ xs) kept found =
    then_kept (first x) (second x) (λ y. each_of first (found ++ y ∷ []) xs) (λ y. each_of second (found ++ y ∷ []) xs)
    kept.0 (λ y. each_kept first second xs kept.1 (found ++ y ∷ []))

pub all_mapped : {A B : Type 0} (P : B → Type 0) (Q : A → Type 0) (f : A → B) → ((a : A) → Q a → P (f a)) → (as' : List A)
    → AllByRecursion Q as' → AllByRecursion P (map f as')
all_mapped P Q f into [] all = tt
all_mapped P Q f into (a ∷ as') all = (into a all.0, all_mapped P Q f into as' all.1)

pub always : {A : Type 0} (P : A → Type 0) → ((a : A) → P a) → (as' : List A) → AllByRecursion P as'
always P each [] = tt
always P each (a ∷ as') = (each a, always P each as')

-- ---- types and values

module _ (before after : Table Meaning)
    (known : (name : List ℕ) (m : Meaning) → lookup name before ≡ Some m → lookup name after ≡ Some m) where
  abbrev KeptType : TyTree → Type 0
  KeptType written = Walk (type_walk written before) (type_walk written after)

  name_kept : (at : ℕ) (name : List ℕ) (m : Option Meaning) → lookup name before ≡ m
      → Walk (type_named at m) (type_named at (lookup name after))
  name_kept at name None there t is = cc
  name_kept at name (Some m) there t is = ap (type_named at) (known name m there) ∙ is

  all_types_kept : (parts : List ((e : TyTree) × KeptType e))
      → AllByRecursion (λ part. (found : List Ty) → Walk (with_type before found part) (with_type after found part))
      (map type_walk (map (λ e. e.0) parts))
  all_types_kept [] = tt
  all_types_kept (part ∷ parts) = (
    (λ found. walk_then (type_walk part.0 before) (type_walk part.0 after) (λ t. Ok (found ++ t ∷ [])) (λ t. Ok (found ++ t ∷ []))
        part.1 (λ t a is. is)),
    all_types_kept parts,
  )

  type_form_kept : (form : TyTree-F ((e : TyTree) × KeptType e))
      → Walk (type_rule (map-TyTree TyTree (Table Meaning → Checked Ty) type_walk (map-TyTree ((e : TyTree) × KeptType e) TyTree (λ e. e.0) form)) before)
      (type_rule (map-TyTree TyTree (Table Meaning → Checked Ty) type_walk (map-TyTree ((e : TyTree) × KeptType e) TyTree (λ e. e.0) form)) after)
  type_form_kept (types.Name at name) = name_kept at name (lookup name before) refl
  type_form_kept (types.Bool at) = λ t is. is
  type_form_kept (types.Number at) = λ t is. is
  type_form_kept (types.Range at low high) = λ t is. is
  type_form_kept (types.Tuple at parts) =
      walk_then (all_types before [] (map type_walk (map (λ e. e.0) parts))) (all_types after [] (map type_walk (map (λ e. e.0) parts)))
      (tuple_type at) (tuple_type at)
      (walk_turn (with_type before) (with_type after) (map type_walk (map (λ e. e.0) parts)) (all_types_kept parts) [])
      (λ types t is. is)

  pub type_kept : (written : TyTree) → KeptType written
  type_kept = ind-TyTree KeptType (λ x y is. subst (λ z. KeptType (roll-TyTree z)) is (λ t walked.
      (λ i. fold-roll-TyTree (Table Meaning → Checked Ty) type_rule (map-TyTree ((e : TyTree) × KeptType e) TyTree (λ e. e.0) y) i after)
      ∙ type_form_kept y t
      (sym (λ i. fold-roll-TyTree (Table Meaning → Checked Ty) type_rule (map-TyTree ((e : TyTree) × KeptType e) TyTree (λ e. e.0) y) i before)
      ∙ walked)))

  abbrev KeptValue : ValueTree → Type 0
  KeptValue written = Walk (meant written before) (meant written after)

  case_kept : (at : ℕ) (name : List ℕ) (m : Option Meaning) → lookup name before ≡ m
      → Walk (case_named at m) (case_named at (lookup name after))
  case_kept at name None there t is = cc
  case_kept at name (Some m) there t is = ap (case_named at) (known name m there) ∙ is

  all_values_kept : (parts : List ((e : ValueTree) × KeptValue e))
      → AllByRecursion (λ part. (found : List Value) → Walk (with_value before found part) (with_value after found part))
      (map meant (map (λ e. e.0) parts))
  all_values_kept [] = tt
  all_values_kept (part ∷ parts) = (
    (λ found. walk_then (meant part.0 before) (meant part.0 after) (λ v. Ok (found ++ v ∷ [])) (λ v. Ok (found ++ v ∷ []))
        part.1 (λ v a is. is)),
    all_values_kept parts,
  )

  value_form_kept : (form : ValueTree-F ((e : ValueTree) × KeptValue e))
      → Walk (meant_rule (map-ValueTree ValueTree (Table Meaning → Checked Value) meant (map-ValueTree ((e : ValueTree) × KeptValue e) ValueTree (λ e. e.0) form)) before)
      (meant_rule (map-ValueTree ValueTree (Table Meaning → Checked Value) meant (map-ValueTree ((e : ValueTree) × KeptValue e) ValueTree (λ e. e.0) form)) after)
  value_form_kept (values.Name at name) = case_kept at name (lookup name before) refl
  value_form_kept (values.Flag at flag) = λ v is. is
  value_form_kept (values.Number at n) = λ v is. is
  value_form_kept (values.Tuple at parts) =
      walk_then (in_turn (with_value before) [] (map meant (map (λ e. e.0) parts))) (in_turn (with_value after) [] (map meant (map (λ e. e.0) parts)))
      (λ vs. Ok (value.Tuple vs)) (λ vs. Ok (value.Tuple vs))
      (walk_turn (with_value before) (with_value after) (map meant (map (λ e. e.0) parts)) (all_values_kept parts) [])
      (λ vs v is. is)

  pub meant_kept : (written : ValueTree) → KeptValue written
  meant_kept = ind-ValueTree KeptValue (λ x y is. subst (λ z. KeptValue (roll-ValueTree z)) is (λ v walked.
      (λ i. fold-roll-ValueTree (Table Meaning → Checked Value) meant_rule (map-ValueTree ((e : ValueTree) × KeptValue e) ValueTree (λ e. e.0) y) i after)
      ∙ value_form_kept y v
      (sym (λ i. fold-roll-ValueTree (Table Meaning → Checked Value) meant_rule (map-ValueTree ((e : ValueTree) × KeptValue e) ValueTree (λ e. e.0) y) i before)
      ∙ walked)))

  value_of_kept : (o : Option Ty) (v : ValueTree) → Walk (value_of before o v) (value_of after o v)
  value_of_kept None v = λ a is. is
  value_of_kept (Some t) v =
      walk_then (meant v before) (meant v after)
      (λ found. rule (holds t found) (WrongType (value_place v)) >> Ok found) (λ found. rule (holds t found) (WrongType (value_place v)) >> Ok found)
      (meant_kept v) (λ found a is. is)

  values_kept : (ts : List Ty) (i : ℕ) (found : List Value) (vs : List ValueTree)
      → Walk (values_from before ts i found vs) (values_from after ts i found vs)
  values_kept ts i found [] = λ a is. is
  values_kept ts i found (v ∷ vs) =
      walk_then (value_of before (slice_get ts i) v) (value_of after (slice_get ts i) v)
      (λ next. values_from before ts (i + 1) (found ++ next ∷ []) vs) (λ next. values_from after ts (i + 1) (found ++ next ∷ []) vs)
      (value_of_kept (slice_get ts i) v) (λ next. values_kept ts (i + 1) (found ++ next ∷ []) vs)

  pub key_kept : (ts : List Ty) (at : ℕ) (key : List ValueTree) → Walk (key_walk before ts at key) (key_walk after ts at key)
  key_kept ts at key =
      walk_then (rule (length key == length ts) (WrongCount at)) (rule (length key == length ts) (WrongCount at))
      (λ _. values_from before ts 0 [] key >>= (λ vs. rank_found at (joint_rank_of ts vs)))
      (λ _. values_from after ts 0 [] key >>= (λ vs. rank_found at (joint_rank_of ts vs)))
      (λ u is. is)
      (λ u. walk_then (values_from before ts 0 [] key) (values_from after ts 0 [] key)
      (λ vs. rank_found at (joint_rank_of ts vs)) (λ vs. rank_found at (joint_rank_of ts vs))
      (values_kept ts 0 [] key) (λ vs a is. is))

-- ---- expressions

module _ (seen more : Seen) (extends : Extends seen more) where
  abbrev Stays : ExprTree → Type 0
  Stays e = Kept (tree_in e seen) (tree_in e more)

  variable_kept : (name : List ℕ) (k : ℕ) (v : Option Variable) → lookup name seen.variables ≡ v
      → Kept (variable_tree k v) (variable_tree k (lookup name more.variables))
  variable_kept name k None there t is = absurd (none-some t is)
  variable_kept name k (Some v) there t is = ap (variable_tree k) (extends.variables name v there) ∙ is

  case_stays : (name : List ℕ) (m : Option Meaning) → lookup name seen.declared ≡ m
      → Kept (case_tree m) (case_tree (lookup name more.declared))
  case_stays name None there t is = absurd (none-some t is)
  case_stays name (Some m) there t is = ap case_tree (extends.declared name m there) ∙ is

  -- of a name that is no variable
  given_stays : (name : List ℕ) (g : Option Term) → lookup name seen.given ≡ g
      → Kept (leaf_tree None (lookup name seen.variables) g (lookup name seen.declared))
      (leaf_tree None (lookup name more.variables) g (lookup name more.declared))
  given_stays name None there = case_stays name (lookup name seen.declared) refl
  given_stays name (Some tree) there = λ t is. is

  leaf_stays : (name : List ℕ) (p q : Option ℕ) → place name seen.variables ≡ p → place name more.variables ≡ q
      → Kept (leaf_tree p (lookup name seen.variables) (lookup name seen.given) (lookup name seen.declared))
      (leaf_tree q (lookup name more.variables) (lookup name more.given) (lookup name more.declared))
  leaf_stays name (Some k) q at there t is =
      ap (λ o. leaf_tree o (lookup name more.variables) (lookup name more.given) (lookup name more.declared)) (sym there ∙ extends.places name k at)
      ∙ variable_kept name k (lookup name seen.variables) refl t is
  leaf_stays name None None at there t is =
      ap (λ o. leaf_tree None (lookup name more.variables) o (lookup name more.declared)) (extends.given name)
      ∙ given_stays name (lookup name seen.given) refl t is
  leaf_stays name None (Some k) at there t is =
      let none = extends.new name k at there in
      absurd (none-some t
      (sym (ap (λ o. leaf_tree None (lookup name seen.variables) o (lookup name seen.declared)) none.0 ∙ ap case_tree none.1) ∙ is))

  name_stays : (name : List ℕ) → Kept (named_tree name seen) (named_tree name more)
  unfolding named_tree
  name_stays name = leaf_stays name (place name seen.variables) (place name more.variables) refl refl

  argument_stays : (b : Bool) (arg : ExprTree) → Stays arg → Kept (argument seen b (tree_in arg)) (argument more b (tree_in arg))
  argument_stays true arg stays = stays
  argument_stays false arg stays = λ t is. is

  arguments_stay : (used : ℕ → Bool) (k : ℕ) (found : List Term) (args : List ExprTree) → AllByRecursion Stays args
      → Kept (arguments seen used k found (map tree_in args)) (arguments more used k found (map tree_in args))
  arguments_stay used k found [] all = λ ts is. is
  arguments_stay used k found (arg ∷ args) all =
      then_kept (argument seen (used k) (tree_in arg)) (argument more (used k) (tree_in arg))
      (λ tree. arguments seen used (k + 1) (found ++ tree ∷ []) (map tree_in args))
      (λ tree. arguments more used (k + 1) (found ++ tree ∷ []) (map tree_in args))
      (argument_stays (used k) arg all.0) (λ tree. arguments_stay used (k + 1) (found ++ tree ∷ []) args all.1)

  body_stays : (name : List ℕ) (args : List ExprTree) → AllByRecursion Stays args → (body : Option Term)
      → lookup name seen.bodies ≡ body
      → Kept (body_with seen (map tree_in args) body) (body_with more (map tree_in args) (lookup name more.bodies))
  body_stays name args all None there t is = absurd (none-some t is)
  body_stays name args all (Some body) there t is =
      ap (body_with more (map tree_in args)) (extends.bodies name body there)
      ∙ then_kept (arguments seen (occurs (numbers_of body)) 0 [] (map tree_in args)) (arguments more (occurs (numbers_of body)) 0 [] (map tree_in args))
      (placed body) (placed body) (arguments_stay (occurs (numbers_of body)) 0 [] args all) (λ trees a is. is) t is

  call_stays : (name : List ℕ) (args : List ExprTree) → AllByRecursion Stays args
      → Kept (call_tree name (map tree_in args) seen) (call_tree name (map tree_in args) more)
  unfolding call_tree
  call_stays name args all = body_stays name args all (lookup name seen.bodies) refl

  parts_stay : (parts : List ExprTree) → AllByRecursion Stays parts
      → Kept (each_of (part_tree seen) [] (map tree_in parts)) (each_of (part_tree more) [] (map tree_in parts))
  parts_stay parts all =
      each_kept (part_tree seen) (part_tree more) (map tree_in parts)
      (all_mapped (λ part. Kept (part_tree seen part) (part_tree more part)) Stays tree_in (λ e stays. stays) parts all) []

  sum_stays : (part : SumPart ExprTree) → OfSum Stays part
      → Kept (addend_tree seen (sum_with tree_in part)) (addend_tree more (sum_with tree_in part))
  sum_stays (sums.Plus e) stays =
      then_kept (tree_in e seen) (tree_in e more) (λ t. Some (addends.Plus t)) (λ t. Some (addends.Plus t)) stays (λ t a is. is)
  sum_stays (sums.Minus e) stays =
      then_kept (tree_in e seen) (tree_in e more) (λ t. Some (addends.Minus t)) (λ t. Some (addends.Minus t)) stays (λ t a is. is)

  sums_stay : (rest : List (SumPart ExprTree)) → AllByRecursion (OfSum Stays) rest
      → Kept (each_of (addend_tree seen) [] (map (sum_with tree_in) rest)) (each_of (addend_tree more) [] (map (sum_with tree_in) rest))
  sums_stay rest all =
      each_kept (addend_tree seen) (addend_tree more) (map (sum_with tree_in) rest)
      (all_mapped (λ part. Kept (addend_tree seen part) (addend_tree more part)) (OfSum Stays) (sum_with tree_in) sum_stays rest all) []

  product_stays : (part : ProductPart ExprTree) → OfProduct Stays part
      → Kept (factor_tree seen (product_with tree_in part)) (factor_tree more (product_with tree_in part))
  product_stays (products.Times e) stays =
      then_kept (tree_in e seen) (tree_in e more) (λ t. Some (factors.Times t)) (λ t. Some (factors.Times t)) stays (λ t a is. is)
  product_stays (products.Over n) stays = λ a is. is

  products_stay : (rest : List (ProductPart ExprTree)) → AllByRecursion (OfProduct Stays) rest
      → Kept (each_of (factor_tree seen) [] (map (product_with tree_in) rest)) (each_of (factor_tree more) [] (map (product_with tree_in) rest))
  products_stay rest all =
      each_kept (factor_tree seen) (factor_tree more) (map (product_with tree_in) rest)
      (all_mapped (λ part. Kept (factor_tree seen part) (factor_tree more part)) (OfProduct Stays) (product_with tree_in) product_stays rest all) []

  arm_stays : (arm : IfArm ExprTree) → OfArm Stays arm → Kept (arm_tree seen (arm_with tree_in arm)) (arm_tree more (arm_with tree_in arm))
  arm_stays arm stays =
      then_kept (tree_in arm.cond seen) (tree_in arm.cond more)
      (λ c. option_and_then (λ e. Some (record { cond = c; body = e })) (tree_in arm.body seen))
      (λ c. option_and_then (λ e. Some (record { cond = c; body = e })) (tree_in arm.body more)) stays.0
      (λ c. then_kept (tree_in arm.body seen) (tree_in arm.body more) (λ e. Some (record { cond = c; body = e }))
      (λ e. Some (record { cond = c; body = e })) stays.1 (λ e a is. is))

  arms_stay : (arms : List (IfArm ExprTree)) → AllByRecursion (OfArm Stays) arms
      → Kept (each_of (arm_tree seen) [] (map (arm_with tree_in) arms)) (each_of (arm_tree more) [] (map (arm_with tree_in) arms))
  arms_stay arms all =
      each_kept (arm_tree seen) (arm_tree more) (map (arm_with tree_in) arms)
      (all_mapped (λ arm. Kept (arm_tree seen arm) (arm_tree more arm)) (OfArm Stays) (arm_with tree_in) arm_stays arms all) []

  key_stays : (key : ResultTree ExprTree) → OfKey Stays key → Kept (key_tree seen (key_with tree_in key)) (key_tree more (key_with tree_in key))
  key_stays key stays =
      then_kept (tree_in key.expr seen) (tree_in key.expr more)
      (λ e. option_and_then (λ t. Some (record { expr = e; ty = t })) (given_by (type_walk key.ty seen.declared)))
      (λ e. option_and_then (λ t. Some (record { expr = e; ty = t })) (given_by (type_walk key.ty more.declared))) stays
      (λ e. then_kept (given_by (type_walk key.ty seen.declared)) (given_by (type_walk key.ty more.declared))
      (λ t. Some (record { expr = e; ty = t })) (λ t. Some (record { expr = e; ty = t }))
      (given_kept (type_walk key.ty seen.declared) (type_walk key.ty more.declared) (type_kept seen.declared more.declared extends.declared key.ty))
      (λ t a is. is))

  keys_stay : (keys : List (ResultTree ExprTree)) → AllByRecursion (OfKey Stays) keys
      → Kept (each_of (key_tree seen) [] (map (key_with tree_in) keys)) (each_of (key_tree more) [] (map (key_with tree_in) keys))
  keys_stay keys all =
      each_kept (key_tree seen) (key_tree more) (map (key_with tree_in) keys)
      (all_mapped (λ key. Kept (key_tree seen key) (key_tree more key)) (OfKey Stays) (key_with tree_in) key_stays keys all) []

  ranks_stay : (ts : List Ty) (rows : List (TableRow Tree)) → Kept (ranks_of seen.declared ts rows) (ranks_of more.declared ts rows)
  unfolding ranks_of
  ranks_stay ts rows =
      then_kept (provided (are_keys ts)) (provided (are_keys ts)) (λ _. each_of (rank_in seen.declared ts) [] rows)
      (λ _. each_of (rank_in more.declared ts) [] rows) (λ u is. is)
      (λ _. each_kept (rank_in seen.declared ts) (rank_in more.declared ts) rows
      (always (λ row. Kept (rank_in seen.declared ts row) (rank_in more.declared ts row))
      (λ row. given_kept (key_walk seen.declared ts row.at row.key) (key_walk more.declared ts row.at row.key)
      (key_kept seen.declared more.declared extends.declared ts row.at row.key)) rows) [])

  order_stays : (ts : List Ty) (rows : List (TableRow Tree)) → Kept (order_of seen.declared ts rows) (order_of more.declared ts rows)
  order_stays ts rows =
      then_kept (ranks_of seen.declared ts rows) (ranks_of more.declared ts rows) (λ ranks. places ranks 0 [] ranks)
      (λ ranks. places ranks 0 [] ranks) (ranks_stay ts rows) (λ ranks a is. is)

  row_stays : (rows : List (TableRow ExprTree)) → AllByRecursion (OfRow Stays) rows → (at : ℕ)
      → Kept (row_there seen (map (row_with tree_in) rows) at) (row_there more (map (row_with tree_in) rows) at)
  unfolding row_there
  row_stays [] all at t is = absurd (none-some t is)
  row_stays (row ∷ rows) all zero t is = all.0 t is
  row_stays (row ∷ rows) all (suc at) t is = row_stays rows all.1 at t is

  rows_stay : (keys : List (Key Term)) (rows : List (TableRow ExprTree)) → AllByRecursion (OfRow Stays) rows
      → Kept (rows_tree seen keys (map (row_with tree_in) rows)) (rows_tree more keys (map (row_with tree_in) rows))
  unfolding rows_tree
  rows_stay keys rows all =
      then_kept (order_of seen.declared (types_of keys) (map (row_with tree_in) rows)) (order_of more.declared (types_of keys) (map (row_with tree_in) rows))
      (λ order. option_and_then (λ bodies. built (nodes.Table keys bodies)) (each_of (row_there seen (map (row_with tree_in) rows)) [] order))
      (λ order. option_and_then (λ bodies. built (nodes.Table keys bodies)) (each_of (row_there more (map (row_with tree_in) rows)) [] order))
      (order_stays (types_of keys) (map (row_with tree_in) rows))
      (λ order. then_kept (each_of (row_there seen (map (row_with tree_in) rows)) [] order) (each_of (row_there more (map (row_with tree_in) rows)) [] order)
      (λ bodies. built (nodes.Table keys bodies)) (λ bodies. built (nodes.Table keys bodies))
      (each_kept (row_there seen (map (row_with tree_in) rows)) (row_there more (map (row_with tree_in) rows)) order
      (always (λ at. Kept (row_there seen (map (row_with tree_in) rows) at) (row_there more (map (row_with tree_in) rows) at)) (row_stays rows all) order) [])
      (λ bodies a is. is))

  form_stays : (form : ExprTree-F ExprTree) → PartsOf Stays form
      → Kept (tree_rule (form_with tree_in form) seen) (tree_rule (form_with tree_in form) more)
  unfolding tree_rule
  form_stays (forms.Number at n) all = λ t is. is
  form_stays (forms.Flag at flag) all = λ t is. is
  form_stays (forms.Name at name) all = name_stays name
  form_stays (forms.Call at name args) all = call_stays name args all
  form_stays (forms.Or at parts) all =
      then_kept (each_of (part_tree seen) [] (map tree_in parts)) (each_of (part_tree more) [] (map tree_in parts))
      (λ es. built (nodes.Or es)) (λ es. built (nodes.Or es)) (parts_stay parts all) (λ es t is. is)
  form_stays (forms.And at parts) all =
      then_kept (each_of (part_tree seen) [] (map tree_in parts)) (each_of (part_tree more) [] (map tree_in parts))
      (λ es. built (nodes.And es)) (λ es. built (nodes.And es)) (parts_stay parts all) (λ es t is. is)
  form_stays (forms.Not at part) all =
      then_kept (tree_in part seen) (tree_in part more) (λ e. built (nodes.Not e)) (λ e. built (nodes.Not e)) all (λ e t is. is)
  form_stays (forms.Compare at op left right) all =
      then_kept (tree_in left seen) (tree_in left more)
      (λ l. option_and_then (λ r. built (nodes.Compare (test_of op) l r)) (tree_in right seen))
      (λ l. option_and_then (λ r. built (nodes.Compare (test_of op) l r)) (tree_in right more)) all.0
      (λ l. then_kept (tree_in right seen) (tree_in right more) (λ r. built (nodes.Compare (test_of op) l r))
      (λ r. built (nodes.Compare (test_of op) l r)) all.1 (λ r t is. is))
  form_stays (forms.Sum at first rest) all =
      then_kept (tree_in first seen) (tree_in first more)
      (λ e. option_and_then (λ those. built (nodes.Sum e those)) (each_of (addend_tree seen) [] (map (sum_with tree_in) rest)))
      (λ e. option_and_then (λ those. built (nodes.Sum e those)) (each_of (addend_tree more) [] (map (sum_with tree_in) rest))) all.0
      (λ e. then_kept (each_of (addend_tree seen) [] (map (sum_with tree_in) rest)) (each_of (addend_tree more) [] (map (sum_with tree_in) rest))
      (λ those. built (nodes.Sum e those)) (λ those. built (nodes.Sum e those)) (sums_stay rest all.1) (λ those t is. is))
  form_stays (forms.Product at first rest) all =
      then_kept (tree_in first seen) (tree_in first more)
      (λ e. option_and_then (λ those. built (nodes.Product e those)) (each_of (factor_tree seen) [] (map (product_with tree_in) rest)))
      (λ e. option_and_then (λ those. built (nodes.Product e those)) (each_of (factor_tree more) [] (map (product_with tree_in) rest))) all.0
      (λ e. then_kept (each_of (factor_tree seen) [] (map (product_with tree_in) rest)) (each_of (factor_tree more) [] (map (product_with tree_in) rest))
      (λ those. built (nodes.Product e those)) (λ those. built (nodes.Product e those)) (products_stay rest all.1) (λ those t is. is))
  form_stays (forms.Neg at part) all =
      then_kept (tree_in part seen) (tree_in part more) (λ e. built (nodes.Neg e)) (λ e. built (nodes.Neg e)) all (λ e t is. is)
  form_stays (forms.Field at part path) all =
      then_kept (tree_in part seen) (tree_in part more) (λ e. fields e path) (λ e. fields e path) all (λ e t is. is)
  form_stays (forms.Tuple at parts) all =
      then_kept (each_of (part_tree seen) [] (map tree_in parts)) (each_of (part_tree more) [] (map tree_in parts))
      (λ es. built (nodes.Tuple es)) (λ es. built (nodes.Tuple es)) (parts_stay parts all) (λ es t is. is)
  form_stays (forms.If at arms otherwise) all =
      then_kept (each_of (arm_tree seen) [] (map (arm_with tree_in) arms)) (each_of (arm_tree more) [] (map (arm_with tree_in) arms))
      (λ choices. option_and_then (λ e. built (nodes.If choices e)) (tree_in otherwise seen))
      (λ choices. option_and_then (λ e. built (nodes.If choices e)) (tree_in otherwise more)) (arms_stay arms all.0)
      (λ choices. then_kept (tree_in otherwise seen) (tree_in otherwise more) (λ e. built (nodes.If choices e))
      (λ e. built (nodes.If choices e)) all.1 (λ e t is. is))
  form_stays (forms.Table at keys rows) all =
      then_kept (each_of (key_tree seen) [] (map (key_with tree_in) keys)) (each_of (key_tree more) [] (map (key_with tree_in) keys))
      (λ keyed. rows_tree seen keyed (map (row_with tree_in) rows)) (λ keyed. rows_tree more keyed (map (row_with tree_in) rows))
      (keys_stay keys all.0) (λ keyed. rows_stay keyed rows all.1)
  form_stays (forms.Ratio at x y otherwise) all =
      then_kept (tree_in x seen) (tree_in x more)
      (λ a. option_and_then (λ b. option_and_then (λ c. built (nodes.Ratio a b c)) (tree_in otherwise seen)) (tree_in y seen))
      (λ a. option_and_then (λ b. option_and_then (λ c. built (nodes.Ratio a b c)) (tree_in otherwise more)) (tree_in y more)) all.0
      (λ a. then_kept (tree_in y seen) (tree_in y more)
      (λ b. option_and_then (λ c. built (nodes.Ratio a b c)) (tree_in otherwise seen))
      (λ b. option_and_then (λ c. built (nodes.Ratio a b c)) (tree_in otherwise more)) all.1
      (λ b. then_kept (tree_in otherwise seen) (tree_in otherwise more) (λ c. built (nodes.Ratio a b c)) (λ c. built (nodes.Ratio a b c))
      all.2 (λ c t is. is)))
  form_stays (forms.Min at first second) all =
      then_kept (tree_in first seen) (tree_in first more)
      (λ a. option_and_then (λ b. built (nodes.Min a b)) (tree_in second seen)) (λ a. option_and_then (λ b. built (nodes.Min a b)) (tree_in second more)) all.0
      (λ a. then_kept (tree_in second seen) (tree_in second more) (λ b. built (nodes.Min a b)) (λ b. built (nodes.Min a b)) all.1 (λ b t is. is))
  form_stays (forms.Max at first second) all =
      then_kept (tree_in first seen) (tree_in first more)
      (λ a. option_and_then (λ b. built (nodes.Max a b)) (tree_in second seen)) (λ a. option_and_then (λ b. built (nodes.Max a b)) (tree_in second more)) all.0
      (λ a. then_kept (tree_in second seen) (tree_in second more) (λ b. built (nodes.Max a b)) (λ b. built (nodes.Max a b)) all.1 (λ b t is. is))
  form_stays (forms.Clamp at lo_at lo hi part) all =
      then_kept (tree_in part seen) (tree_in part more) (λ e. built (nodes.Clamp lo hi e)) (λ e. built (nodes.Clamp lo hi e)) all (λ e t is. is)

  -- The tree of an expression stays.
  pub tree_stays : (e : ExprTree) (t : Term) → tree_in e seen ≡ Some t → tree_in e more ≡ Some t
  tree_stays = expr_induction Stays (λ form all t is.
      (λ i. fold_of_form tree_rule (roll-ExprTree form) i more)
      ∙ ap (λ f. tree_rule (form_with tree_in f) more) (out-roll-ExprTree form)
      ∙ form_stays form all t
      (sym (ap (λ f. tree_rule (form_with tree_in f) seen) (out-roll-ExprTree form))
      ∙ sym (λ i. fold_of_form tree_rule (roll-ExprTree form) i seen) ∙ is))
