-- What is made of the variables that occur in an expression.
use Rattle.std.proofs.Common.{◌≡◌, ◌∙◌, ℕ, ◌+◌, ◌*◌, arith, zero, suc, true, false, length, List, [], ◌∷◌, ◌++◌, map, refl, ap, sym}
use Rattle.std.specs.Prelude.{◌↔◌, ◌&&◌, Bool, Contains, sum_by}
use Rattle.std.proofs.lemmas.Bool.{and_parts, and_from}
use Rattle.std.proofs.lemmas.List.{length-map}
use Rattle.std.proofs.lemmas.List.Folds.{list_all-append}
use Rattle.std.proofs.lemmas.List.Sums.{sum_by-append}
use Rattle.std.proofs.lemmas.Grind.{flat_map-append}
use Rattle.std.specs.List.{list_all, flat_map}
use Rattle.og_types.specs.declared.ty.Ty.{Ty}
use Rattle.og_expr.specs.declared.node.NodeOf.{NodeOf}
use Rattle.og_expr.specs.declared.node.NodeOf.TheVariants as nodes
use Rattle.og_expr.specs.declared.node.Addend.{Addend}
use Rattle.og_expr.specs.declared.node.Addend.TheVariants as addends
use Rattle.og_expr.specs.declared.node.Factor.{Factor}
use Rattle.og_expr.specs.declared.node.Factor.TheVariants as factors
use Rattle.og_expr.specs.declared.node.Choice.{Choice}
use Rattle.og_expr.specs.declared.node.Term.{Term}
use Rattle.og_expr.specs.Parts.{all_together, addend_part, factor_part, choice_parts, together}
use Rattle.og_expr.specs.Levels.{addend_with, factor_with, choice_with, key_with, node_with, fold_of_node}
use Rattle.og_expr.specs.Counts.{plus, key_values, nodes_below}
use Rattle.og_expr.specs.Variables.{Variable, at_variables, variables_of, all_variables, and_also}
use Rattle.og_expr.specs.Replaced.{replaced, nodes_with}
use Rattle.og_expr.proofs.Induction.{term_induction, agree, twice}
use Rattle.og_expr.proofs.Replacing.{by_rule, same_rule, with_trees}

abbrev pub joined : List Variable → List Variable → List Variable
joined vs ws = vs ++ ws

abbrev pub itself : ℕ → Ty → List Variable
itself number t = (number, t) ∷ []

-- ---- what goes through lists goes through forms

module _ {A : Type 0} (h : List Variable → A) (none : A) (both : A → A → A) (at_none : h [] ≡ none)
    (at_both : (vs ws : List Variable) → h (vs ++ ws) ≡ both (h vs) (h ws)) where
  through_list : {B C : Type 0} (f : B → List Variable) (g : C → A) (k : B → C) → ((b : B) → h (f b) ≡ g (k b)) → (bs : List B)
      → h (all_together [] joined f bs) ≡ all_together none both g (map k bs)
  through_list f g k same [] = at_none
  through_list f g k same (b ∷ bs) =
      at_both (f b) (all_together [] joined f bs) ∙ (λ i. both (same b i) (through_list f g k same bs i))

  through_addend : (a : Addend (List Variable)) → h (addend_part a) ≡ addend_part (addend_with h a)
  through_addend (addends.Plus vs) = refl
  through_addend (addends.Minus vs) = refl

  through_factor : (a : Factor (List Variable)) → h (factor_part [] a) ≡ factor_part none (factor_with h a)
  through_factor (factors.Times vs) = refl
  through_factor (factors.Over d) = at_none

  through_choice : (c : Choice (List Variable)) → h (choice_parts joined c) ≡ choice_parts both (choice_with h c)
  through_choice c = at_both c.cond c.body

  through_parts : (parts : List (List Variable)) → h (all_together [] joined (λ vs. vs) parts) ≡ all_together none both (λ a. a) (map h parts)
  through_parts = through_list (λ vs. vs) (λ a. a) h (λ vs. refl)

  through_form : (of_variable : ℕ → Ty → A) → ((number : ℕ) (t : Ty) → h (itself number t) ≡ of_variable number t)
      → (n : NodeOf (List Variable))
      → h (at_variables itself (together [] joined) n) ≡ at_variables of_variable (together none both) (node_with h n)
  through_form of_variable same (nodes.Literal n) = at_none
  through_form of_variable same (nodes.Flag flag) = at_none
  through_form of_variable same (nodes.Case family cases index) = at_none
  through_form of_variable same (nodes.Var number t) = same number t
  through_form of_variable same (nodes.Or parts) = through_parts parts
  through_form of_variable same (nodes.And parts) = through_parts parts
  through_form of_variable same (nodes.Not vs) = refl
  through_form of_variable same (nodes.Compare test vs ws) = at_both vs ws
  through_form of_variable same (nodes.Sum vs more) =
      at_both vs (all_together [] joined addend_part more)
      ∙ ap (both (h vs)) (through_list addend_part addend_part (addend_with h) through_addend more)
  through_form of_variable same (nodes.Product vs more) =
      at_both vs (all_together [] joined (factor_part []) more)
      ∙ ap (both (h vs)) (through_list (factor_part []) (factor_part none) (factor_with h) through_factor more)
  through_form of_variable same (nodes.Neg vs) = refl
  through_form of_variable same (nodes.Field vs k) = refl
  through_form of_variable same (nodes.Tuple parts) = through_parts parts
  through_form of_variable same (nodes.If choices vs) =
      at_both (all_together [] joined (choice_parts joined) choices) vs
      ∙ ap (λ a. both a (h vs)) (through_list (choice_parts joined) (choice_parts both) (choice_with h) through_choice choices)
  through_form of_variable same (nodes.Table keys rows) =
      at_both (all_together [] joined (λ key. key.expr) keys) (all_together [] joined (λ vs. vs) rows)
      ∙ (λ i. both (through_list (λ key. key.expr) (λ key. key.expr) (key_with h) (λ key. refl) keys i) (through_parts rows i))
  through_form of_variable same (nodes.Ratio x y z) = at_both x (y ++ z) ∙ ap (both (h x)) (at_both y z)
  through_form of_variable same (nodes.Min vs ws) = at_both vs ws
  through_form of_variable same (nodes.Max vs ws) = at_both vs ws
  through_form of_variable same (nodes.Clamp low high vs) = refl

  -- what is made of all variables is what the forms make of it
  pub through : (of_variable : ℕ → Ty → A) → ((number : ℕ) (t : Ty) → h (itself number t) ≡ of_variable number t)
      → (e : Term) → h (variables_of e) ≡ by_rule (at_variables of_variable (together none both)) e
  through of_variable same = term_induction
      (λ e. h (variables_of e) ≡ by_rule (at_variables of_variable (together none both)) e) (λ n is.
      let rule : NodeOf A → A = at_variables of_variable (together none both) in
      ap h (fold_of_node (at_variables itself (together [] joined)) n)
      ∙ through_form of_variable same (node_with variables_of n)
      ∙ ap rule (twice h variables_of n ∙ agree (λ e. h (variables_of e)) (by_rule rule) n is)
      ∙ sym (fold_of_node rule n))

-- ---- tests

and_true : (b : Bool) → (b && true) ≡ b
and_true true = refl
and_true false = refl

each_passes : {X : Type 0} (p : X → Bool) (xs : List X) → list_all p xs ≡ true → (x : X) → Contains xs x → p x ≡ true
each_passes p [] all x c = absurd (omega (arith, c.1))
each_passes p (y ∷ ys) all x (zero, l, is) = ap p (sym is) ∙ (and_parts (p y) (list_all p ys) all).0
each_passes p (y ∷ ys) all x (suc k, l, is) = each_passes p ys (and_parts (p y) (list_all p ys) all).1 x (k, omega arith, is)

passes_each : {X : Type 0} (p : X → Bool) (xs : List X) → ((x : X) → Contains xs x → p x ≡ true) → list_all p xs ≡ true
passes_each p [] each = refl
passes_each p (x ∷ xs) each = and_from (p x) (list_all p xs) (each x (zero, omega arith, refl))
    (passes_each p xs (λ y c. each y (suc c.0, omega (arith, c.1), c.2)))

pub all_listed : (test : ℕ → Ty → Bool) (e : Term) → list_all (λ v. test v.0 v.1) (variables_of e) ≡ all_variables test e
all_listed test = through (list_all (λ v. test v.0 v.1)) true and_also refl (list_all-append (λ v. test v.0 v.1)) test
    (λ number t. and_true (test number t))

pub all_is : (test : ℕ → Ty → Bool) (e : Term)
    → (all_variables test e ≡ true) ↔ ((v : Variable) → Contains (variables_of e) v → test v.0 v.1 ≡ true)
all_is test e = (
  λ all v there. each_passes (λ w. test w.0 w.1) (variables_of e) (all_listed test e ∙ all) v there,
  λ each. sym (all_listed test e) ∙ passes_each (λ w. test w.0 w.1) (variables_of e) each,
)

-- ---- trees

-- another rule for the variables, where a rule for them is there already
over_again : {A : Type 0} (of_variable other : ℕ → Ty → A) (rule : NodeOf A → A) (n : NodeOf A)
    → at_variables of_variable (at_variables other rule) n ≡ at_variables of_variable rule n
over_again of_variable other rule (nodes.Var number t) = refl
over_again of_variable other rule n = refl

append_nil : {X : Type 0} (xs : List X) → xs ++ [] ≡ xs
append_nil [] = refl
append_nil (x ∷ xs) = ap (λ ys. x ∷ ys) (append_nil xs)

pub variables_replaced : (trees : ℕ → Ty → Term) (e : Term)
    → variables_of (replaced trees e) ≡ flat_map (λ v. variables_of (trees v.0 v.1)) (variables_of e)
variables_replaced trees e =
    with_trees trees (at_variables itself (together [] joined)) (λ number t. variables_of (trees number t)) (λ number t. refl) e
    ∙ same_rule (at_variables (λ number t. variables_of (trees number t)) (at_variables itself (together [] joined)))
    (at_variables (λ number t. variables_of (trees number t)) (together [] joined)) (over_again (λ number t. variables_of (trees number t)) itself (together [] joined)) e
    ∙ sym (through (flat_map (λ v. variables_of (trees v.0 v.1))) [] joined refl (flat_map-append (λ v. variables_of (trees v.0 v.1)))
    (λ number t. variables_of (trees number t)) (λ number t. append_nil (variables_of (trees number t))) e)

-- ---- nodes

split_list : {B C : Type 0} (p : C → ℕ) (k l m : B → C) → ((b : B) → p (k b) ≡ plus (p (l b)) (p (m b))) → (bs : List B)
    → all_together 0 plus p (map k bs) ≡ plus (all_together 0 plus p (map l bs)) (all_together 0 plus p (map m bs))
split_list p k l m splits [] = refl
split_list p k l m splits (b ∷ bs) = omega (arith, splits b, split_list p k l m splits bs)

abbrev sum : {A : Type 0} → (A → ℕ) → (A → ℕ) → A → ℕ
sum f g e = plus (f e) (g e)

module _ {A : Type 0} (f g : A → ℕ) where
  split_addend : (a : Addend A) → addend_part (addend_with (sum f g) a) ≡ plus (addend_part (addend_with f a)) (addend_part (addend_with g a))
  split_addend (addends.Plus e) = refl
  split_addend (addends.Minus e) = refl

  split_factor : (a : Factor A)
      → factor_part 0 (factor_with (sum f g) a) ≡ plus (factor_part 0 (factor_with f a)) (factor_part 0 (factor_with g a))
  split_factor (factors.Times e) = refl
  split_factor (factors.Over d) = refl

  split_parts : (es : List A) → all_together 0 plus (λ n. n) (map (sum f g) es)
      ≡ plus (all_together 0 plus (λ n. n) (map f es)) (all_together 0 plus (λ n. n) (map g es))
  split_parts = split_list (λ n. n) (sum f g) f g (λ e. refl)

  split_form : (n : NodeOf A) → together 0 plus (node_with (sum f g) n) ≡ plus (together 0 plus (node_with f n)) (together 0 plus (node_with g n))
  split_form (nodes.Literal n) = refl
  split_form (nodes.Flag flag) = refl
  split_form (nodes.Case family cases index) = refl
  split_form (nodes.Var number t) = refl
  split_form (nodes.Or es) = split_parts es
  split_form (nodes.And es) = split_parts es
  split_form (nodes.Not e) = refl
  split_form (nodes.Compare test a b) = omega arith
  split_form (nodes.Sum e more) = omega (arith, split_list addend_part (addend_with (sum f g)) (addend_with f) (addend_with g) split_addend more)
  split_form (nodes.Product e more) =
      omega (arith, split_list (factor_part 0) (factor_with (sum f g)) (factor_with f) (factor_with g) split_factor more)
  split_form (nodes.Neg e) = refl
  split_form (nodes.Field e k) = refl
  split_form (nodes.Tuple es) = split_parts es
  split_form (nodes.If choices e) = omega (
    arith,
    split_list (choice_parts plus) (choice_with (sum f g)) (choice_with f) (choice_with g) (λ c. omega arith) choices,
  )
  split_form (nodes.Table keys rows) = omega (
    arith,
    split_list (λ key. key.expr) (key_with (sum f g)) (key_with f) (key_with g) (λ key. refl) keys,
    split_parts rows,
  )
  split_form (nodes.Ratio x y z) = omega arith
  split_form (nodes.Min a b) = omega arith
  split_form (nodes.Max a b) = omega arith
  split_form (nodes.Clamp low high e) = refl

-- the values of keys don't rest on what the parts are
key_values_same : {A B : Type 0} (f : A → B) (n : NodeOf A) → key_values (node_with f n) ≡ key_values n
key_values_same f (nodes.Table keys rows) = ap (λ n. n * length (map (key_with f) keys)) (length-map rows f) ∙ ap (λ n. length rows * n) (length-map keys (key_with f))
key_values_same f n = refl

abbrev counted : (ℕ → Ty → ℕ) → NodeOf ℕ → ℕ
counted many = at_variables many (λ n. nodes_below n + 1)

nodes_split : {A : Type 0} (f g : A → ℕ) (many : ℕ → Ty → ℕ) (n : NodeOf A)
    → counted many (node_with (sum f g) n)
    ≡ counted (λ number t. 0) (node_with f n) + at_variables many (together 0 plus) (node_with g n)
nodes_split f g many (nodes.Var number t) = omega arith
nodes_split f g many n = omega (arith, split_form f g n, key_values_same (sum f g) n, key_values_same f n)

pub nodes_linear : (many : ℕ → Ty → ℕ) (e : Term)
    → nodes_with many e ≡ nodes_with (λ number t. 0) e + sum_by (λ v. many v.0 v.1) (variables_of e)
nodes_linear many e =
    term_induction (λ e. nodes_with many e ≡ nodes_with (λ number t. 0) e + by_rule (at_variables many (together 0 plus)) e)
    (λ n is. fold_of_node (counted many) n
    ∙ ap (counted many) (agree (nodes_with many)
    (sum (nodes_with (λ number t. 0)) (by_rule (at_variables many (together 0 plus)))) n is)
    ∙ nodes_split (nodes_with (λ number t. 0)) (by_rule (at_variables many (together 0 plus))) many n
    ∙ sym (λ i. fold_of_node (counted (λ number t. 0)) n i + fold_of_node (at_variables many (together 0 plus)) n i)) e
    ∙ ap (λ k. nodes_with (λ number t. 0) e + k) (sym (through (sum_by (λ v. many v.0 v.1)) 0 plus refl
    (sum_by-append (λ v. many v.0 v.1)) many (λ number t. omega arith) e))
