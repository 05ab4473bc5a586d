-- The numbers of an expression's variables, form by form, and such numbers in order.
use Rattle.std.proofs.Common.{◌≡◌, ◌∙◌, ℕ, ◌<◌, List, [], ◌∷◌, ◌++◌, map, eqb, refl, ap, sym}
use Rattle.std.proofs.Common.{arith, nat_cmp, Less, append-nil, append_assoc}
use Rattle.std.specs.Prelude.{AllPairs, Contains, IsPermutation, IsSorted, flat_map, ◌↔◌}
use Rattle.std.specs.List.{dedup}
use Rattle.std.proofs.lemmas.Bool.Decides.{nat_tests}
use Rattle.std.proofs.lemmas.Cmp.{nat_cmp_total}
use Rattle.std.proofs.lemmas.List.{map-append}
use Rattle.std.proofs.lemmas.List.Kept.{Contains-dedup_nat, Contains-from_dedup, IsStrictlySortedBy-dedup}
use Rattle.std.proofs.lemmas.List.Sorted.{Contains-permutation, IsPermutation-sym}
use Rattle.std.proofs.lemmas.Map.Keys.{Less-from_sorted}
use Rattle.og_expr.specs.declared.node.NodeOf.{NodeOf}
use Rattle.og_expr.specs.declared.node.NodeOf.TheVariants as nodes
use Rattle.og_expr.specs.declared.node.Term.{Term}
use Rattle.og_expr.specs.Terms.{term_of}
use Rattle.og_expr.specs.Parts.{all_together, addend_part, factor_part, choice_parts, together}
use Rattle.og_expr.specs.Levels.{addend_with, factor_with, choice_with, key_with, node_with, fold_of_node}
use Rattle.og_expr.specs.Variables.{at_variables, numbers_of}
use Rattle.og_expr.proofs.Occurrences.{through}
use Rattle.og_expr.proofs.Replacing.{by_rule}

-- ---- forms

abbrev both : List ℕ → List ℕ → List ℕ
both ms ns = ms ++ ns

abbrev rule : NodeOf (List ℕ) → List ℕ
rule = at_variables (λ number t. number ∷ []) (together [] both)

numbers_by_rule : (e : Term) → numbers_of e ≡ by_rule rule e
numbers_by_rule =
    through (map (λ v. v.0)) [] both refl (map-append (λ v. v.0)) (λ number t. number ∷ []) (λ number t. refl)

numbers_node : (n : NodeOf Term) → numbers_of (term_of n) ≡ rule (node_with numbers_of n)
numbers_node n =
    numbers_by_rule (term_of n) ∙ fold_of_node rule n ∙ sym (λ i. rule (node_with (λ e. numbers_by_rule e i) n))

-- the numbers with those of a form behind them, as a walk through the form adds them
abbrev pub added : List ℕ → NodeOf Term → List ℕ
added ms (nodes.Literal n) = ms
added ms (nodes.Flag flag) = ms
added ms (nodes.Case family cases index) = ms
added ms (nodes.Var number t) = ms ++ number ∷ []
added ms (nodes.Or es) = ms ++ flat_map numbers_of es
added ms (nodes.And es) = ms ++ flat_map numbers_of es
added ms (nodes.Not e) = ms ++ numbers_of e
added ms (nodes.Compare test a b) = (ms ++ numbers_of a) ++ numbers_of b
added ms (nodes.Sum e more) = (ms ++ numbers_of e) ++ flat_map (λ a. addend_part (addend_with numbers_of a)) more
added ms (nodes.Product e more) =
    (ms ++ numbers_of e) ++ flat_map (λ a. factor_part [] (factor_with numbers_of a)) more
added ms (nodes.Neg e) = ms ++ numbers_of e
added ms (nodes.Field e k) = ms ++ numbers_of e
added ms (nodes.Tuple es) = ms ++ flat_map numbers_of es
added ms (nodes.If choices e) = (ms ++ flat_map (λ c. numbers_of c.cond ++ numbers_of c.body) choices) ++ numbers_of e
added ms (nodes.Table keys rows) = (ms ++ flat_map (λ key. numbers_of key.expr) keys) ++ flat_map numbers_of rows
added ms (nodes.Ratio x y z) = ((ms ++ numbers_of x) ++ numbers_of y) ++ numbers_of z
added ms (nodes.Min a b) = (ms ++ numbers_of a) ++ numbers_of b
added ms (nodes.Max a b) = (ms ++ numbers_of a) ++ numbers_of b
added ms (nodes.Clamp low high e) = ms ++ numbers_of e

flattened : {B C : Type 0} (f : C → List ℕ) (k : B → C) (bs : List B)
    → all_together [] both f (map k bs) ≡ flat_map (λ b. f (k b)) bs
flattened f k [] = refl
flattened f k (b ∷ bs) = ap (both (f (k b))) (flattened f k bs)

one_list : (ms : List ℕ) (es : List Term)
    → ms ++ all_together [] both (λ ns. ns) (map numbers_of es) ≡ ms ++ flat_map numbers_of es
one_list ms es = ap (both ms) (flattened (λ ns. ns) numbers_of es)

two : (ms ns ps : List ℕ) → ms ++ (ns ++ ps) ≡ (ms ++ ns) ++ ps
two ms ns ps = sym (append_assoc ms ns ps)

added_rule : (ms : List ℕ) (n : NodeOf Term) → ms ++ rule (node_with numbers_of n) ≡ added ms n
added_rule ms (nodes.Literal n) = append-nil ms
added_rule ms (nodes.Flag flag) = append-nil ms
added_rule ms (nodes.Case family cases index) = append-nil ms
added_rule ms (nodes.Var number t) = refl
added_rule ms (nodes.Or es) = one_list ms es
added_rule ms (nodes.And es) = one_list ms es
added_rule ms (nodes.Not e) = refl
added_rule ms (nodes.Compare test a b) = two ms _ _
added_rule ms (nodes.Sum e more) =
    two ms _ _ ∙ ap (both (ms ++ numbers_of e)) (flattened addend_part (addend_with numbers_of) more)
added_rule ms (nodes.Product e more) =
    two ms _ _ ∙ ap (both (ms ++ numbers_of e)) (flattened (factor_part []) (factor_with numbers_of) more)
added_rule ms (nodes.Neg e) = refl
added_rule ms (nodes.Field e k) = refl
added_rule ms (nodes.Tuple es) = one_list ms es
added_rule ms (nodes.If choices e) =
    two ms _ _ ∙ ap (λ ns. (ms ++ ns) ++ numbers_of e) (flattened (choice_parts both) (choice_with numbers_of) choices)
added_rule ms (nodes.Table keys rows) =
    two ms _ _ ∙ one_list _ rows
    ∙ ap (λ ns. (ms ++ ns) ++ flat_map numbers_of rows) (flattened (λ key. key.expr) (key_with numbers_of) keys)
added_rule ms (nodes.Ratio x y z) = two ms _ _ ∙ two (ms ++ numbers_of x) _ _
added_rule ms (nodes.Min a b) = two ms _ _
added_rule ms (nodes.Max a b) = two ms _ _
added_rule ms (nodes.Clamp low high e) = refl

pub added_node : (ms : List ℕ) (n : NodeOf Term) → ms ++ numbers_of (term_of n) ≡ added ms n
added_node ms n = ap (both ms) (numbers_node n) ∙ added_rule ms n

-- ---- order

below : (m n : ℕ) → nat_cmp m n ≡ Less → m < n
below m n less = grind (arith, nat_tests)

-- one of each of sorted numbers
pub ascends : (ns : List ℕ) → IsSorted nat_cmp ns → AllPairs (λ m n. m < n) (dedup eqb ns)
ascends ns sorted i j d lt within =
    let strict = IsStrictlySortedBy-dedup nat_cmp_total (λ x y. grind (arith, nat_tests)) ns sorted in
    below _ _ (Less-from_sorted nat_cmp (dedup eqb ns) i j d strict lt within)

-- which has the numbers from before the sort
pub same_numbers : (ms ns : List ℕ) → IsPermutation ms ns → (n : ℕ) → Contains (dedup eqb ns) n ↔ Contains ms n
same_numbers ms ns moved n = (
  λ h. Contains-permutation ns ms n (IsPermutation-sym ms ns moved) (Contains-from_dedup eqb ns n h),
  λ h. Contains-dedup_nat ns n (Contains-permutation ms ns n moved h),
)
