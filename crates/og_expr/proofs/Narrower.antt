-- The bounds of an expression's type, and the type of an expression with trees for its variables.
use Rattle.std.proofs.Common.{◌≡◌, ◌∙◌, ◌⊎◌, inl, inr, ℕ, zero, suc, ℤ, pos, arith, Bool, true, false, List, [], ◌∷◌, ◌++◌, map, length, refl, ap, sym, subst, true≢false}
use Rattle.std.specs.Prelude.{◌^◌, ◌&&◌, if◌then◌else◌, nat_lt, nat_le, int_le, ◌-ℤ◌, unsigned_abs, Option, Some, None, is_some, option_and_then, slice_get, IsSomeAnd}
use Rattle.std.specs.Option.{option_map}
use Rattle.std.specs.List.{list_all, AllByRecursion}
use Rattle.std.specs.Cmp.Lexicographic.{pointwise}
use Rattle.std.proofs.lemmas.Bool.{and_parts, and_from}
use Rattle.std.proofs.lemmas.Int.{ints}
use Rattle.std.proofs.lemmas.List.{length-map}
use Rattle.std.proofs.lemmas.Option.{same_Some, none-some, cond_some}
use Rattle.og_types.specs.declared.ty.Ty.{Ty}
use Rattle.og_types.specs.declared.ty.Ty.TheOpen.{Ty-F}
use Rattle.og_types.specs.declared.ty.Ty.TheOpen as one
use Rattle.og_types.specs.declared.ty.Ty.TheViews.{out-Ty, roll-Ty, roll-out-Ty}
use Rattle.og_types.specs.declared.ty.Ty.TheVariants as ty
use Rattle.og_types.specs.Ty.{fits, join, bounds_fit}
use Rattle.og_types.proofs.FitsLaws.{fits_itself, fits_along}
use Rattle.og_types.proofs.JoinLaws.{join_fits, join_least, join_bounds}
use Rattle.og_types.proofs.TyLevels.{bounds_fit_enum, bounds_fit_bool, bounds_fit_range, bounds_fit_number, bounds_fit_tuple, fits_tuples}
use Rattle.og_types.proofs.Forms.{fits_ranges, fits_range_number, fits_number, fits_into_range, fits_into_number, fits_into_tuple}
use Rattle.og_expr.specs.declared.node.NodeOf.{NodeOf}
use Rattle.og_expr.specs.declared.node.NodeOf.TheVariants as nodes
use Rattle.og_expr.specs.declared.node.Addend.{Addend}
use Rattle.og_expr.specs.declared.node.Addend.TheVariants as addends
use Rattle.og_expr.specs.declared.node.Factor.{Factor}
use Rattle.og_expr.specs.declared.node.Factor.TheVariants as factors
use Rattle.og_expr.specs.declared.node.Choice.{Choice}
use Rattle.og_expr.specs.declared.node.Key.{Key}
use Rattle.og_expr.specs.declared.node.Term.{Term}
use Rattle.og_expr.specs.declared.node.Test.{Test}
use Rattle.og_expr.specs.Terms.{term_of}
use Rattle.og_expr.specs.Levels.{addend_with, factor_with, choice_with, key_with, node_with, fold_of_node}
use Rattle.og_expr.specs.Types.{typed_if, goes_as, is_word, join_both, join_onto, join_all, each_of, is_equality, compares, addend_fits, factor_fits, negated, component, key_fits, has_rows, type_rule, type_of}
use Rattle.og_expr.specs.Parts.{together}
use Rattle.og_expr.specs.Variables.{at_variables, and_also, all_variables}
use Rattle.og_expr.specs.Replaced.{replaced}
use Rattle.og_expr.proofs.Induction.{OfAddend, OfFactor, OfChoice, OfKey, PartsOf, term_induction, twice}
use Rattle.og_expr.proofs.Tested.{Where, where_of_form}

-- ---- lists of parts, of branches and of rows

all_mapped : {A B : Type 0} (P : B → Type 0) (f : A → B) (es : List A) → AllByRecursion (λ e. P (f e)) es
    → AllByRecursion P (map f es)
all_mapped P f [] all = tt
all_mapped P f (e ∷ es) all = (all.0, all_mapped P f es all.1)

-- the branches of the choices, and the last one
abbrev branches : {A : Type 0} → List (Choice A) → A → List A
branches [] e = e ∷ []
branches (c ∷ choices) e = c.body ∷ branches choices e

branches_with : {A B : Type 0} (f : A → B) (choices : List (Choice A)) (e : A)
    → map (λ c. c.body) (map (choice_with f) choices) ++ f e ∷ [] ≡ map f (branches choices e)
branches_with f [] e = refl
branches_with f (c ∷ choices) e = ap (λ l. f c.body ∷ l) (branches_with f choices e)

all_branches : {A : Type 0} (P : A → Type 0) (choices : List (Choice A)) (e : A)
    → AllByRecursion (OfChoice P) choices → P e → AllByRecursion P (branches choices e)
all_branches P [] e all last = (last, tt)
all_branches P (c ∷ choices) e all last = (all.0.1, all_branches P choices e all.1 last)

pub key_types_with : {A B : Type 0} (f : A → B) (keys : List (Key A))
    → map (λ key. key.ty) (map (key_with f) keys) ≡ map (λ key. key.ty) keys
key_types_with f [] = refl
key_types_with f (key ∷ keys) = ap (λ l. key.ty ∷ l) (key_types_with f keys)

-- ---- what the type of a form with one part says of the part's type

-- the rule for negation at a type's form
abbrev negated_at : Ty-F Ty → Option Ty
negated_at z =
    elim z [
      | one.Range low high ↦ typed_if (is_word low && is_word high) (ty.Range (pos 0 -ℤ high) (pos 0 -ℤ low))
      | one.Number ↦ Some ty.Number
      | _ ↦ None
    ]

abbrev NegatedRange : Ty → Ty → Type 0
NegatedRange t w =
    (low : ℤ) × (high : ℤ) × (t ≡ ty.Range low high) × (w ≡ ty.Range (pos 0 -ℤ high) (pos 0 -ℤ low))
    × (is_word low ≡ true) × (is_word high ≡ true)

pub negated_some : (t w : Ty) → negated t ≡ Some w → NegatedRange t w ⊎ ((t ≡ ty.Number) × (w ≡ ty.Number))
negated_some t w is = by (out-Ty t) (roll-out-Ty t) is
  where
    by : (z : Ty-F Ty) → roll-Ty z ≡ t → negated_at z ≡ Some w → NegatedRange t w ⊎ ((t ≡ ty.Number) × (w ≡ ty.Number))
    by (one.Range low high) e k =
        let both = cond_some (is_word low && is_word high) (ty.Range (pos 0 -ℤ high) (pos 0 -ℤ low)) w k in
        let words = and_parts (is_word low) (is_word high) both.0 in
        inl (low, high, sym e ∙ ty.rolls-Range low high, sym both.1, words.0, words.1)
    by one.Number e k = inr (sym e ∙ ty.rolls-Number, sym (same_Some ty.Number w k))
    by _ e k = absurd (none-some w k)

negated_range : (low high : ℤ) → is_word low ≡ true → is_word high ≡ true
    → negated (ty.Range low high) ≡ Some (ty.Range (pos 0 -ℤ high) (pos 0 -ℤ low))
negated_range low high p q =
    ap negated_at (ty.outs-Range low high)
    ∙ ap (λ b. typed_if b (ty.Range (pos 0 -ℤ high) (pos 0 -ℤ low))) (and_from (is_word low) (is_word high) p q)

negated_number : negated ty.Number ≡ Some ty.Number
negated_number = ap negated_at ty.outs-Number

abbrev component_at : ℕ → Ty-F Ty → Option Ty
component_at k z =
    elim z [
      | one.Tuple ts ↦ slice_get ts k
      | _ ↦ None
    ]

pub component_some : (k : ℕ) (t w : Ty) → component k t ≡ Some w
    → (ts : List Ty) × (t ≡ ty.Tuple ts) × (slice_get ts k ≡ Some w)
component_some k t w is = by (out-Ty t) (roll-out-Ty t) is
  where
    by : (z : Ty-F Ty) → roll-Ty z ≡ t → component_at k z ≡ Some w
        → (ts : List Ty) × (t ≡ ty.Tuple ts) × (slice_get ts k ≡ Some w)
    by (one.Tuple ts) e m = (ts, sym e ∙ ty.rolls-Tuple ts, m)
    by _ e m = absurd (none-some w m)

component_tuple : (k : ℕ) (ts : List Ty) → component k (ty.Tuple ts) ≡ slice_get ts k
component_tuple k ts = ap (component_at k) (ty.outs-Tuple ts)

-- ---- the bounds of a type

-- the bounds fit, where there is a type
abbrev pub Bounded : Option Ty → Type 0
Bounded o = (t : Ty) → o ≡ Some t → bounds_fit t ≡ true

bounded_none : Bounded None
bounded_none t is = absurd (none-some t is)

pub bounded_some : (t : Ty) → bounds_fit t ≡ true → Bounded (Some t)
bounded_some t fit w is = subst (λ u. bounds_fit u ≡ true) (same_Some t w is) fit

bounded_if : (b : Bool) (o : Option Ty) → (b ≡ true → Bounded o) → Bounded (if b then o else None)
bounded_if true o fit = fit refl
bounded_if false o fit = bounded_none

bounded_typed : (b : Bool) (t : Ty) → (b ≡ true → bounds_fit t ≡ true) → Bounded (typed_if b t)
bounded_typed b t fit = bounded_if b (Some t) (λ is. bounded_some t (fit is))

bounded_bool : (b : Bool) → Bounded (typed_if b ty.Bool)
bounded_bool b = bounded_typed b ty.Bool (λ is. bounds_fit_bool)

bounded_number : (b : Bool) → Bounded (typed_if b ty.Number)
bounded_number b = bounded_typed b ty.Number (λ is. bounds_fit_number)

range_bounds : (low high : ℤ) → is_word low ≡ true → is_word high ≡ true → bounds_fit (ty.Range low high) ≡ true
range_bounds low high p q = bounds_fit_range low high ∙ and_from (is_word low) (is_word high) p q

opposite_small : (a : ℤ) (n : ℕ) → nat_lt (unsigned_abs a) n ≡ true → nat_lt (unsigned_abs (pos 0 -ℤ a)) n ≡ true
opposite_small a n p = grind (arith, ints)

pub negated_bounds : (t : Ty) → Bounded (negated t)
negated_bounds t w is =
    elim (negated_some t w is) [
      | inl (low, high, e, same, p, q) ↦
          ap bounds_fit same
          ∙ range_bounds (pos 0 -ℤ high) (pos 0 -ℤ low) (opposite_small high (2 ^ 63) q) (opposite_small low (2 ^ 63) p)
      | inr (e, same) ↦ ap bounds_fit same ∙ bounds_fit_number
    ]

got_bounds : (ts : List Ty) (k : ℕ) → list_all bounds_fit ts ≡ true → Bounded (slice_get ts k)
got_bounds [] k all = bounded_none
got_bounds (t ∷ ts) zero all = bounded_some t (and_parts (bounds_fit t) (list_all bounds_fit ts) all).0
got_bounds (t ∷ ts) (suc k) all = got_bounds ts k (and_parts (bounds_fit t) (list_all bounds_fit ts) all).1

pub component_bounds : (k : ℕ) (t : Ty) → bounds_fit t ≡ true → Bounded (component k t)
component_bounds k t fit w is =
    let at_tuple = component_some k t w is in
    got_bounds at_tuple.0 k (sym (bounds_fit_tuple at_tuple.0) ∙ ap bounds_fit (sym at_tuple.1) ∙ fit) w at_tuple.2

then_bounds : (f : Ty → Option Ty) (o : Option Ty) → ((t : Ty) → bounds_fit t ≡ true → Bounded (f t)) → Bounded o
    → Bounded (option_and_then f o)
then_bounds f None fit all = bounded_none
then_bounds f (Some t) fit all = fit t (all t refl)

join_both_bounds : (o p : Option Ty) → Bounded o → Bounded p → Bounded (join_both o p)
join_both_bounds None p first second w is = absurd (none-some w is)
join_both_bounds (Some t) None first second w is = absurd (none-some w is)
join_both_bounds (Some t) (Some u) first second w is = join_bounds t u w (first t refl) (second u refl) is

join_onto_bounds : (o : Option Ty) (os : List (Option Ty)) → Bounded o → AllByRecursion Bounded os
    → Bounded (join_onto o os)
join_onto_bounds o [] first all = first
join_onto_bounds o (p ∷ os) first all = join_onto_bounds (join_both o p) os (join_both_bounds o p first all.0) all.1

join_all_bounds : (os : List (Option Ty)) → AllByRecursion Bounded os → Bounded (join_all os)
join_all_bounds [] all = bounded_none
join_all_bounds (o ∷ os) all = join_onto_bounds o os all.0 all.1

-- the same of the types of components
abbrev EachBounded : Option (List Ty) → Type 0
EachBounded os = (ts : List Ty) → os ≡ Some ts → list_all bounds_fit ts ≡ true

first_bounds : (o : Option Ty) (os : Option (List Ty)) → Bounded o → EachBounded os
    → EachBounded (option_and_then (λ a. option_map (λ as'. a ∷ as') os) o)
first_bounds None os first rest ts is = absurd (none-some ts is)
first_bounds (Some t) None first rest ts is = absurd (none-some ts is)
first_bounds (Some t) (Some us) first rest ts is =
    subst (λ l. list_all bounds_fit l ≡ true) (same_Some (t ∷ us) ts is)
    (and_from (bounds_fit t) (list_all bounds_fit us) (first t refl) (rest us refl))

each_bounds : (os : List (Option Ty)) → AllByRecursion Bounded os → EachBounded (each_of os)
each_bounds [] all ts is = ap (list_all bounds_fit) (sym (same_Some [] ts is))
each_bounds (o ∷ os) all ts is = first_bounds o (each_of os) all.0 (each_bounds os all.1) ts is

tuple_bounds : (os : Option (List Ty)) → EachBounded os → Bounded (option_map ty.Tuple os)
tuple_bounds None all = bounded_none
tuple_bounds (Some ts) all = bounded_some (ty.Tuple ts) (bounds_fit_tuple ts ∙ all ts refl)

-- where the types of the parts have bounds that fit, so has the type of a form
bounds_rule : {A : Type 0} (f : A → Option Ty) (n : NodeOf A) → PartsOf (λ e. Bounded (f e)) n
    → Bounded (type_rule (node_with f n))
bounds_rule f (nodes.Literal n) all = bounded_typed (is_word n) (ty.Range n n) (λ is. range_bounds n n is is)
bounds_rule f (nodes.Flag flag) all = bounded_some ty.Bool bounds_fit_bool
bounds_rule f (nodes.Case family cases index) all =
    bounded_typed (nat_lt index cases) (ty.Enum family cases) (λ is. bounds_fit_enum family cases)
bounds_rule f (nodes.Var number t) all = bounded_typed (bounds_fit t) t (λ is. is)
bounds_rule f (nodes.Or es) all = bounded_bool _
bounds_rule f (nodes.And es) all = bounded_bool _
bounds_rule f (nodes.Not e) all = bounded_bool _
bounds_rule f (nodes.Compare test a b) all = bounded_bool _
bounds_rule f (nodes.Sum e more) all = bounded_number _
bounds_rule f (nodes.Product e more) all = bounded_number _
bounds_rule f (nodes.Neg e) all = then_bounds negated (f e) (λ t fit. negated_bounds t) all
bounds_rule f (nodes.Field e k) all =
    bounded_if (nat_lt k (2 ^ 63)) (option_and_then (component k) (f e))
    (λ is. then_bounds (component k) (f e) (component_bounds k) all)
bounds_rule f (nodes.Tuple es) all =
    bounded_if (nat_le 2 (length (map f es))) (option_map ty.Tuple (each_of (map f es)))
    (λ is. tuple_bounds (each_of (map f es)) (each_bounds (map f es) (all_mapped Bounded f es all)))
bounds_rule f (nodes.If choices e) all =
    let each = all_branches (λ e. Bounded (f e)) choices e all.0 all.1 in
    bounded_if _ _ (λ is. subst (λ l. Bounded (join_all l)) (sym (branches_with f choices e))
    (join_all_bounds (map f (branches choices e)) (all_mapped Bounded f (branches choices e) each)))
bounds_rule f (nodes.Table keys rows) all =
    bounded_if _ (join_all (map f rows)) (λ is. join_all_bounds (map f rows) (all_mapped Bounded f rows all.1))
bounds_rule f (nodes.Ratio x y z) all = bounded_number _
bounds_rule f (nodes.Min a b) all = bounded_number _
bounds_rule f (nodes.Max a b) all = bounded_number _
bounds_rule f (nodes.Clamp low high e) all =
    bounded_typed ((is_word low && is_word high) && (int_le low high && goes_as ty.Number (f e))) (ty.Range low high)
    (λ is.
    let words = and_parts (is_word low && is_word high) (int_le low high && goes_as ty.Number (f e)) is in
    let both = and_parts (is_word low) (is_word high) words.0 in
    range_bounds low high both.0 both.1)

-- A type of an expression has bounds below 2^63 in size.
pub type_bounds : (e : Term) (t : Ty) → type_of e ≡ Some t → bounds_fit t ≡ true
type_bounds = term_induction (λ e. Bounded (type_of e)) (λ n all t is.
    bounds_rule type_of n all t (sym (fold_of_node type_rule n) ∙ is))

-- ---- narrower types

-- Where there is the first type, there is the second, and it fits the first.
abbrev pub Narrower : Option Ty → Option Ty → Type 0
Narrower o p = (t : Ty) → o ≡ Some t → goes_as t p ≡ true

pub narrower_none : (p : Option Ty) → Narrower None p
narrower_none p t is = absurd (none-some t is)

pub narrower_some : (t : Ty) (p : Option Ty) → goes_as t p ≡ true → Narrower (Some t) p
narrower_some t p goes w is = subst (λ u. goes_as u p ≡ true) (same_Some t w is) goes

pub narrower_same : (o : Option Ty) → Narrower o o
narrower_same None = narrower_none None
narrower_same (Some t) = narrower_some t (Some t) (fits_itself t)

-- the same of a part
abbrev pub Narrows : {A : Type 0} → (A → Option Ty) → (A → Option Ty) → A → Type 0
Narrows f g e = Narrower (f e) (g e)

-- Where the first test passes, so does the second.
abbrev pub Kept : Bool → Bool → Type 0
Kept b c = b ≡ true → c ≡ true

both_kept : (a b c d : Bool) → Kept a c → Kept b d → Kept (a && b) (c && d)
both_kept a b c d first second is = let both = and_parts a b is in and_from c d (first both.0) (second both.1)

narrower_if : (b c : Bool) (o p : Option Ty) → Kept b c → Narrower o p
    → Narrower (if b then o else None) (if c then p else None)
narrower_if true true o p kept narrower = narrower
narrower_if true false o p kept narrower = absurd (true≢false (sym (kept refl)))
narrower_if false c o p kept narrower = narrower_none (if c then p else None)

narrower_typed : (b c : Bool) (t : Ty) → Kept b c → Narrower (typed_if b t) (typed_if c t)
narrower_typed b c t kept = narrower_if b c (Some t) (Some t) kept (narrower_same (Some t))

pub goes_kept : (w : Ty) (o p : Option Ty) → Narrower o p → Kept (goes_as w o) (goes_as w p)
goes_kept w None p narrower goes = absurd (true≢false (sym goes))
goes_kept w (Some t) None narrower goes = absurd (true≢false (sym (narrower t refl)))
goes_kept w (Some t) (Some u) narrower goes = fits_along u t w (narrower t refl) goes

some_kept : (o p : Option Ty) → Narrower o p → Kept (is_some o) (is_some p)
some_kept None p narrower is = absurd (true≢false (sym is))
some_kept (Some t) None narrower is = absurd (true≢false (sym (narrower t refl)))
some_kept (Some t) (Some u) narrower is = refl

-- ---- lists of narrower parts

-- The lists of parts are as long.
counted : {A B C : Type 0} (test : ℕ → Bool) (f : A → B) (g : A → C) (es : List A)
    → Kept (test (length (map f es))) (test (length (map g es)))
counted test f g es is = subst (λ n. test n ≡ true) (length-map es f ∙ sym (length-map es g)) is

all_kept : {A : Type 0} (w : Ty) (f g : A → Option Ty) (es : List A) → AllByRecursion (Narrows f g) es
    → Kept (list_all (goes_as w) (map f es)) (list_all (goes_as w) (map g es))
all_kept w f g [] all = λ is. is
all_kept w f g (e ∷ es) all = both_kept _ _ _ _ (goes_kept w (f e) (g e) all.0) (all_kept w f g es all.1)

addends_kept : {A : Type 0} (f g : A → Option Ty) (more : List (Addend A))
    → AllByRecursion (OfAddend (Narrows f g)) more
    → Kept (list_all addend_fits (map (addend_with f) more)) (list_all addend_fits (map (addend_with g) more))
addends_kept f g [] all = λ is. is
addends_kept f g (addends.Plus e ∷ more) all =
    both_kept _ _ _ _ (goes_kept ty.Number (f e) (g e) all.0) (addends_kept f g more all.1)
addends_kept f g (addends.Minus e ∷ more) all =
    both_kept _ _ _ _ (goes_kept ty.Number (f e) (g e) all.0) (addends_kept f g more all.1)

factors_kept : {A : Type 0} (f g : A → Option Ty) (more : List (Factor A))
    → AllByRecursion (OfFactor (Narrows f g)) more
    → Kept (list_all factor_fits (map (factor_with f) more)) (list_all factor_fits (map (factor_with g) more))
factors_kept f g [] all = λ is. is
factors_kept f g (factors.Times e ∷ more) all =
    both_kept _ _ _ _ (goes_kept ty.Number (f e) (g e) all.0) (factors_kept f g more all.1)
factors_kept f g (factors.Over d ∷ more) all = both_kept _ _ _ _ (λ fit. fit) (factors_kept f g more all.1)

-- the condition is a flag
abbrev has_flag : Choice (Option Ty) → Bool
has_flag c = goes_as ty.Bool c.cond

conditions_kept : {A : Type 0} (f g : A → Option Ty) (choices : List (Choice A))
    → AllByRecursion (OfChoice (Narrows f g)) choices
    → Kept (list_all has_flag (map (choice_with f) choices)) (list_all has_flag (map (choice_with g) choices))
conditions_kept f g [] all = λ is. is
conditions_kept f g (c ∷ choices) all =
    both_kept _ _ _ _ (goes_kept ty.Bool (f c.cond) (g c.cond) all.0.0) (conditions_kept f g choices all.1)

keys_kept : {A : Type 0} (f g : A → Option Ty) (keys : List (Key A)) → AllByRecursion (OfKey (Narrows f g)) keys
    → Kept (list_all key_fits (map (key_with f) keys)) (list_all key_fits (map (key_with g) keys))
keys_kept f g [] all = λ is. is
keys_kept f g (key ∷ keys) all =
    both_kept _ _ _ _ (both_kept _ _ _ _ (goes_kept key.ty (f key.expr) (g key.expr) all.0) (λ fit. fit))
    (keys_kept f g keys all.1)

-- The table has as many rows, and its keys are looked up in the same types.
rows_kept : {A : Type 0} (f g : A → Option Ty) (keys : List (Key A)) (rows : List A)
    → Kept (has_rows (map (λ key. key.ty) (map (key_with f) keys)) (length (map f rows)))
    (has_rows (map (λ key. key.ty) (map (key_with g) keys)) (length (map g rows)))
rows_kept f g keys rows is =
    counted (has_rows (map (λ key. key.ty) (map (key_with g) keys))) f g rows
    (subst (λ ts. has_rows ts (length (map f rows)) ≡ true) (key_types_with f keys ∙ sym (key_types_with g keys)) is)

-- ---- joins of narrower types

pub narrower_join : (o p u v : Option Ty) → Narrower o u → Narrower p v → Narrower (join_both o p) (join_both u v)
narrower_join None p u v first second w is = absurd (none-some w is)
narrower_join (Some t) None u v first second w is = absurd (none-some w is)
narrower_join (Some t) (Some s) None v first second w is = absurd (true≢false (sym (first t refl)))
narrower_join (Some t) (Some s) (Some u) None first second w is = absurd (true≢false (sym (second s refl)))
narrower_join (Some t) (Some s) (Some u) (Some v) first second w is =
    let both = join_fits t s w is in
    least (join u v)
    (join_least u v w (fits_along u t w (first t refl) both.0) (fits_along v s w (second s refl) both.1))
  where
    least : (o : Option Ty) → IsSomeAnd o (λ l. fits l w ≡ true) → goes_as w o ≡ true
    least None h = absurd h
    least (Some l) h = h

narrower_onto : {A : Type 0} (f g : A → Option Ty) (es : List A) (o p : Option Ty) → Narrower o p
    → AllByRecursion (Narrows f g) es → Narrower (join_onto o (map f es)) (join_onto p (map g es))
narrower_onto f g [] o p first all = first
narrower_onto f g (e ∷ es) o p first all =
    narrower_onto f g es (join_both o (f e)) (join_both p (g e)) (narrower_join o (f e) p (g e) first all.0) all.1

narrower_all : {A : Type 0} (f g : A → Option Ty) (es : List A)
    → AllByRecursion (Narrows f g) es → Narrower (join_all (map f es)) (join_all (map g es))
narrower_all f g [] all = narrower_none None
narrower_all f g (e ∷ es) all = narrower_onto f g es (f e) (g e) all.0 all.1

narrower_branches : {A : Type 0} (f g : A → Option Ty) (choices : List (Choice A)) (e : A)
    → AllByRecursion (OfChoice (Narrows f g)) choices → Narrower (f e) (g e)
    → Narrower (join_all (map (λ c. c.body) (map (choice_with f) choices) ++ f e ∷ []))
    (join_all (map (λ c. c.body) (map (choice_with g) choices) ++ g e ∷ []))
narrower_branches f g choices e all last =
    subst (λ l. Narrower (join_all l) (join_all (map (λ c. c.body) (map (choice_with g) choices) ++ g e ∷ [])))
    (sym (branches_with f choices e))
    (subst (λ l. Narrower (join_all (map f (branches choices e))) (join_all l)) (sym (branches_with g choices e))
    (narrower_all f g (branches choices e) (all_branches (Narrows f g) choices e all last)))

-- ---- narrower types of the components of a tuple

abbrev go_as : List Ty → Option (List Ty) → Bool
go_as ts None = false
go_as ts (Some us) = pointwise fits us ts

abbrev EachNarrower : Option (List Ty) → Option (List Ty) → Type 0
EachNarrower os ps = (ts : List Ty) → os ≡ Some ts → go_as ts ps ≡ true

narrower_first : (o p : Option Ty) (os ps : Option (List Ty)) → Narrower o p → EachNarrower os ps
    → EachNarrower (option_and_then (λ a. option_map (λ as'. a ∷ as') os) o)
    (option_and_then (λ a. option_map (λ as'. a ∷ as') ps) p)
narrower_first None p os ps first rest ts is = absurd (none-some ts is)
narrower_first (Some t) p None ps first rest ts is = absurd (none-some ts is)
narrower_first (Some t) None (Some us) ps first rest ts is = absurd (true≢false (sym (first t refl)))
narrower_first (Some t) (Some s) (Some us) None first rest ts is = absurd (true≢false (sym (rest us refl)))
narrower_first (Some t) (Some s) (Some us) (Some vs) first rest ts is =
    subst (λ l. pointwise fits (s ∷ vs) l ≡ true) (same_Some (t ∷ us) ts is)
    (and_from (fits s t) (pointwise fits vs us) (first t refl) (rest us refl))

narrower_each : {A : Type 0} (f g : A → Option Ty) (es : List A)
    → AllByRecursion (Narrows f g) es → EachNarrower (each_of (map f es)) (each_of (map g es))
narrower_each f g [] all ts is = subst (λ l. pointwise fits [] l ≡ true) (same_Some [] ts is) refl
narrower_each f g (e ∷ es) all ts is =
    narrower_first (f e) (g e) (each_of (map f es)) (each_of (map g es)) all.0 (narrower_each f g es all.1) ts is

narrower_tuple : (os ps : Option (List Ty)) → EachNarrower os ps
    → Narrower (option_map ty.Tuple os) (option_map ty.Tuple ps)
narrower_tuple None ps all = narrower_none (option_map ty.Tuple ps)
narrower_tuple (Some ts) None all = absurd (true≢false (sym (all ts refl)))
narrower_tuple (Some ts) (Some us) all =
    narrower_some (ty.Tuple ts) (Some (ty.Tuple us)) (fits_tuples us ts ∙ all ts refl)

pub got_narrower : (us ts : List Ty) (k : ℕ) → pointwise fits us ts ≡ true → Narrower (slice_get ts k) (slice_get us k)
got_narrower us [] k fit = narrower_none (slice_get us k)
got_narrower [] (t ∷ ts) k fit = absurd (true≢false (sym fit))
got_narrower (u ∷ us) (t ∷ ts) zero fit = narrower_some t (Some u) (and_parts (fits u t) (pointwise fits us ts) fit).0
got_narrower (u ∷ us) (t ∷ ts) (suc k) fit = got_narrower us ts k (and_parts (fits u t) (pointwise fits us ts) fit).1

component_narrower : (k : ℕ) (t u : Ty) → fits u t ≡ true → Narrower (component k t) (component k u)
component_narrower k t u fit w is =
    let old = component_some k t w is in
    let new = fits_into_tuple old.0 u (ap (fits u) (sym old.1) ∙ fit) in
    ap (λ s. goes_as w (component k s)) new.1 ∙ ap (goes_as w) (component_tuple k new.0)
    ∙ got_narrower new.0 old.0 k new.2 w old.2

pub narrower_component : (k : ℕ) (o p : Option Ty) → Narrower o p
    → Narrower (option_and_then (component k) o) (option_and_then (component k) p)
narrower_component k None p narrower = narrower_none (option_and_then (component k) p)
narrower_component k (Some t) None narrower = absurd (true≢false (sym (narrower t refl)))
narrower_component k (Some t) (Some u) narrower = component_narrower k t u (narrower t refl)

-- ---- the opposite of a narrower type

opposite_le : (a b : ℤ) → int_le a b ≡ true → int_le (pos 0 -ℤ b) (pos 0 -ℤ a) ≡ true
opposite_le a b p = grind (arith, ints)

-- the opposite of a range that has words as its bounds
range_opposite : (low high : ℤ) (w : Ty) → bounds_fit (ty.Range low high) ≡ true
    → fits (ty.Range (pos 0 -ℤ high) (pos 0 -ℤ low)) w ≡ true → goes_as w (negated (ty.Range low high)) ≡ true
range_opposite low high w fit goes =
    let words = and_parts (is_word low) (is_word high) (sym (bounds_fit_range low high) ∙ fit) in
    ap (goes_as w) (negated_range low high words.0 words.1) ∙ goes

range_narrower : (from to : ℤ) (u : Ty) → fits u (ty.Range from to) ≡ true → bounds_fit u ≡ true
    → goes_as (ty.Range (pos 0 -ℤ to) (pos 0 -ℤ from)) (negated u) ≡ true
range_narrower from to u fit bounds =
    let new = fits_into_range from to u fit in
    ap (λ s. goes_as (ty.Range (pos 0 -ℤ to) (pos 0 -ℤ from)) (negated s)) new.2
    ∙ range_opposite new.0 new.1 (ty.Range (pos 0 -ℤ to) (pos 0 -ℤ from)) (ap bounds_fit (sym new.2) ∙ bounds)
    (fits_ranges (pos 0 -ℤ new.1) (pos 0 -ℤ new.0) (pos 0 -ℤ to) (pos 0 -ℤ from)
    ∙ and_from (int_le (pos 0 -ℤ to) (pos 0 -ℤ new.1)) (int_le (pos 0 -ℤ new.0) (pos 0 -ℤ from))
    (opposite_le new.1 to new.4) (opposite_le from new.0 new.3))

number_narrower : (u : Ty) → fits u ty.Number ≡ true → bounds_fit u ≡ true → goes_as ty.Number (negated u) ≡ true
number_narrower u fit bounds =
    elim (fits_into_number u fit) [
      | inl same ↦ ap (λ s. goes_as ty.Number (negated s)) same ∙ ap (goes_as ty.Number) negated_number ∙ fits_number
      | inr (low, high, same) ↦
          ap (λ s. goes_as ty.Number (negated s)) same
          ∙ range_opposite low high ty.Number (ap bounds_fit (sym same) ∙ bounds)
          (fits_range_number (pos 0 -ℤ high) (pos 0 -ℤ low))
    ]

negated_narrower : (t u : Ty) → fits u t ≡ true → bounds_fit u ≡ true → Narrower (negated t) (negated u)
negated_narrower t u fit bounds w is =
    elim (negated_some t w is) [
      | inl (low, high, e, same, p, q) ↦
          ap (λ s. goes_as s (negated u)) same ∙ range_narrower low high u (ap (fits u) (sym e) ∙ fit) bounds
      | inr (e, same) ↦ ap (λ s. goes_as s (negated u)) same ∙ number_narrower u (ap (fits u) (sym e) ∙ fit) bounds
    ]

pub narrower_negated : (o p : Option Ty) → Narrower o p → Bounded p
    → Narrower (option_and_then negated o) (option_and_then negated p)
narrower_negated None p narrower bounds = narrower_none (option_and_then negated p)
narrower_negated (Some t) None narrower bounds = absurd (true≢false (sym (narrower t refl)))
narrower_negated (Some t) (Some u) narrower bounds = negated_narrower t u (narrower t refl) (bounds u refl)

-- ---- narrower parts at each form

two_kept : (w : Ty) (o p u v : Option Ty) → Narrower o u → Narrower p v
    → Kept (goes_as w o && goes_as w p) (goes_as w u && goes_as w v)
two_kept w o p u v first second = both_kept _ _ _ _ (goes_kept w o u first) (goes_kept w p v second)

compares_kept : (test : Test) (o p u v : Option Ty) → Narrower o u → Narrower p v
    → Kept (compares test o p) (compares test u v)
compares_kept test o p u v first second = by (is_equality test)
  where
    by : (b : Bool) → Kept (if b then is_some (join_both o p) else (goes_as ty.Number o && goes_as ty.Number p))
        (if b then is_some (join_both u v) else (goes_as ty.Number u && goes_as ty.Number v))
    by true = some_kept (join_both o p) (join_both u v) (narrower_join o p u v first second)
    by false = two_kept ty.Number o p u v first second

-- where the types of the parts are narrower and their bounds fit, the type of a form is narrower
pub narrower_rule : {A : Type 0} (f g : A → Option Ty) → ((e : A) → Bounded (g e)) → (n : NodeOf A)
    → PartsOf (Narrows f g) n → Narrower (type_rule (node_with f n)) (type_rule (node_with g n))
narrower_rule f g bounds (nodes.Literal n) all = narrower_same (type_rule (nodes.Literal n))
narrower_rule f g bounds (nodes.Flag flag) all = narrower_same (type_rule (nodes.Flag flag))
narrower_rule f g bounds (nodes.Case family cases index) all = narrower_same (type_rule (nodes.Case family cases index))
narrower_rule f g bounds (nodes.Var number t) all = narrower_same (type_rule (nodes.Var number t))
narrower_rule f g bounds (nodes.Or es) all =
    narrower_typed _ _ ty.Bool (both_kept _ _ _ _ (counted (nat_le 2) f g es) (all_kept ty.Bool f g es all))
narrower_rule f g bounds (nodes.And es) all =
    narrower_typed _ _ ty.Bool (both_kept _ _ _ _ (counted (nat_le 2) f g es) (all_kept ty.Bool f g es all))
narrower_rule f g bounds (nodes.Not e) all = narrower_typed _ _ ty.Bool (goes_kept ty.Bool (f e) (g e) all)
narrower_rule f g bounds (nodes.Compare test a b) all =
    narrower_typed _ _ ty.Bool (compares_kept test (f a) (f b) (g a) (g b) all.0 all.1)
narrower_rule f g bounds (nodes.Sum e more) all =
    narrower_typed _ _ ty.Number (both_kept _ _ _ _ (goes_kept ty.Number (f e) (g e) all.0)
    (both_kept _ _ _ _ (counted (nat_lt 0) (addend_with f) (addend_with g) more) (addends_kept f g more all.1)))
narrower_rule f g bounds (nodes.Product e more) all =
    narrower_typed _ _ ty.Number (both_kept _ _ _ _ (goes_kept ty.Number (f e) (g e) all.0)
    (both_kept _ _ _ _ (counted (nat_lt 0) (factor_with f) (factor_with g) more) (factors_kept f g more all.1)))
narrower_rule f g bounds (nodes.Neg e) all = narrower_negated (f e) (g e) all (bounds e)
narrower_rule f g bounds (nodes.Field e k) all =
    narrower_if (nat_lt k (2 ^ 63)) (nat_lt k (2 ^ 63)) _ _ (λ is. is) (narrower_component k (f e) (g e) all)
narrower_rule f g bounds (nodes.Tuple es) all =
    narrower_if _ _ _ _ (counted (nat_le 2) f g es)
    (narrower_tuple (each_of (map f es)) (each_of (map g es)) (narrower_each f g es all))
narrower_rule f g bounds (nodes.If choices e) all =
    narrower_if _ _ _ _
    (both_kept _ _ _ _ (counted (nat_lt 0) (choice_with f) (choice_with g) choices) (conditions_kept f g choices all.0))
    (narrower_branches f g choices e all.0 all.1)
narrower_rule f g bounds (nodes.Table keys rows) all =
    narrower_if _ _ _ _
    (both_kept _ _ _ _ (counted (nat_lt 0) (key_with f) (key_with g) keys)
    (both_kept _ _ _ _ (keys_kept f g keys all.0) (rows_kept f g keys rows)))
    (narrower_all f g rows all.1)
narrower_rule f g bounds (nodes.Ratio x y z) all =
    narrower_typed _ _ ty.Number (both_kept _ _ _ _ (goes_kept ty.Number (f x) (g x) all.0)
    (two_kept ty.Number (f y) (f z) (g y) (g z) all.1 all.2))
narrower_rule f g bounds (nodes.Min a b) all =
    narrower_typed _ _ ty.Number (two_kept ty.Number (f a) (f b) (g a) (g b) all.0 all.1)
narrower_rule f g bounds (nodes.Max a b) all =
    narrower_typed _ _ ty.Number (two_kept ty.Number (f a) (f b) (g a) (g b) all.0 all.1)
narrower_rule f g bounds (nodes.Clamp low high e) all =
    narrower_typed _ _ (ty.Range low high) (both_kept (is_word low && is_word high) _ _ _ (λ is. is)
    (both_kept (int_le low high) _ _ _ (λ is. is) (goes_kept ty.Number (f e) (g e) all)))

-- ---- trees in the place of variables

abbrev TreesFit : (ℕ → Ty → Term) → (ℕ → Ty → Bool) → Type 0
TreesFit trees test =
    (number : ℕ) (u : Ty) → test number u ≡ true → bounds_fit u ≡ true → goes_as u (type_of (trees number u)) ≡ true

-- The expression's type with trees is narrower.
abbrev Goes : (ℕ → Ty → Term) → Term → Type 0
Goes trees = Narrows type_of (λ e. type_of (replaced trees e))

-- the type of a form after its parts are replaced
form_replaced : (trees : ℕ → Ty → Term) (n : NodeOf Term) → PartsOf (Goes trees) n
    → Narrower (type_of (term_of n)) (type_of (term_of (node_with (replaced trees) n)))
form_replaced trees n all t is =
    ap (goes_as t) (fold_of_node type_rule (node_with (replaced trees) n))
    ∙ ap (λ level. goes_as t (type_rule level)) (twice type_of (replaced trees) n)
    ∙ narrower_rule type_of (λ e. type_of (replaced trees e)) (λ e. type_bounds (replaced trees e)) n all t
    (sym (fold_of_node type_rule n) ∙ is)

-- the same at each form, of which a variable becomes its tree
at_replaced : (trees : ℕ → Ty → Term) (test : ℕ → Ty → Bool) → TreesFit trees test → (n : NodeOf Term)
    → PartsOf (Goes trees) n → at_variables test (together true and_also) (node_with (all_variables test) n) ≡ true
    → Narrower (type_of (term_of n)) (type_of (at_variables trees term_of (node_with (replaced trees) n)))
at_replaced trees test fit (nodes.Var number u) all pass t is =
    let both = cond_some (bounds_fit u) u t (sym (fold_of_node type_rule (nodes.Var number u)) ∙ is) in
    subst (λ w. goes_as w (type_of (trees number u)) ≡ true) both.1 (fit number u pass both.0)
at_replaced trees test fit n all pass t is = form_replaced trees n all t is

expression_replaced : (trees : ℕ → Ty → Term) (test : ℕ → Ty → Bool) → TreesFit trees test → (e : Term)
    → all_variables test e ≡ true → Goes trees e
expression_replaced trees test fit = term_induction (Where (all_variables test) (Goes trees)) (λ n follows pass.
    let here = sym (fold_of_node (at_variables test (together true and_also)) n) ∙ pass in
    let all = where_of_form (all_variables test) (Goes trees) test n follows here in
    subst (λ e. Narrower (type_of (term_of n)) (type_of e)) (sym (fold_of_node (at_variables trees term_of) n))
    (at_replaced trees test fit n all here))

-- Where each variable's tree has a type that fits the variable's (the test says it, for variables whose types have
-- fitting bounds), the replaced expression is typed, and its type fits the former type.
pub type_replaced : (trees : ℕ → Ty → Term) (test : ℕ → Ty → Bool)
    → ((number : ℕ) (u : Ty) → test number u ≡ true → bounds_fit u ≡ true → goes_as u (type_of (trees number u)) ≡ true)
    → (e : Term) (t : Ty) → all_variables test e ≡ true → type_of e ≡ Some t
    → goes_as t (type_of (replaced trees e)) ≡ true
type_replaced trees test fit e t pass is = expression_replaced trees test fit e pass t is
