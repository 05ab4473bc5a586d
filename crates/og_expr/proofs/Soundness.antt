-- What an expression has is of its type, where each variable has nothing or a value of its own type.
use Rattle.std.proofs.Common.{◌≡◌, ◌∙◌, ℕ, zero, suc, ℤ, pos, Bool, true, false, ◌&&◌, ◌==◌, if◌then◌else◌, arith, List, [], ◌∷◌, ◌++◌, map, refl, ap, sym, subst, eqb-true, eq-eqb}
use Rattle.std.specs.Prelude.{◌^◌, not, nat_lt, int_le, ◌-ℤ◌, unsigned_abs, slice_get, Option, Some, None, option_and_then}
use Rattle.std.specs.Int.{int_min, int_max}
use Rattle.std.specs.List.{AllByRecursion}
use Rattle.std.specs.Option.{option_map}
use Rattle.std.specs.Cmp.Lexicographic.{pointwise}
use Rattle.std.proofs.lemmas.Bool.{and_parts, and_from}
use Rattle.std.proofs.lemmas.Int.{ints, clamps}
use Rattle.std.proofs.lemmas.Option.{none-some, same_Some, cond_some, option_and_then_some}
use Rattle.og_frac.specs.Fraction as fraction
use Rattle.og_frac.specs.Fraction.{Fraction}
use Rattle.og_frac.proofs.Differences.{difference_of_wholes}
use Rattle.og_types.specs.declared.value.Value.{Value}
use Rattle.og_types.specs.declared.value.Value.TheOpen.{Value-F}
use Rattle.og_types.specs.declared.value.Value.TheOpen as open_value
use Rattle.og_types.specs.declared.value.Value.TheVariants as value
use Rattle.og_types.specs.declared.ty.Ty.{Ty}
use Rattle.og_types.specs.declared.ty.Ty.TheOpen.{Ty-F}
use Rattle.og_types.specs.declared.ty.Ty.TheOpen as open_ty
use Rattle.og_types.specs.declared.ty.Ty.TheViews.{out-Ty, roll-Ty, roll-out-Ty}
use Rattle.og_types.specs.declared.ty.Ty.TheVariants as ty
use Rattle.og_types.specs.Ty.{fits, join, holds, is_between, bounds_fit}
use Rattle.og_types.proofs.FitsLaws.{int_le_itself, fits_itself, fits_along, fits_values}
use Rattle.og_types.proofs.JoinLaws.{join_fits}
use Rattle.og_types.proofs.TyLevels.{holds_tuples}
use Rattle.og_types.proofs.Forms.{holds_enum, holds_bool, holds_range, holds_number, value_of_range, value_of_tuple}
use Rattle.og_types.proofs.Span.{le_true, true_le}
use Rattle.og_expr.specs.declared.node.NodeOf.{NodeOf}
use Rattle.og_expr.specs.declared.node.NodeOf.TheVariants as nodes
use Rattle.og_expr.specs.declared.node.Choice.{Choice}
use Rattle.og_expr.specs.declared.node.Term.{Term}
use Rattle.og_expr.specs.Terms.{term_of}
use Rattle.og_expr.specs.Types.{typed_if, goes_as, is_word, join_both, join_onto, join_all, each_of, negated, component, type_rule, type_of}
use Rattle.og_expr.specs.Values.{Env, number_in, whole_value, flag_in, any_of, all_of, compared, first_chosen, or_last, sum_from, product_from, of_two, clamped, place_in, row_at, number_value, value_rule, value_in}
use Rattle.og_types.specs.Value.{number_of, part_of}
use Rattle.og_frac.specs.Fitting.{fitting, lesser, greater, ratio_of}
use Rattle.og_expr.specs.Levels.{addend_with, factor_with, choice_with, key_with, node_with, fold_of_node}
use Rattle.og_expr.specs.Parts.{together}
use Rattle.og_expr.specs.Variables.{at_variables, and_also, all_variables}
use Rattle.og_expr.specs.Sound.{may_have}
use Rattle.og_expr.proofs.Induction.{OfChoice, PartsOf, term_induction}
use Rattle.og_expr.proofs.Tested.{where_of_form}

-- what the part has is of its type
abbrev Sound : {A : Type 0} → (A → Option Ty) → (A → Option Value) → A → Type 0
Sound f g a = (t : Ty) → f a ≡ Some t → may_have t (g a) ≡ true

-- ---- what is of a type

-- a value of a type is one of each type that it fits
goes_on : (t : Ty) (o : Option Ty) (v : Option Value) → ((u : Ty) → o ≡ Some u → may_have u v ≡ true)
    → goes_as t o ≡ true → may_have t v ≡ true
goes_on t None v is h = absurd (cc)
goes_on t (Some u) None is h = refl
goes_on t (Some u) (Some v) is h = fits_values u t v h (is u refl)

of_type : (t u : Ty) (v : Option Value) → t ≡ u → may_have t v ≡ true → may_have u v ≡ true
of_type t u v e h = subst (λ w. may_have w v ≡ true) e h

-- the type, where the test holds
under : (b : Bool) (u t : Ty) (v : Option Value) → typed_if b u ≡ Some t → may_have u v ≡ true → may_have t v ≡ true
under b u t v e h = of_type u t v (cond_some b u t e).1 h

-- the same, of what holds by the test
under_test : (b : Bool) (u t : Ty) (v : Option Value) → typed_if b u ≡ Some t → (b ≡ true → may_have u v ≡ true)
    → may_have t v ≡ true
under_test b u t v e h = of_type u t v (cond_some b u t e).1 (h (cond_some b u t e).0)

if_there : {X : Type 0} (b : Bool) (o : Option X) (x : X) → (if b then o else None) ≡ Some x → o ≡ Some x
if_there true o x e = e
if_there false o x e = absurd (none-some x e)

flags : (o : Option Bool) → may_have ty.Bool (option_map value.Flag o) ≡ true
flags None = refl
flags (Some b) = holds_bool b

flags_not : (o : Option Bool) → may_have ty.Bool (option_map (λ b. value.Flag (not b)) o) ≡ true
flags_not None = refl
flags_not (Some b) = holds_bool (not b)

numbers : (o : Option Fraction) → may_have ty.Number (number_value o) ≡ true
numbers None = refl
numbers (Some q) = holds_number q

-- what is made of what is there
then_holds : {X : Type 0} (h : X → Option Value) (o : Option X) (t : Ty) → ((x : X) → may_have t (h x) ≡ true)
    → may_have t (option_and_then h o) ≡ true
then_holds h None t all = refl
then_holds h (Some x) t all = all x

-- ---- whole numbers

wholes : (low high n : ℤ) → int_le low n ≡ true → int_le n high ≡ true
    → may_have (ty.Range low high) (whole_value n) ≡ true
wholes low high n p q = by (is_word n)
  where
    by : (b : Bool) → may_have (ty.Range low high) (if b then Some (value.Number (fraction.whole n)) else None) ≡ true
    by true = holds_range low high (fraction.whole n) ∙ and_from (int_le low n) (int_le n high) p q
    by false = refl

above_low : (low n : ℤ) → int_le low (int_max low n) ≡ true
above_low low n = true_le low (int_max low n) (omega (arith, ints, clamps))

below_high : (low high n : ℤ) → int_le low high ≡ true → int_le (int_max low (int_min high n)) high ≡ true
below_high low high n h =
    let ends = le_true low high h in true_le (int_max low (int_min high n)) high (omega (arith, ints, clamps))

clamps_hold : (low high : ℤ) (v : Option Value) → int_le low high ≡ true
    → may_have (ty.Range low high) (option_and_then (λ n. clamped low high n) (number_in v)) ≡ true
clamps_hold low high v h = then_holds (λ n. clamped low high n) (number_in v) (ty.Range low high) (λ n.
    let m = int_min high (fraction.floor n) in
    wholes low high (int_max low m) (above_low low m) (below_high low high (fraction.floor n) h))

-- ---- opposites

opposite_low : (high n : ℤ) → int_le n high ≡ true → int_le (pos 0 -ℤ high) (pos 0 -ℤ n) ≡ true
opposite_low high n h = let is = le_true n high h in true_le (pos 0 -ℤ high) (pos 0 -ℤ n) (omega (arith, ints))

-- the opposite of a number of a range is one of the opposite range
opposite_between : (low high : ℤ) (q : Fraction) → is_between low high q ≡ true
    → is_between (pos 0 -ℤ high) (pos 0 -ℤ low) (fraction.difference (fraction.whole (pos 0)) q) ≡ true
opposite_between low high q h =
    let parts = and_parts (q.denominator == 1) (int_le low q.numerator && int_le q.numerator high) h in
    let within = and_parts (int_le low q.numerator) (int_le q.numerator high) parts.1 in
    let n = q.numerator in
    let is_whole : q ≡ fraction.whole n =
    (λ i. record { numerator = n; denominator = eqb-true q.denominator 1 parts.0 i }) in
    let is : fraction.difference (fraction.whole (pos 0)) q ≡ fraction.whole (pos 0 -ℤ n) =
    ap (fraction.difference (fraction.whole (pos 0))) is_whole ∙ difference_of_wholes (pos 0) n in
    ap (is_between (pos 0 -ℤ high) (pos 0 -ℤ low)) is
    ∙ and_from (int_le (pos 0 -ℤ high) (pos 0 -ℤ n)) (int_le (pos 0 -ℤ n) (pos 0 -ℤ low))
    (opposite_low high n within.1) (opposite_low n low within.0)

abbrev opposite : Option Fraction → Option Value
opposite q = number_value (option_and_then (λ n. fitting (fraction.difference (fraction.whole (pos 0)) n)) q)

-- where a fraction fits, its number is there, and nothing otherwise
fits_or_not : (low high : ℤ) (q : Fraction) → is_between low high q ≡ true
    → may_have (ty.Range low high) (number_value (fitting q)) ≡ true
fits_or_not low high q h = by (nat_lt (unsigned_abs q.numerator) (2 ^ 63) && nat_lt q.denominator (2 ^ 63))
  where
    by : (b : Bool) → may_have (ty.Range low high) (number_value (if b then Some q else None)) ≡ true
    by true = holds_range low high q ∙ h
    by false = refl

opposite_number : (low high : ℤ) (q : Fraction) → is_between low high q ≡ true
    → may_have (ty.Range (pos 0 -ℤ high) (pos 0 -ℤ low)) (opposite (Some q)) ≡ true
opposite_number low high q h =
    fits_or_not (pos 0 -ℤ high) (pos 0 -ℤ low) (fraction.difference (fraction.whole (pos 0)) q)
    (opposite_between low high q h)

abbrev number_form : Value-F Value → Option Fraction
number_form x = elim x [ open_value.Number number ↦ Some number | _ ↦ None ]

number_is : (q : Fraction) → number_of (value.Number q) ≡ Some q
number_is q = ap number_form (value.outs-Number q)

opposites : (low high : ℤ) (v : Option Value) → may_have (ty.Range low high) v ≡ true
    → may_have (ty.Range (pos 0 -ℤ high) (pos 0 -ℤ low)) (opposite (number_in v)) ≡ true
opposites low high None h = refl
opposites low high (Some v) h =
    let is = value_of_range low high v h in
    let found : number_of v ≡ Some is.0 = ap number_of is.1 ∙ number_is is.0 in
    ap (λ o. may_have (ty.Range (pos 0 -ℤ high) (pos 0 -ℤ low)) (opposite o)) found ∙ opposite_number low high is.0 is.2

abbrev negated_form : Ty-F Ty → Option Ty
negated_form x =
    elim x [
      | open_ty.Range low high ↦ typed_if (is_word low && is_word high) (ty.Range (pos 0 -ℤ high) (pos 0 -ℤ low))
      | open_ty.Number ↦ Some ty.Number
      | _ ↦ None
    ]

negations : (s t : Ty) (v : Option Value) → may_have s v ≡ true → negated s ≡ Some t
    → may_have t (opposite (number_in v)) ≡ true
negations s t v h e = by (out-Ty s) (roll-out-Ty s) e
  where
    by : (x : Ty-F Ty) → roll-Ty x ≡ s → negated_form x ≡ Some t → may_have t (opposite (number_in v)) ≡ true
    by (open_ty.Range low high) r e =
        under (is_word low && is_word high) (ty.Range (pos 0 -ℤ high) (pos 0 -ℤ low)) t (opposite (number_in v)) e
        (opposites low high v (of_type s (ty.Range low high) v (sym r ∙ ty.rolls-Range low high) h))
    by open_ty.Number r e =
        of_type ty.Number t (opposite (number_in v)) (same_Some ty.Number t e)
        (numbers (option_and_then (λ n. fitting (fraction.difference (fraction.whole (pos 0)) n)) (number_in v)))
    by _ r e = absurd (none-some t e)

-- ---- tuples

component_holds : (ts : List Ty) (vs : List Value) (k : ℕ) (t : Ty) → pointwise holds ts vs ≡ true
    → slice_get ts k ≡ Some t → may_have t (slice_get vs k) ≡ true
component_holds [] vs k t h e = absurd (none-some t e)
component_holds (u ∷ ts) [] k t h e = refl
component_holds (u ∷ ts) (v ∷ vs) zero t h e =
    ap (λ w. holds w v) (sym (same_Some u t e)) ∙ (and_parts (holds u v) (pointwise holds ts vs) h).0
component_holds (u ∷ ts) (v ∷ vs) (suc k) t h e =
    component_holds ts vs k t (and_parts (holds u v) (pointwise holds ts vs) h).1 e

abbrev part_form : ℕ → Value-F Value → Option Value
part_form k x = elim x [ open_value.Tuple parts ↦ slice_get parts k | _ ↦ None ]

part_is : (k : ℕ) (vs : List Value) → part_of k (value.Tuple vs) ≡ slice_get vs k
part_is k vs = ap (part_form k) (value.outs-Tuple vs)

components : (ts : List Ty) (v : Option Value) (k : ℕ) (t : Ty) → may_have (ty.Tuple ts) v ≡ true
    → slice_get ts k ≡ Some t → may_have t (option_and_then (part_of k) v) ≡ true
components ts None k t h e = refl
components ts (Some v) k t h e =
    let is = value_of_tuple ts v h in
    ap (may_have t) (ap (part_of k) is.1 ∙ part_is k is.0) ∙ component_holds ts is.0 k t is.2 e

abbrev component_form : ℕ → Ty-F Ty → Option Ty
component_form k x =
    elim x [
      | open_ty.Tuple ts ↦ slice_get ts k
      | _ ↦ None
    ]

fields : (s t : Ty) (v : Option Value) (k : ℕ) → may_have s v ≡ true → component k s ≡ Some t
    → may_have t (option_and_then (part_of k) v) ≡ true
fields s t v k h e = by (out-Ty s) (roll-out-Ty s) e
  where
    by : (x : Ty-F Ty) → roll-Ty x ≡ s → component_form k x ≡ Some t → may_have t (option_and_then (part_of k) v) ≡ true
    by (open_ty.Tuple ts) r e = components ts v k t (of_type s (ty.Tuple ts) v (sym r ∙ ty.rolls-Tuple ts) h) e
    by _ r e = absurd (none-some t e)

-- Where there are types and values, they go together.
abbrev Paired : Option (List Ty) → Option (List Value) → Type 0
Paired (Some ts) (Some vs) = pointwise holds ts vs ≡ true
Paired _ _ = Unit {0}

pair_onto : (o : Option Ty) (v : Option Value) (os : Option (List Ty)) (vs : Option (List Value))
    → ((t : Ty) → o ≡ Some t → may_have t v ≡ true) → Paired os vs
    → Paired (option_and_then (λ a. option_map (λ as'. a ∷ as') os) o)
    (option_and_then (λ a. option_map (λ as'. a ∷ as') vs) v)
pair_onto None v os vs is rest = tt
pair_onto (Some t) v None vs is rest = tt
pair_onto (Some t) None (Some ts) vs is rest = tt
pair_onto (Some t) (Some v) (Some ts) None is rest = tt
pair_onto (Some t) (Some v) (Some ts) (Some vs) is rest = and_from (holds t v) (pointwise holds ts vs) (is t refl) rest

paired : {A : Type 0} (f : A → Option Ty) (g : A → Option Value) (es : List A) → AllByRecursion (Sound f g) es
    → Paired (each_of (map f es)) (each_of (map g es))
paired f g [] are = refl
paired f g (e ∷ es) are = pair_onto (f e) (g e) (each_of (map f es)) (each_of (map g es)) are.0 (paired f g es are.1)

tuples : (o : Option (List Ty)) (vs : Option (List Value)) (t : Ty) → Paired o vs → option_map ty.Tuple o ≡ Some t
    → may_have t (option_map value.Tuple vs) ≡ true
tuples None vs t are e = absurd (none-some t e)
tuples (Some ts) None t are e = refl
tuples (Some ts) (Some vs) t are e =
    of_type (ty.Tuple ts) t (Some (value.Tuple vs)) (same_Some (ty.Tuple ts) t e) (holds_tuples ts vs ∙ are)

-- ---- joins

abbrev Goes : Ty → Option Ty → Type 0
Goes t o = goes_as t o ≡ true

both_go : (t : Ty) (o u : Option Ty) → Goes t (join_both o u) → Goes t o × Goes t u
both_go t None u h = absurd (cc)
both_go t (Some s) None h = absurd (cc)
both_go t (Some s) (Some u) h = by (join s u) refl h
  where
    by : (o : Option Ty) → join s u ≡ o → Goes t o → (fits s t ≡ true) × (fits u t ≡ true)
    by None e h = absurd (cc)
    by (Some w) e h = let both = join_fits s u w e in (fits_along s w t both.0 h, fits_along u w t both.1 h)

all_go_onto : (t : Ty) (o : Option Ty) (us : List (Option Ty)) → join_onto o us ≡ Some t
    → Goes t o × AllByRecursion (Goes t) us
all_go_onto t o [] e = (subst (Goes t) (sym e) (fits_itself t), tt)
all_go_onto t o (u ∷ us) e =
    let rest = all_go_onto t (join_both o u) us e in
    let both = both_go t o u rest.0 in
    (both.0, (both.1, rest.1))

-- Each type fits the join.
all_go : (t : Ty) (us : List (Option Ty)) → join_all us ≡ Some t → AllByRecursion (Goes t) us
all_go t [] e = tt
all_go t (u ∷ us) e = all_go_onto t u us e

choose : (t : Ty) (o : Option Bool) (body last : Option Value) (rest : Option (Option Value)) → may_have t body ≡ true
    → may_have t (option_and_then (or_last last) rest) ≡ true
    → may_have t (option_and_then (or_last last) (option_and_then (λ b. if b then option_map Some body else rest) o))
    ≡ true
choose t None body last rest h k = refl
choose t (Some true) None last rest h k = refl
choose t (Some true) (Some v) last rest h k = h
choose t (Some false) body last rest h k = k

-- what one of the choices or the last gives
chosen : {A : Type 0} (f : A → Option Ty) (g : A → Option Value) (t : Ty) (choices : List (Choice A)) (last : A)
    → AllByRecursion (OfChoice (Sound f g)) choices → Sound f g last
    → AllByRecursion (Goes t) (map (λ c. c.body) (map (choice_with f) choices) ++ f last ∷ [])
    → may_have t (option_and_then (or_last (g last)) (first_chosen (map (choice_with g) choices))) ≡ true
chosen f g t [] last are is go = goes_on t (f last) (g last) is go.0
chosen f g t (c ∷ choices) last are is go =
    choose t (flag_in (g c.cond)) (g c.body) (g last) (first_chosen (map (choice_with g) choices))
    (goes_on t (f c.body) (g c.body) are.0.1 go.0) (chosen f g t choices last are.1 is go.1)

row : {A : Type 0} (f : A → Option Ty) (g : A → Option Value) (t : Ty) (rows : List A) (k : ℕ)
    → AllByRecursion (Sound f g) rows → AllByRecursion (Goes t) (map f rows) → may_have t (row_at (map g rows) k) ≡ true
row f g t [] k are go = refl
row f g t (e ∷ rows) zero are go = goes_on t (f e) (g e) are.0 go.0
row f g t (e ∷ rows) (suc k) are go = row f g t rows k are.1 go.1

-- ---- the rule of types and the rule of values

case_holds : (family many index : ℕ) → nat_lt index many ≡ true
    → may_have (ty.Enum family many) (Some (value.Case family index)) ≡ true
case_holds family many index h =
    holds_enum family many family index ∙ and_from (family == family) (nat_lt index many) (eq-eqb family family refl) h

sound_rule : {A : Type 0} (env : Env) (f : A → Option Ty) (g : A → Option Value) (occur : A → Bool) (n : NodeOf A)
    → PartsOf (Sound f g) n
    → at_variables (λ number u. may_have u (env number)) (together true and_also) (node_with occur n) ≡ true
    → (t : Ty) → type_rule (node_with f n) ≡ Some t → may_have t (value_rule env (node_with g n)) ≡ true
sound_rule env f g occur (nodes.Literal n) are all t e =
    under (is_word n) (ty.Range n n) t (whole_value n) e (wholes n n n (int_le_itself n) (int_le_itself n))
sound_rule env f g occur (nodes.Flag flag) are all t e =
    of_type ty.Bool t (Some (value.Flag flag)) (same_Some ty.Bool t e) (holds_bool flag)
sound_rule env f g occur (nodes.Case family many index) are all t e =
    under_test (nat_lt index many) (ty.Enum family many) t (Some (value.Case family index)) e
    (case_holds family many index)
sound_rule env f g occur (nodes.Var number u) are all t e = under (bounds_fit u) u t (env number) e all
sound_rule env f g occur (nodes.Or es) are all t e = under _ ty.Bool t _ e (flags (any_of (map g es)))
sound_rule env f g occur (nodes.And es) are all t e = under _ ty.Bool t _ e (flags (all_of (map g es)))
sound_rule env f g occur (nodes.Not a) are all t e = under _ ty.Bool t _ e (flags_not (flag_in (g a)))
sound_rule env f g occur (nodes.Compare test a b) are all t e =
    under _ ty.Bool t _ e (flags (compared test (g a) (g b)))
sound_rule env f g occur (nodes.Sum a more) are all t e =
    under _ ty.Number t _ e
    (numbers (option_and_then (λ n. sum_from n (map (addend_with g) more)) (number_in (g a))))
sound_rule env f g occur (nodes.Product a more) are all t e =
    under _ ty.Number t _ e
    (numbers (option_and_then (λ n. product_from n (map (factor_with g) more)) (number_in (g a))))
sound_rule env f g occur (nodes.Neg a) are all t e =
    option_and_then_some negated (f a) t e (λ s is neg. negations s t (g a) (are s is) neg)
sound_rule env f g occur (nodes.Field a k) are all t e =
    option_and_then_some (component k) (f a) t (if_there (nat_lt k (2 ^ 63)) (option_and_then (component k) (f a)) t e)
    (λ s is there. fields s t (g a) k (are s is) there)
sound_rule env f g occur (nodes.Tuple es) are all t e =
    tuples (each_of (map f es)) (each_of (map g es)) t (paired f g es are) (if_there _ _ t e)
sound_rule env f g occur (nodes.If choices a) are all t e =
    chosen f g t choices a are.0 are.1 (all_go t _ (if_there _ _ t e))
sound_rule env f g occur (nodes.Table keys rows) are all t e =
    let go = all_go t (map f rows) (if_there _ _ t e) in
    then_holds _ (each_of (map (λ key. key.expr) (map (key_with g) keys))) t (λ vs.
    then_holds (row_at (map g rows)) (place_in (map (λ key. key.ty) (map (key_with g) keys)) vs) t (λ k.
    row f g t rows k are.1 go))
sound_rule env f g occur (nodes.Ratio x y z) are all t e =
    under _ ty.Number t _ e
    (numbers (option_and_then (λ p. of_two (λ q r. ratio_of p q r) (g y) (g z)) (number_in (g x))))
sound_rule env f g occur (nodes.Min a b) are all t e =
    under _ ty.Number t _ e (numbers (of_two (λ p q. Some (lesser p q)) (g a) (g b)))
sound_rule env f g occur (nodes.Max a b) are all t e =
    under _ ty.Number t _ e (numbers (of_two (λ p q. Some (greater p q)) (g a) (g b)))
sound_rule env f g occur (nodes.Clamp low high a) are all t e =
    under_test ((is_word low && is_word high) && (int_le low high && goes_as ty.Number (f a))) (ty.Range low high) t _ e
    (λ b. clamps_hold low high (g a) (and_parts (int_le low high) (goes_as ty.Number (f a))
    (and_parts (is_word low && is_word high) (int_le low high && goes_as ty.Number (f a)) b).1).0)

-- ---- all expressions

-- An expression of a type has nothing or a value of it, where each variable has.
abbrev Is : Env → Term → Type 0
Is env e = all_variables (λ number u. may_have u (env number)) e ≡ true → Sound type_of (value_in env) e

at_form : (env : Env) (n : NodeOf Term) → PartsOf (Is env) n → Is env (term_of n)
at_form env n follows all t is =
    let test : ℕ → Ty → Bool = λ number u. may_have u (env number) in
    let here : at_variables test (together true and_also) (node_with (all_variables test) n) ≡ true =
    sym (fold_of_node (at_variables test (together true and_also)) n) ∙ all in
    let parts = where_of_form (all_variables test) (Sound type_of (value_in env)) test n follows here in
    ap (may_have t) (fold_of_node (value_rule env) n)
    ∙ sound_rule env type_of (value_in env) (all_variables test) n parts here t (sym (fold_of_node type_rule n) ∙ is)

-- Where each variable has nothing or a value of its type, so has an expression.
pub sound : (env : Env) (e : Term) (t : Ty) → all_variables (λ number u. may_have u (env number)) e ≡ true
    → type_of e ≡ Some t → may_have t (value_in env e) ≡ true
sound env e t all is = term_induction (Is env) (at_form env) e all t is
