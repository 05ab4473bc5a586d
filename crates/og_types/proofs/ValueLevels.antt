-- What definitions on values say at each form.
use Rattle.std.proofs.Common.{◌≡◌, ℕ, Bool, if◌then◌else◌, List, [], map, ◌++◌, ap, sym, ◌∙◌}
use Rattle.std.specs.Prelude.{codes, unwrap_or}
use Rattle.og_frac.specs.Fraction.{Fraction, total_order}
use Rattle.og_frac.specs.Text.{text}
use Rattle.std.specs.Cmp.Lexicographic.{pointwise, slice_cmp}
use Rattle.std.specs.Ordering.{nat_cmp, bool_cmp, ordering_then}
use Rattle.std.specs.declared.cmp.Ordering.{Ordering}
use Rattle.og_types.specs.declared.value.Value.{Value}
use Rattle.og_types.specs.declared.value.Value.TheOpen.{Value-F}
use Rattle.og_types.specs.declared.value.Value.TheOpen as one
use Rattle.og_types.specs.declared.value.Value.TheViews.{out-Value}
use Rattle.og_types.specs.declared.value.Value.TheFolds.{fold-Value, fold-roll-Value}
use Rattle.og_types.specs.declared.value.Value.TheVariants as value
use Rattle.og_types.specs.Value.{same, same_step, order, order_step}
use Rattle.og_types.specs.declared.enums.Enums.{Enums}
use Rattle.og_types.specs.Names.{text_of, text_step, case_of, with_commas}
use Rattle.og_types.specs.laws.ValueOrder.{order_at}
use Rattle.og_types.proofs.Pointwise.{pointwise-map_first, slice_cmp-map_first}

-- a definition at a tuple of values
fold_tuple : (A : Type 0) (step : Value-F A → A) (vs : List Value) → fold-Value A step (value.Tuple vs) ≡ step (one.Tuple (map (fold-Value A step) vs))
fold_tuple A step vs = ap (fold-Value A step) (sym (value.rolls-Tuple vs)) ∙ fold-roll-Value A step (one.Tuple vs)

-- a definition of two values at two tuples
fold_tuples : (A : Type 0) (step : Value-F (Value → A) → Value-F Value → A) (vs ws : List Value) → fold-Value (Value → A) (λ v w. step v (out-Value w)) (value.Tuple vs) (value.Tuple ws) ≡ step (one.Tuple (map (fold-Value (Value → A) (λ v w. step v (out-Value w))) vs)) (one.Tuple ws)
fold_tuples A step vs ws =
    (λ i. fold_tuple (Value → A) (λ v w. step v (out-Value w)) vs i (value.Tuple ws)) ∙ ap (step (one.Tuple (map (fold-Value (Value → A) (λ v w. step v (out-Value w))) vs))) (value.outs-Tuple ws)

pub same_tuples : (vs ws : List Value) → same (value.Tuple vs) (value.Tuple ws) ≡ pointwise same vs ws
same_tuples vs ws = fold_tuples Bool same_step vs ws ∙ pointwise-map_first same (λ part other. part other) vs ws

pub order_tuples : (vs ws : List Value) → order (value.Tuple vs) (value.Tuple ws) ≡ slice_cmp order vs ws
order_tuples vs ws = fold_tuples Ordering order_step vs ws ∙ slice_cmp-map_first order (λ part other. part other) vs ws

pub order_numbers : (p q : Fraction) → order (value.Number p) (value.Number q) ≡ total_order p q
order_numbers p q =
    ap (λ v. order v (value.Number q)) (sym (value.rolls-Number p)) ∙ order_at (one.Number p) (value.Number q)
    ∙ ap (order_step (one.Number p)) (value.outs-Number q)

pub order_cases : (family index other at : ℕ)
    → order (value.Case family index) (value.Case other at) ≡ ordering_then (nat_cmp family other) (nat_cmp index at)
order_cases family index other at =
    ap (λ v. order v (value.Case other at)) (sym (value.rolls-Case family index))
    ∙ order_at (one.Case family index) (value.Case other at)
    ∙ ap (order_step (one.Case family index)) (value.outs-Case other at)

pub order_flags : (a b : Bool) → order (value.Flag a) (value.Flag b) ≡ bool_cmp a b
order_flags a b =
    ap (λ v. order v (value.Flag b)) (sym (value.rolls-Flag a)) ∙ order_at (one.Flag a) (value.Flag b)
    ∙ ap (order_step (one.Flag a)) (value.outs-Flag b)

pub text_of_tuple : (enums : Enums) (vs : List Value) → text_of enums (value.Tuple vs) ≡ codes "(" ++ with_commas (map (text_of enums) vs) ++ codes ")"
text_of_tuple enums vs = fold_tuple (List ℕ) (text_step enums) vs

pub text_of_case : (enums : Enums) (family index : ℕ) → text_of enums (value.Case family index) ≡ unwrap_or (case_of enums family index) []
text_of_case enums family index =
    ap (text_of enums) (sym (value.rolls-Case family index)) ∙ fold-roll-Value (List ℕ) (text_step enums) (one.Case family index)

pub text_of_flag : (enums : Enums) (b : Bool) → text_of enums (value.Flag b) ≡ (if b then codes "true" else codes "false")
text_of_flag enums b = ap (text_of enums) (sym (value.rolls-Flag b)) ∙ fold-roll-Value (List ℕ) (text_step enums) (one.Flag b)

pub text_of_number : (enums : Enums) (q : Fraction) → text_of enums (value.Number q) ≡ text q
text_of_number enums q = ap (text_of enums) (sym (value.rolls-Number q)) ∙ fold-roll-Value (List ℕ) (text_step enums) (one.Number q)
