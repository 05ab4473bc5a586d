-- The value of an expression. `value_rule` is the rule for one form, whose parts have their values already, or none.
use Rattle.std.specs.Prelude.{ℕ, ◌^◌, nat_lt, nat_le, Bool, true, false, not, ◌&&◌, if◌then◌else◌, ℤ, pos, List, [], ◌∷◌, map, length, slice_get, Option, Some, None, option_and_then, unsigned_abs}
use Rattle.std.specs.Int.{int_min, int_max}
use Rattle.std.specs.List.{list_all}
use Rattle.std.specs.Option.{option_map}
use Rattle.std.specs.Ordering.{int_eq, is_lt, is_le, is_gt, is_ge}
use Rattle.std.specs.declared.cmp.Ordering.{Ordering}
use Rattle.og_frac.specs.Fraction as fraction
use Rattle.og_frac.specs.Fraction.{Fraction}
use Rattle.og_frac.specs.Fitting.{fitting, lesser, greater, ratio_of}
use Rattle.og_types.specs.declared.value.Value.{Value}
use Rattle.og_types.specs.declared.value.Value.TheOpen as one
use Rattle.og_types.specs.declared.value.Value.TheViews.{out-Value}
use Rattle.og_types.specs.declared.value.Value.TheVariants as value
use Rattle.og_types.specs.declared.ty.Ty.{Ty}
use Rattle.og_types.specs.Value.{same, flag_of, number_of, part_of}
use Rattle.og_types.specs.Ty.{is_finite}
use Rattle.og_types.specs.Values.{joint_values_of, joint_rank_of}
use Rattle.og_expr.specs.declared.node.NodeOf.{NodeOf}
use Rattle.og_expr.specs.declared.node.NodeOf.TheVariants as nodes
use Rattle.og_expr.specs.declared.node.Addend.{Addend}
use Rattle.og_expr.specs.declared.node.Addend.TheVariants as addends
use Rattle.og_expr.specs.declared.node.Factor.{Factor}
use Rattle.og_expr.specs.declared.node.Factor.TheVariants as factors
use Rattle.og_expr.specs.declared.node.Choice.{Choice}
use Rattle.og_expr.specs.declared.node.Term.{Term}
use Rattle.og_expr.specs.declared.node.Term.TheFolds.{fold-Term}
use Rattle.og_expr.specs.declared.node.Test.{Test}
use Rattle.og_expr.specs.declared.node.Test.TheVariants as tests
use Rattle.og_expr.specs.Types.{is_word, is_equality, each_of}

-- what each variable has
abbrev pub Env : Type 0
Env = ℕ → Option Value

abbrev pub flag_in : Option Value → Option Bool
flag_in v = option_and_then flag_of v

abbrev pub number_in : Option Value → Option Fraction
number_in v = option_and_then number_of v

-- a whole number that is a word
abbrev pub whole_value : ℤ → Option Value
whole_value n = if is_word n then Some (value.Number (fraction.whole n)) else None

-- ---- from the left, and no further than the answer needs

abbrev pub any_of : List (Option Value) → Option Bool
any_of [] = Some false
any_of (v ∷ vs) = option_and_then (λ b. if b then Some true else any_of vs) (flag_in v)

abbrev pub all_of : List (Option Value) → Option Bool
all_of [] = Some true
all_of (v ∷ vs) = option_and_then (λ b. if b then all_of vs else Some false) (flag_in v)

-- what stands under the first condition that holds, where one does
abbrev pub first_chosen : List (Choice (Option Value)) → Option (Option Value)
first_chosen [] = Some None
first_chosen (c ∷ cs) = option_and_then (λ b. if b then option_map Some c.body else first_chosen cs) (flag_in c.cond)

-- this, and the last where no condition holds
abbrev pub or_last : Option Value → Option Value → Option Value
or_last last None = last
or_last last (Some v) = Some v

-- ---- chains of operations, each step of which is a fraction

abbrev pub added : Fraction → Addend (Option Value) → Option Fraction
added n (addends.Plus v) = option_and_then (λ k. fitting (fraction.sum n k)) (number_in v)
added n (addends.Minus v) = option_and_then (λ k. fitting (fraction.difference n k)) (number_in v)

abbrev pub sum_from : Fraction → List (Addend (Option Value)) → Option Fraction
sum_from n [] = Some n
sum_from n (a ∷ more) = option_and_then (λ k. sum_from k more) (added n a)

abbrev pub multiplied : Fraction → Factor (Option Value) → Option Fraction
multiplied n (factors.Times v) = option_and_then (λ k. fitting (fraction.product n k)) (number_in v)
multiplied n (factors.Over d) =
    if nat_lt 0 d && nat_lt d (2 ^ 63) then fitting (fraction.quotient n (fraction.whole (pos d))) else None

abbrev pub product_from : Fraction → List (Factor (Option Value)) → Option Fraction
product_from n [] = Some n
product_from n (f ∷ more) = option_and_then (λ k. product_from k more) (multiplied n f)

-- ---- two and three operands, all of them evaluated

abbrev pub holds_in : Test → Ordering → Bool
holds_in tests.Equal o = not (is_lt o) && not (is_gt o)
holds_in tests.Differs o = not (not (is_lt o) && not (is_gt o))
holds_in tests.Less o = is_lt o
holds_in tests.AtMost o = is_le o
holds_in tests.Greater o = is_gt o
holds_in tests.AtLeast o = is_ge o

-- values of any type by equality, and numbers by their order
abbrev pub equals : Test → Value → Value → Bool
equals tests.Equal v w = same v w
equals _ v w = not (same v w)

abbrev pub compared : Test → Option Value → Option Value → Option Bool
compared test v w =
    if is_equality test then option_and_then (λ a. option_map (λ b. equals test a b) w) v
    else option_and_then (λ p. option_map (λ q. holds_in test (fraction.order p q)) (number_in w)) (number_in v)

-- what is made of two numbers
abbrev pub of_two : {A : Type 0} → (Fraction → Fraction → Option A) → Option Value → Option Value → Option A
of_two f v w = option_and_then (λ p. option_and_then (λ q. f p q) (number_in w)) (number_in v)

-- the greatest whole number that isn't above the number, lowered to the one bound, then raised to the other
abbrev pub clamped : ℤ → ℤ → Fraction → Option Value
clamped low high n = whole_value (int_max low (int_min high (fraction.floor n)))

-- ---- tables

-- the place of the values among those of the types, where these are at most 4,096
abbrev pub place_in : List Ty → List Value → Option ℕ
place_in ts vs = if list_all is_finite ts && nat_le (length (joint_values_of ts)) 4096 then joint_rank_of ts vs else None

abbrev pub row_at : List (Option Value) → ℕ → Option Value
row_at rows k = option_and_then (λ row. row) (slice_get rows k)

-- ---- the table of values

abbrev pub number_value : Option Fraction → Option Value
number_value = option_map value.Number

abbrev pub value_rule : Env → NodeOf (Option Value) → Option Value
value_rule env (nodes.Literal n) = whole_value n
value_rule env (nodes.Flag flag) = Some (value.Flag flag)
value_rule env (nodes.Case family cases index) = Some (value.Case family index)
value_rule env (nodes.Var number t) = env number
value_rule env (nodes.Or vs) = option_map value.Flag (any_of vs)
value_rule env (nodes.And vs) = option_map value.Flag (all_of vs)
value_rule env (nodes.Not v) = option_map (λ b. value.Flag (not b)) (flag_in v)
value_rule env (nodes.Compare test v w) = option_map value.Flag (compared test v w)
value_rule env (nodes.Sum v more) = number_value (option_and_then (λ n. sum_from n more) (number_in v))
value_rule env (nodes.Product v more) = number_value (option_and_then (λ n. product_from n more) (number_in v))
value_rule env (nodes.Neg v) =
    number_value (option_and_then (λ n. fitting (fraction.difference (fraction.whole (pos 0)) n)) (number_in v))
value_rule env (nodes.Field v k) = option_and_then (part_of k) v
value_rule env (nodes.Tuple vs) = option_map value.Tuple (each_of vs)
value_rule env (nodes.If choices v) = option_and_then (or_last v) (first_chosen choices)
value_rule env (nodes.Table keys rows) =
    option_and_then (λ vs. option_and_then (row_at rows) (place_in (map (λ key. key.ty) keys) vs))
    (each_of (map (λ key. key.expr) keys))
value_rule env (nodes.Ratio x y z) =
    number_value (option_and_then (λ p. of_two (λ q r. ratio_of p q r) y z) (number_in x))
value_rule env (nodes.Min v w) = number_value (of_two (λ p q. Some (lesser p q)) v w)
value_rule env (nodes.Max v w) = number_value (of_two (λ p q. Some (greater p q)) v w)
value_rule env (nodes.Clamp low high v) =
    option_and_then (λ n. clamped low high n) (number_in v)

-- the value of an expression where the variables have these
abbrev pub value_in : Env → Term → Option Value
value_in env = fold-Term (Option Value) (λ level. value_rule env level.node)

-- the same where they are the values of a list, by number
abbrev pub value_of : List Value → Term → Option Value
value_of values = value_in (slice_get values)
