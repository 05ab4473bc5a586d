-- The place of a table's row, found key by key from the left.
use Rattle.std.proofs.Common.{◌≡◌, ◌≢◌, ◌∙◌, ℕ, zero, suc, ◌+◌, ◌*◌, ◌<◌, ◌≤◌, min, true, false, List, [], ◌∷◌, map, length, drop, get_or, Option, Some, None, refl, sym, ap, subst, cond, arith}
use Rattle.std.specs.Prelude.{slice_get, ◌==◌, nat_lt, nat_le, ◌&&◌, if◌then◌else◌, Bool}
use Rattle.std.specs.Option.{option_map}
use Rattle.std.specs.List.{list_all}
use Rattle.std.proofs.lemmas.Bool.{and_parts, and_from, le-leb, leb-true, eqb-true}
use Rattle.std.proofs.lemmas.Nat.{row_fits}
use Rattle.std.proofs.lemmas.Option.{slice_get_within}
use Rattle.std.proofs.Math.Nat.{mul_assoc, add-mul, mul-le-mul_right, le-mul_of_pos_right, zero-mul, mul-zero}
use Rattle.og_list.proofs.Drop.{drop_at, drop_got}
use Rattle.og_types.specs.declared.value.Value.{Value}
use Rattle.og_types.specs.declared.ty.Ty.{Ty}
use Rattle.og_types.specs.Ty.{is_finite}
use Rattle.og_types.specs.Values.{values_of, joint_values_of, rank_of, joint_rank_of, capped_count, IsSmall, AreSmall}
use Rattle.og_types.proofs.Tuples.{length_product, place_product, together}
use Rattle.og_types.proofs.RankLaws.{at_rank}
use Rattle.og_types.proofs.JointRankOf.{joint_rank_short}
use Rattle.std.proofs.lemmas.List.{length-map}
use Rattle.og_expr.specs.declared.node.Key.{Key}
use Rattle.og_expr.specs.declared.node.Term.{Term}
use Rattle.og_expr.specs.declared.node.NodeOf.TheVariants as nodes
use Rattle.og_expr.specs.Terms.{term_of}
use Rattle.og_expr.specs.Types.{type_of, join_all, key_fits, has_rows}
use Rattle.og_expr.specs.Levels.{key_with}
use Rattle.og_expr.specs.Values.{place_in}
use Rattle.og_expr.proofs.Forms.{type_of_node, keys_finite}
use Rattle.og_expr.proofs.Steps.{keys_typed}

-- how many lists of one value of each type there are
abbrev many : List Ty → ℕ
many ts = length (joint_values_of ts)

-- What is known with a rank in hand and these types and values ahead: which place they come to, and
-- that it is below 4,096.
pub record Ahead (ts : List Ty) (vs : List Value) (rank : ℕ) (total : Option ℕ) : Type 0 where
  pub comes : option_map (λ j. rank * length (joint_values_of ts) + j) (joint_rank_of ts vs) ≡ total
  pub room : (rank + 1) * length (joint_values_of ts) ≤ 4096
  pub some : 0 < length (joint_values_of ts)
  pub finite : list_all is_finite ts ≡ true

place_small : (ts : List Ty) (vs : List Value) → AreSmall ts → joint_rank_of ts vs ≡ place_in ts vs
place_small ts vs small = sym (ap (λ b. cond b (joint_rank_of ts vs) None) (and_from _ _ small.finite (le-leb (many ts) 4096 small.few)))

from_none : (n : ℕ) (o : Option ℕ) → option_map (λ j. 0 * n + j) o ≡ o
from_none n None = refl
from_none n (Some j) = ap Some (omega (arith, zero-mul n))

-- the factors of a product that isn't 0
both_some : (m n : ℕ) → 0 < m * n → (0 < m) × (0 < n)
both_some zero n h = absurd (omega (arith, zero-mul n))
both_some (suc m) zero h = absurd (omega (arith, mul-zero (suc m)))
both_some (suc m) (suc n) h = (omega arith, omega arith)

-- what is known of the first type ahead and of those behind it
pub record First (t : Ty) (ts : List Ty) (rank count : ℕ) : Type 0 where
  pub small : IsSmall t
  pub counts : count ≡ length (values_of t)
  pub room : ((rank + 1) * count) * length (joint_values_of ts) ≤ 4096
  pub some : 0 < length (joint_values_of ts)
  pub fits : (rank + 1) * count ≤ 4096
  pub finite : list_all is_finite ts ≡ true

pub first_of : (t : Ty) (ts : List Ty) (vs : List Value) (rank count : ℕ) (total : Option ℕ)
    → Ahead (t ∷ ts) vs rank total → capped_count (is_finite t) (length (values_of t)) ≡ Some count
    → First t ts rank count
first_of t ts vs rank count total ahead counted =
    let c = length (values_of t) in
    let n = many ts in
    let product : many (t ∷ ts) ≡ c * n = length_product (values_of t) (joint_values_of ts) in
    let finite = and_parts (is_finite t) (list_all is_finite ts) ahead.finite in
    let parts = both_some c n (subst (λ m. 0 < m) product ahead.some) in
    let room : ((rank + 1) * c) * n ≤ 4096 = subst (λ m. m ≤ 4096) (ap (λ m. (rank + 1) * m) product ∙ sym (mul_assoc (rank + 1) c n)) ahead.room in
    let fits : (rank + 1) * c ≤ 4096 = omega (arith, le-mul_of_pos_right ((rank + 1) * c) parts.1, room) in
    let one_at_least : 1 ≤ rank + 1 = omega arith in
    let few : c ≤ 4096 = omega (arith, mul-le-mul_right c one_at_least, fits) in
    let capped : Some (min c 4097) ≡ Some count = (λ j. capped_count (sym finite.0 j) c) ∙ counted in
    let least : min c 4097 ≡ count = cc in
    let same : count ≡ c = omega arith in
    record {
      small = record { finite = finite.0; few = few };
      counts = same;
      room = subst (λ m. ((rank + 1) * m) * n ≤ 4096) (sym same) room;
      some = parts.1;
      fits = subst (λ m. (rank + 1) * m ≤ 4096) (sym same) fits;
      finite = finite.1;
    }

-- the rank of a value is below the number of its type's values
rank_below : (t : Ty) (v : Value) (here count : ℕ) → rank_of t v ≡ Some here → count ≡ length (values_of t) → here < count
rank_below t v here count is counts = omega (arith, counts, slice_get_within (values_of t) here v (at_rank t v here is))

-- one value more is taken
moved : (rank c n here : ℕ) (o : Option ℕ)
    → option_map (λ j. (rank * c + here) * n + j) o ≡ option_map (λ j. rank * (c * n) + j) (together n (Some here) o)
moved rank c n here None = refl
moved rank c n here (Some j) = ap Some (omega (arith, add-mul (rank * c) here n, mul_assoc rank c n))

pub ahead_next : (t : Ty) (ts : List Ty) (v : Value) (vs : List Value) (rank count here : ℕ) (total : Option ℕ)
    → Ahead (t ∷ ts) (v ∷ vs) rank total → capped_count (is_finite t) (length (values_of t)) ≡ Some count
    → rank_of t v ≡ Some here → Ahead ts vs (rank * count + here) total
ahead_next t ts v vs rank count here total ahead counted is =
    let first = first_of t ts (v ∷ vs) rank count total ahead counted in
    let n = many ts in
    let below = rank_below t v here count is first.counts in
    let row : (rank * count + here) + 1 ≤ (rank + 1) * count = omega (arith, row_fits rank count (rank + 1) count (omega arith) (omega arith), below) in
    let product : many (t ∷ ts) ≡ count * n = length_product (values_of t) (joint_values_of ts) ∙ ap (λ m. m * n) (sym first.counts) in
    record {
      comes = moved rank count n here (joint_rank_of ts vs)
          ∙ ap (λ m. option_map (λ j. rank * m + j) (together n (Some here) (joint_rank_of ts vs))) (sym product)
          ∙ ap (λ o. option_map (λ j. rank * many (t ∷ ts) + j) (together n o (joint_rank_of ts vs))) (sym is)
          ∙ ap (option_map (λ j. rank * many (t ∷ ts) + j)) (sym (place_product v vs (values_of t) (joint_values_of ts)))
          ∙ ahead.comes;
      room = omega (arith, mul-le-mul_right n row, first.room);
      some = first.some;
      finite = first.finite;
    }

pub ahead_fits : (t : Ty) (ts : List Ty) (v : Value) (vs : List Value) (rank count here : ℕ) (total : Option ℕ)
    → Ahead (t ∷ ts) (v ∷ vs) rank total → capped_count (is_finite t) (length (values_of t)) ≡ Some count
    → rank_of t v ≡ Some here → rank * count + here < 4096
ahead_fits t ts v vs rank count here total ahead counted is =
    let first = first_of t ts (v ∷ vs) rank count total ahead counted in
    omega (arith, row_fits rank count (rank + 1) count (omega arith) (omega arith), rank_below t v here count is first.counts, first.fits)

pub ahead_none : (t : Ty) (ts : List Ty) (v : Value) (vs : List Value) (rank : ℕ) (total : Option ℕ)
    → Ahead (t ∷ ts) (v ∷ vs) rank total → rank_of t v ≡ None → total ≡ None
ahead_none t ts v vs rank total ahead is =
    sym ahead.comes
    ∙ ap (option_map (λ j. rank * many (t ∷ ts) + j)) (place_product v vs (values_of t) (joint_values_of ts)
    ∙ ap (λ o. together (many ts) o (joint_rank_of ts vs)) is)

-- what is ahead at a key begins with its type and its value
pub ahead_at_key : {E : Type 0} (keys : List (Key E)) (vs : List Value) (i : ℕ) (key : Key E) (v : Value) (rank : ℕ) (total : Option ℕ)
    → i < length keys → key ≡ get_or keys i key → slice_get vs i ≡ Some v
    → Ahead (map (λ k. k.ty) (drop i keys)) (drop i vs) rank total
    → Ahead (key.ty ∷ map (λ k. k.ty) (drop (i + 1) keys)) (v ∷ drop (i + 1) vs) rank total
ahead_at_key keys vs i key v rank total lt is got ahead =
    subst (λ ts. Ahead ts (v ∷ drop (i + 1) vs) rank total) (ap (λ ks. map (λ k. k.ty) ks) (drop_at keys i key lt is))
    (subst (λ us. Ahead (map (λ k. k.ty) (drop i keys)) us rank total) (drop_got vs i v got) ahead)

pub place_short : {E : Type 0} (keys : List (Key E)) (vs : List Value) → AreSmall (map (λ key. key.ty) keys)
    → length keys ≢ length vs → place_in (map (λ key. key.ty) keys) vs ≡ None
place_short keys vs small differ =
    sym (place_small (map (λ key. key.ty) keys) vs small)
    ∙ sym (joint_rank_short (map (λ key. key.ty) keys) vs (λ e. differ (sym (length-map keys (λ key. key.ty)) ∙ e)))

-- ---- the keys of a table that has a type

some_if : (b : Bool) (o : Option Ty) (t : Ty) → (if b then o else None) ≡ Some t → (b ≡ true) × (o ≡ Some t)
some_if false o t is = absurd (cc)
some_if true o t is = (refl, is)

joined_some : (rows : List (Option Ty)) (t : Ty) → join_all rows ≡ Some t → 0 < length rows
joined_some [] t is = absurd (cc)
joined_some (row ∷ rows) t is = omega arith

-- there is a row for each list of values of their types, and so these are few, and one at least
pub table_small : (keys : List (Key Term)) (rows : List Term) (t : Ty)
    → type_of (term_of (nodes.Table keys rows)) ≡ Some t
    → AreSmall (map (λ key. key.ty) keys) × (0 < length (joint_values_of (map (λ key. key.ty) keys)))
table_small keys rows t typed =
    let fitted = map (key_with type_of) keys in
    let types = map (λ key. key.ty) fitted in
    let count = length (map type_of rows) in
    let both = some_if (nat_lt 0 (length fitted) && (list_all key_fits fitted && has_rows types count)) (join_all (map type_of rows)) t (sym (type_of_node (nodes.Table keys rows)) ∙ typed) in
    let fits = and_parts (list_all key_fits fitted) (has_rows types count) (and_parts (nat_lt 0 (length fitted)) (list_all key_fits fitted && has_rows types count) both.0).1 in
    let as_many = and_parts (count == length (joint_values_of types)) (nat_le count 4096) fits.1 in
    let is : count ≡ length (joint_values_of types) = eqb-true count (length (joint_values_of types)) as_many.0 in
    let few : count ≤ 4096 = leb-true count 4096 as_many.1 in
    let some = joined_some (map type_of rows) t both.1 in
    let small : AreSmall types = record { finite = keys_finite fitted fits.0; few = omega (arith, is, few) } in
    subst (λ ts. AreSmall ts × (0 < length (joint_values_of ts))) (keys_typed type_of keys) (small, omega (arith, is, some))
