-- How the values of types are counted.
use Rattle.std.proofs.Common.{◌≡◌, ℕ, zero, suc, ℤ, pos, ◌+◌, ◌*◌, ◌<◌, ◌≤◌, min, Bool, true, false, ◌&&◌, List, ◌∷◌, length, get_or, drop, ap, sym, ◌∙◌, refl, inl, inr, arith}
use Rattle.std.specs.Prelude.{Some}
use Rattle.std.specs.List.{list_all}
use Rattle.std.specs.Prelude.{◌+ℤ◌}
use Rattle.og_frac.specs.Fraction.{whole}
use Rattle.std.proofs.Math.Nat.{mul-suc}
use Rattle.std.proofs.lemmas.Bool.{cases_lt}
use Rattle.std.proofs.lemmas.List.{length-map}
use Rattle.std.proofs.lemmas.List.FromFn.{length-map-range_with_len}
use Rattle.og_types.specs.declared.value.Value.{Value}
use Rattle.og_types.specs.declared.ty.Ty.{Ty}
use Rattle.og_types.specs.declared.ty.Ty.TheVariants as ty
use Rattle.og_types.specs.Ty.{is_finite}
use Rattle.og_types.specs.Values.{values_of, joint_values_of, capped_count, span, IsSmall, AreSmall}
use Rattle.og_types.specs.declared.value.Value.TheVariants as value
use Rattle.og_list.proofs.Drop.{drop_at}
use Rattle.og_types.proofs.TyLevels.{is_finite_tuple, values_tuple, is_finite_enum, values_enum, is_finite_range, values_range}
use Rattle.og_types.proofs.Tuples.{length_product}

pub capped_count_tuple : (ts : List Ty) → capped_count (is_finite (ty.Tuple ts)) (length (values_of (ty.Tuple ts))) ≡ capped_count (list_all is_finite ts) (length (joint_values_of ts))
capped_count_tuple ts = λ j. capped_count (is_finite_tuple ts j) ((ap length (values_tuple ts) ∙ length-map (joint_values_of ts) value.Tuple) j)

stopped : (p b : ℕ) → min (min p 4097 * b) 4097 ≡ min (p * b) 4097
stopped p zero = omega arith
stopped p (suc b) = elim (cases_lt p 4097) [
  | inl low ↦ let e : min p 4097 ≡ p = omega arith in (λ j. min (e j * suc b) 4097)
  | inr high ↦ let e : min p 4097 ≡ 4097 = omega arith in (λ j. min (e j * suc b) 4097) ∙ omega (arith, mul-suc p b)
]

-- a product may be stopped at each factor
stopped_product : (many a b : ℕ) → min (min (many * min a 4097) 4097 * b) 4097 ≡ min (many * (a * b)) 4097
stopped_product many a b =
    stopped (many * min a 4097) b ∙ ap (λ n. min n 4097) (let turned : many * min a 4097 * b ≡ min a 4097 * (many * b) = omega arith in turned) ∙ stopped a (many * b) ∙ ap (λ n. min n 4097) (let turned : a * (many * b) ≡ many * (a * b) = omega arith in turned)

pub capped_count_goes : (ts : List Ty) (i : ℕ) (t : Ty) (many c next : ℕ) → i < length ts → t ≡ get_or ts i t → capped_count (is_finite t) (length (values_of t)) ≡ Some c → next ≡ min (many * c) 4097 → capped_count (list_all is_finite (drop (i + 1) ts)) (next * length (joint_values_of (drop (i + 1) ts))) ≡ capped_count (list_all is_finite (drop i ts)) (many * length (joint_values_of (drop i ts)))
capped_count_goes ts i t many c next h p e f =
    ap (λ n. capped_count (list_all is_finite (drop (i + 1) ts)) (n * length rest)) f ∙ by (is_finite t) (list_all is_finite (drop (i + 1) ts)) e ∙ sym (λ j. capped_count (list_all is_finite (drop_at ts i t h p j)) (many * length (joint_values_of (drop_at ts i t h p j))))
  where
    rest : List (List Value)
    rest = joint_values_of (drop (i + 1) ts)

    by : (here after : Bool) → capped_count here (length (values_of t)) ≡ Some c → capped_count after (min (many * c) 4097 * length rest) ≡ capped_count (here && after) (many * length (joint_values_of (t ∷ drop (i + 1) ts)))
    by false after f = absurd (cc)
    by true false f = refl
    by true true f = ap Some ((let stopped : c ≡ min (length (values_of t)) 4097 = cc in λ j. min (min (many * stopped j) 4097 * length rest) 4097) ∙ stopped_product many (length (values_of t)) (length rest) ∙ ap (λ n. min (many * n) 4097) (sym (length_product (values_of t) rest)))

pub capped_count_enum : (family n : ℕ) → Some (min n 4097) ≡ capped_count (is_finite (ty.Enum family n)) (length (values_of (ty.Enum family n)))
capped_count_enum family n =
    ap (λ k. Some (min k 4097)) (sym (length-map-range_with_len (λ index. value.Case family index) 0 n)) ∙ (λ j. capped_count (sym (is_finite_enum family n) j) (length (sym (values_enum family n) j)))

pub capped_count_range : (low high : ℤ) → Some (min (span low high) 4097) ≡ capped_count (is_finite (ty.Range low high)) (length (values_of (ty.Range low high)))
capped_count_range low high =
    ap (λ k. Some (min k 4097)) (sym (length-map-range_with_len (λ k. value.Number (whole (low +ℤ pos k))) 0 (span low high))) ∙ (λ j. capped_count (sym (is_finite_range low high) j) (length (sym (values_range low high) j)))

few_from_count : (finite : Bool) (many n : ℕ) → capped_count finite many ≡ Some n → n ≤ 4096 → (finite ≡ true) × (many ≤ 4096)
few_from_count true many n e h = let capped : min many 4097 ≡ n = cc in (refl, omega arith)
few_from_count false many n e h = absurd (cc)

pub small_from_count : (t : Ty) (n : ℕ) → capped_count (is_finite t) (length (values_of t)) ≡ Some n → n ≤ 4096 → IsSmall t
small_from_count t n e h = let few = few_from_count (is_finite t) (length (values_of t)) n e h in record { finite = few.0; few = few.1 }

pub small_from_joint_count : (ts : List Ty) (n : ℕ) → capped_count (list_all is_finite ts) (length (joint_values_of ts)) ≡ Some n → n ≤ 4096 → AreSmall ts
small_from_joint_count ts n e h = let few = few_from_count (list_all is_finite ts) (length (joint_values_of ts)) n e h in record { finite = few.0; few = few.1 }

-- the count of each form of type
pub ruleset capped_counts = (capped_count_tuple, capped_count_enum, capped_count_range)
