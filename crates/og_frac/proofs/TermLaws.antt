-- Laws of the sums of terms.
use Rattle.std.proofs.Common.{◌≡◌, ℕ, suc, ◌+◌, ◌*◌, ◌^◌, ◌<◌, ◌≤◌, ℤ, pos, negsuc, List, [], ◌∷◌, ◌++◌, length, take, drop, get_or, arith, refl, sym, ap, subst, ◌∙◌, add-one}
use Rattle.std.proofs.lemmas.List.{take_more}
use Rattle.std.proofs.Math.IntN.{neg_ℤ}
use Rattle.std.proofs.lemmas.Int.{ints}
use Rattle.std.proofs.Math.Seq.{drop-cons}
use Rattle.std.proofs.Math.Nat.{one-mul}
use Rattle.std.specs.Prelude.{◌+ℤ◌, ◌*ℤ◌, unsigned_abs, Option, Some, None}
use Rattle.std.specs.Option.{ForSome}
use Rattle.og_frac.specs.declared.terms.Term.{Term}
use Rattle.og_frac.specs.Fraction.{IsFrac, least_common_multiple, sign}
use Rattle.og_frac.specs.Terms.{common_denominator, value_over, absolute_over, part_over, size_over, AllFracs, IsBelowLimit}
use Rattle.og_frac.specs.laws.Integers.{neg_times}
use Rattle.og_frac.proofs.Multiples.{least_common_multiple_positive, least_common_multiple_comm, least_common_multiple_assoc}

pub common_denominator_positive : (ts : List Term) → AllFracs ts → 0 < common_denominator ts
common_denominator_positive [] h = omega arith
common_denominator_positive (t ∷ ts) h = least_common_multiple_positive _ _ h.0.lowest.positive (common_denominator_positive ts h.1)

exchanged : (a b c : ℕ) → 0 < a → 0 < b → 0 < c → least_common_multiple a (least_common_multiple b c) ≡ least_common_multiple b (least_common_multiple a c)
exchanged a b c h k l =
    sym (least_common_multiple_assoc a b c h k l) ∙ ap (λ n. least_common_multiple n c) (least_common_multiple_comm a b h k) ∙ least_common_multiple_assoc b a c k h l

common_denominator_more : (ts : List Term) (t : Term) → AllFracs ts → IsFrac t.pay → common_denominator (ts ++ t ∷ []) ≡ least_common_multiple t.pay.denominator (common_denominator ts)
common_denominator_more [] t h k = refl
common_denominator_more (x ∷ ts) t h k =
    ap (least_common_multiple x.pay.denominator) (common_denominator_more ts t h.1 k)
    ∙ exchanged _ _ _ h.0.lowest.positive k.lowest.positive (common_denominator_positive ts h.1)

AllFracs_more : (ts : List Term) (t : Term) → AllFracs ts → IsFrac t.pay → AllFracs (ts ++ t ∷ [])
AllFracs_more [] t h k = (k, tt)
AllFracs_more (x ∷ ts) t h k = (h.0, AllFracs_more ts t h.1 k)

-- one more term of a list
pub AllFracs_next : (ts : List Term) (i : ℕ) (d : Term) → i < length ts → AllFracs (take i ts) → IsFrac (get_or ts i d).pay → AllFracs (take (i + 1) ts)
AllFracs_next ts i d lt h k = subst AllFracs (sym (take_more ts i d lt)) (AllFracs_more (take i ts) (get_or ts i d) h k)

pub common_denominator_next : (ts : List Term) (i : ℕ) (d : Term) → i < length ts → AllFracs (take i ts) → IsFrac (get_or ts i d).pay → common_denominator (take (i + 1) ts) ≡ least_common_multiple (get_or ts i d).pay.denominator (common_denominator (take i ts))
common_denominator_next ts i d lt h k = ap common_denominator (take_more ts i d lt) ∙ common_denominator_more (take i ts) (get_or ts i d) h k

pub common_below : (o : Option ℕ) (ts : List Term) → AllFracs ts → IsBelowLimit o (common_denominator ts) → ForSome o (λ c. (0 < c) × (c < 2 ^ 63))
common_below None ts h b x e = absurd (cc)
common_below (Some c) ts h b x e =
    let positive = common_denominator_positive ts h in
    let same : x ≡ common_denominator ts = let f : c ≡ x = cc in sym f ∙ b.0 in
    let small = b.1 in
    (omega arith, omega arith)

pub absolute_over_step : (common : ℕ) (ts : List Term) (i : ℕ) (d : Term) → i < length ts → absolute_over common (drop i ts) ≡ size_over common (get_or ts i d) + absolute_over common (drop (i + 1) ts)
absolute_over_step common ts i d lt = ap (absolute_over common) (drop-cons ts i d lt) ∙ ap (λ n. size_over common (get_or ts i d) + absolute_over common (drop n ts)) (sym (add-one i))

pub value_over_step : (common : ℕ) (ts : List Term) (i : ℕ) (d : Term) → i < length ts → value_over common (drop i ts) ≡ part_over common (get_or ts i d) +ℤ value_over common (drop (i + 1) ts)
value_over_step common ts i d lt = ap (value_over common) (drop-cons ts i d lt) ∙ ap (λ n. part_over common (get_or ts i d) +ℤ value_over common (drop n ts)) (sym (add-one i))

-- the size with the sign is the part
pub sign_size : (w : ℕ) (n : ℤ) (s : ℕ) → sign n *ℤ pos (w * unsigned_abs n * s) ≡ pos w *ℤ n *ℤ pos s
sign_size w (pos n) s = ap pos (one-mul (w * n * s))
sign_size w (negsuc n) s = ap (λ k. neg_ℤ (pos k)) (one-mul (w * suc n * s)) ∙ sym (neg_times (w * suc n) s)

pub next_value : (before part now rest left total : ℤ) → before +ℤ rest ≡ total → rest ≡ part +ℤ left → now ≡ before +ℤ part → now +ℤ left ≡ total
next_value before part now rest left total h k e = omega (arith, ints)

-- the sum of two numbers is no larger than their sizes
pub unsigned_abs-add : (a b : ℤ) (m n : ℕ) → unsigned_abs a ≤ m → unsigned_abs b ≡ n → unsigned_abs (a +ℤ b) ≤ m + n
unsigned_abs-add a b m n h k = omega (arith, ints)
