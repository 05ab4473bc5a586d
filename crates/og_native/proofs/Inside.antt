-- What the mechanisms answer is of their ports.
use Rattle.std.proofs.Common.{◌≡◌, ◌∙◌, pos, true, ◌&&◌, List, [], ◌∷◌, refl, subst}
use Rattle.std.specs.Prelude.{Option, Some, None, option_and_then}
use Rattle.std.specs.Option.{option_map}
use Rattle.std.specs.Cmp.Lexicographic.{pointwise}
use Rattle.og_frac.specs.Fraction.{Fraction, whole}
use Rattle.og_types.specs.declared.value.Value.{Value}
use Rattle.og_types.specs.declared.value.Value.TheVariants as value
use Rattle.og_types.specs.declared.ty.Ty.TheVariants as ty
use Rattle.og_types.specs.Ty.{holds, is_between}
use Rattle.og_types.specs.Value.{number_of}
use Rattle.og_types.proofs.Forms.{holds_number, holds_range}
use Rattle.og_native.specs.declared.auction.Tie.{Tie}
use Rattle.og_native.specs.declared.auction.Winner.{Winner}
use Rattle.og_native.specs.declared.auction.Winner.TheVariants as winners
use Rattle.og_native.specs.declared.mechanism.Mechanism.{Mechanism}
use Rattle.og_native.specs.declared.mechanism.Mechanism.TheVariants as mechanism
use Rattle.og_native.specs.Mechanisms.{Payoffs, winner, first_price, second_price, all_pay, share, split}
use Rattle.og_native.specs.Laws.{of_one, of_two, paid, number_of_winner, auction, payoffs_by, shares, split_payoffs}
use Rattle.og_native.specs.Ports.{are_outputs, are_feedback, auction_ports, split_ports}
use Rattle.og_native.specs.Shipped.{ports_of, played, payoffs}

-- ---- what comes of a list of numbers comes of numbers

found_two : {A : Type 0} (f : Fraction → Fraction → Option A) (o p : Option Fraction) (a : A)
    → option_and_then (λ x. option_and_then (λ y. f x y) p) o ≡ Some a
    → (x : Fraction) × (y : Fraction) × (f x y ≡ Some a)
found_two f None p a e = absurd (cc)
found_two f (Some x) None a e = absurd (cc)
found_two f (Some x) (Some y) a e = (x, y, e)

pub of_two_some : {A : Type 0} (f : Fraction → Fraction → Option A) (vs : List Value) (a : A) → of_two f vs ≡ Some a
    → (x : Fraction) × (y : Fraction) × (f x y ≡ Some a)
of_two_some f [] a e = absurd (cc)
of_two_some f (v ∷ []) a e = absurd (cc)
of_two_some f (v ∷ w ∷ []) a e = found_two f (number_of v) (number_of w) a e
of_two_some f (v ∷ w ∷ u ∷ vs) a e = absurd (cc)

found_one : {A : Type 0} (f : Fraction → Option A) (o : Option Fraction) (a : A)
    → option_and_then (λ x. f x) o ≡ Some a → (x : Fraction) × (f x ≡ Some a)
found_one f None a e = absurd (cc)
found_one f (Some x) a e = (x, e)

pub of_one_some : {A : Type 0} (f : Fraction → Option A) (vs : List Value) (a : A) → of_one f vs ≡ Some a
    → (x : Fraction) × (f x ≡ Some a)
of_one_some f [] a e = absurd (cc)
of_one_some f (v ∷ []) a e = found_one f (number_of v) a e
of_one_some f (v ∷ w ∷ vs) a e = absurd (cc)

-- ---- numbers at ports

pub one_number : (q : Fraction) → pointwise holds (ty.Number ∷ []) (value.Number q ∷ []) ≡ true
one_number q = λ i. holds_number q i && true

pub two_numbers : (p q : Fraction)
    → pointwise holds (ty.Number ∷ ty.Number ∷ []) (value.Number p ∷ value.Number q ∷ []) ≡ true
two_numbers p q = λ i. holds_number p i && (holds_number q i && true)

some_same : {A : Type 0} (a b : A) → Some a ≡ Some b → a ≡ b
some_same a b e = cc

both_paid : (o p : Option Fraction) (answer : List Value)
    → option_and_then (λ x. option_map (λ y. value.Number x ∷ value.Number y ∷ []) p) o ≡ Some answer
    → pointwise holds (ty.Number ∷ ty.Number ∷ []) answer ≡ true
both_paid None p answer e = absurd (cc)
both_paid (Some x) None answer e = absurd (cc)
both_paid (Some x) (Some y) answer e = subst (λ vs. pointwise holds (ty.Number ∷ ty.Number ∷ []) vs ≡ true)
    (some_same (value.Number x ∷ value.Number y ∷ []) answer e) (two_numbers x y)

paid_inside : (payoffs : Payoffs) (answer : List Value) → paid payoffs ≡ Some answer
    → pointwise holds (ty.Number ∷ ty.Number ∷ []) answer ≡ true
paid_inside payoffs answer e = both_paid payoffs.0 payoffs.1 answer e

-- ---- the mechanisms

winner_between : (who : Winner) → is_between (pos 0) (pos 2) (whole (pos (number_of_winner who))) ≡ true
winner_between winners.Nobody = refl
winner_between winners.First = refl
winner_between winners.Second = refl

winner_inside : (who : Winner)
    → pointwise holds (ty.Range (pos 0) (pos 2) ∷ []) (value.Number (whole (pos (number_of_winner who))) ∷ []) ≡ true
winner_inside who = λ i. (holds_range (pos 0) (pos 2) (whole (pos (number_of_winner who))) ∙ winner_between who) i && true

pub auction_inside : (reserve : Fraction) (tie : Tie) (bids answer : List Value) → auction reserve tie bids ≡ Some answer
    → are_outputs auction_ports answer ≡ true
auction_inside reserve tie bids answer e =
    let found = of_two_some
    (λ x y. Some (value.Number (whole (pos (number_of_winner (winner reserve tie x y)))) ∷ [])) bids answer e in
    subst (λ vs. are_outputs auction_ports vs ≡ true) (some_same _ answer found.2) (winner_inside (winner reserve tie found.0 found.1))

pub payoffs_inside : (rule : Winner → Fraction → Fraction → Fraction → Fraction → Payoffs) (reserve : Fraction) (tie : Tie)
    (bids worths answer : List Value) → payoffs_by rule reserve tie bids worths ≡ Some answer
    → are_feedback auction_ports answer ≡ true
payoffs_inside rule reserve tie bids worths answer e =
    let bid = of_two_some (λ x y. of_two (λ v w. paid (rule (winner reserve tie x y) x y v w)) worths) bids answer e in
    let worth = of_two_some (λ v w. paid (rule (winner reserve tie bid.0 bid.1) bid.0 bid.1 v w)) worths answer bid.2 in
    paid_inside (rule (winner reserve tie bid.0 bid.1) bid.0 bid.1 worth.0 worth.1) answer worth.2

share_inside : (o : Option Fraction) (answer : List Value) → option_map (λ s. value.Number s ∷ []) o ≡ Some answer
    → are_outputs split_ports answer ≡ true
share_inside None answer e = absurd (cc)
share_inside (Some s) answer e =
    subst (λ vs. are_outputs split_ports vs ≡ true) (some_same (value.Number s ∷ []) answer e) (one_number s)

pub shares_inside : (stakes answer : List Value) → shares stakes ≡ Some answer → are_outputs split_ports answer ≡ true
shares_inside stakes answer e =
    let found = of_two_some (λ x y. option_map (λ s. value.Number s ∷ []) (share x y)) stakes answer e in
    share_inside (share found.0 found.1) answer found.2

split_by : (o : Option Fraction) (x y : Fraction) (prizes answer : List Value)
    → option_and_then (λ s. of_one (λ prize. paid (split s x y prize)) prizes) o ≡ Some answer
    → are_feedback split_ports answer ≡ true
split_by None x y prizes answer e = absurd (cc)
split_by (Some s) x y prizes answer e =
    let prize = of_one_some (λ prize. paid (split s x y prize)) prizes answer e in
    paid_inside (split s x y prize.0) answer prize.1

pub split_inside : (stakes prizes answer : List Value) → split_payoffs stakes prizes ≡ Some answer
    → are_feedback split_ports answer ≡ true
split_inside stakes prizes answer e =
    let found = of_two_some (λ x y. option_and_then (λ s. of_one (λ prize. paid (split s x y prize)) prizes) (share x y))
    stakes answer e in
    split_by (share found.0 found.1) found.0 found.1 prizes answer found.2

-- ---- those that the program brings

pub plays_inside : (m : Mechanism) (inputs answer : List Value) → played m inputs ≡ Some answer
    → are_outputs (ports_of m) answer ≡ true
plays_inside (mechanism.FirstPrice m) = auction_inside m.reserve m.tie
plays_inside (mechanism.SecondPrice m) = auction_inside m.reserve m.tie
plays_inside (mechanism.AllPay m) = auction_inside m.reserve m.tie
plays_inside (mechanism.Split m) = shares_inside

pub pays_inside : (m : Mechanism) (inputs returns answer : List Value) → payoffs m inputs returns ≡ Some answer
    → are_feedback (ports_of m) answer ≡ true
pays_inside (mechanism.FirstPrice m) = payoffs_inside first_price m.reserve m.tie
pays_inside (mechanism.SecondPrice m) = payoffs_inside (second_price m.reserve) m.reserve m.tie
pays_inside (mechanism.AllPay m) = payoffs_inside all_pay m.reserve m.tie
pays_inside (mechanism.Split m) = split_inside
