-- The laws of four mechanisms, over lists of values.
use Rattle.std.specs.Prelude.{ℕ, pos, List, [], ◌∷◌, Option, Some, None, option_and_then}
use Rattle.std.specs.Option.{option_map}
use Rattle.og_frac.specs.Fraction.{Fraction, whole}
use Rattle.og_types.specs.declared.value.Value.{Value}
use Rattle.og_types.specs.declared.value.Value.TheVariants as value
use Rattle.og_types.specs.Value.{number_of}
use Rattle.og_native.specs.declared.auction.Tie.{Tie}
use Rattle.og_native.specs.declared.auction.Winner.{Winner}
use Rattle.og_native.specs.declared.auction.Winner.TheVariants as winners
use Rattle.og_native.specs.Mechanisms.{Payoffs, winner, first_price, second_price, all_pay, share, split}

-- ---- numbers as values

-- of a list of two numbers
abbrev pub of_two : {A : Type 0} → (Fraction → Fraction → Option A) → List Value → Option A
of_two f (v ∷ w ∷ []) = option_and_then (λ x. option_and_then (λ y. f x y) (number_of w)) (number_of v)
of_two f _ = None

-- of a list of one number
abbrev pub of_one : {A : Type 0} → (Fraction → Option A) → List Value → Option A
of_one f (v ∷ []) = option_and_then (λ x. f x) (number_of v)
of_one f _ = None

-- both payoffs, where both are there
abbrev pub paid : Payoffs → Option (List Value)
paid payoffs =
    option_and_then (λ p. option_map (λ q. value.Number p ∷ value.Number q ∷ []) payoffs.1) payoffs.0

-- ---- auctions

abbrev pub number_of_winner : Winner → ℕ
number_of_winner winners.Nobody = 0
number_of_winner winners.First = 1
number_of_winner winners.Second = 2

-- the number of the winner: 1 and 2, or 0 for nobody
abbrev pub auction : Fraction → Tie → List Value → Option (List Value)
auction reserve tie =
    of_two (λ x y. Some (value.Number (whole (pos (number_of_winner (winner reserve tie x y)))) ∷ []))

-- what the bidders get, by who wins with their bids
abbrev pub payoffs_by : (Winner → Fraction → Fraction → Fraction → Fraction → Payoffs) → Fraction → Tie
    → List Value → List Value → Option (List Value)
payoffs_by rule reserve tie bids worths =
    of_two (λ x y. of_two (λ v w. paid (rule (winner reserve tie x y) x y v w)) worths) bids

abbrev pub first_price_payoffs : Fraction → Tie → List Value → List Value → Option (List Value)
first_price_payoffs = payoffs_by first_price

abbrev pub second_price_payoffs : Fraction → Tie → List Value → List Value → Option (List Value)
second_price_payoffs reserve = payoffs_by (second_price reserve) reserve

abbrev pub all_pay_payoffs : Fraction → Tie → List Value → List Value → Option (List Value)
all_pay_payoffs = payoffs_by all_pay

-- ---- splits

abbrev pub shares : List Value → Option (List Value)
shares = of_two (λ x y. option_map (λ s. value.Number s ∷ []) (share x y))

abbrev pub split_payoffs : List Value → List Value → Option (List Value)
split_payoffs stakes prizes =
    of_two (λ x y. option_and_then (λ s. of_one (λ prize. paid (split s x y prize)) prizes) (share x y)) stakes
