-- Who wins an auction with two bidders, what each bidder gets, and how a prize is split between two. A payoff is
-- nothing where a number that its case names doesn't fit.
use Rattle.std.specs.Prelude.{Bool, ◌&&◌, if◌then◌else◌, pos, Option, Some, option_and_then}
use Rattle.std.specs.Ordering.{is_lt}
use Rattle.std.specs.declared.cmp.Ordering.{Ordering}
use Rattle.std.specs.declared.cmp.Ordering.TheVariants as orderings
use Rattle.og_frac.specs.Fraction.{Fraction, whole, sum, difference, product, order}
use Rattle.og_frac.specs.Fitting.{fitting, greater, ratio_of}
use Rattle.og_native.specs.declared.auction.Tie.{Tie}
use Rattle.og_native.specs.declared.auction.Tie.TheVariants as ties
use Rattle.og_native.specs.declared.auction.Winner.{Winner}
use Rattle.og_native.specs.declared.auction.Winner.TheVariants as winners

-- what each of the two gets
abbrev pub Payoffs : Type 0
Payoffs = Option Fraction × Option Fraction

abbrev pub zero : Fraction
zero = whole (pos 0)

-- the first number less the second
abbrev pub less : Fraction → Fraction → Option Fraction
less p q = fitting (difference p q)

-- ---- who wins

abbrev pub is_below : Fraction → Fraction → Bool
is_below bid reserve = is_lt (order bid reserve)

-- by how the first's bid stands to the second's
abbrev pub higher : Tie → Ordering → Winner
higher tie orderings.Greater = winners.First
higher tie orderings.Less = winners.Second
higher ties.First orderings.Equal = winners.First
higher ties.Second orderings.Equal = winners.Second

-- nobody where both bids are below the reserve, and else the higher bidder
abbrev pub winner : Fraction → Tie → Fraction → Fraction → Winner
winner reserve tie x y =
    if is_below x reserve && is_below y reserve then winners.Nobody else higher tie (order x y)

-- ---- what the bidders get, with bids x and y and worths v and w

-- the winner pays its own bid
abbrev pub first_price : Winner → Fraction → Fraction → Fraction → Fraction → Payoffs
first_price winners.First x y v w = (less v x, Some zero)
first_price winners.Second x y v w = (Some zero, less w y)
first_price winners.Nobody x y v w = (Some zero, Some zero)

-- the winner pays the other's bid, or the reserve where that is greater
abbrev pub second_price : Fraction → Winner → Fraction → Fraction → Fraction → Fraction → Payoffs
second_price reserve winners.First x y v w = (less v (greater y reserve), Some zero)
second_price reserve winners.Second x y v w = (Some zero, less w (greater x reserve))
second_price reserve winners.Nobody x y v w = (Some zero, Some zero)

-- both pay their own bids
abbrev pub all_pay : Winner → Fraction → Fraction → Fraction → Fraction → Payoffs
all_pay winners.First x y v w = (less v x, less zero y)
all_pay winners.Second x y v w = (less zero x, less w y)
all_pay winners.Nobody x y v w = (less zero x, less zero y)

-- ---- a split of a prize by stakes x and y

-- the first's share: its part of both stakes, and a half where these add up to 0
abbrev pub share : Fraction → Fraction → Option Fraction
share x y =
    option_and_then (λ both. ratio_of x both (record { numerator = pos 1; denominator = 2 })) (fitting (sum x y))

-- a part of the prize, less the stake
abbrev pub winnings : Fraction → Fraction → Fraction → Option Fraction
winnings prize part stake = option_and_then (λ won. less won stake) (fitting (product prize part))

abbrev pub split : Fraction → Fraction → Fraction → Fraction → Payoffs
split first_share x y prize =
    (winnings prize first_share x, option_and_then (λ rest. winnings prize rest y) (less (whole (pos 1)) first_share))
