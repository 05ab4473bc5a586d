-- The mechanisms that the program brings, each with its name, its ports and its two meanings.
use Rattle.std.specs.Prelude.{ℕ, pos, List, [], ◌∷◌, Option, codes}
use Rattle.og_frac.specs.Fraction.{whole}
use Rattle.og_types.specs.declared.value.Value.{Value}
use Rattle.og_native.specs.declared.ports.Ports.{Ports}
use Rattle.og_native.specs.declared.auction.Tie.TheVariants as ties
use Rattle.og_native.specs.declared.mechanism.Mechanism.{Mechanism}
use Rattle.og_native.specs.declared.mechanism.Mechanism.TheVariants.{FirstPrice, SecondPrice, AllPay, Split}
use Rattle.og_native.specs.Laws.{auction, first_price_payoffs, second_price_payoffs, all_pay_payoffs, shares, split_payoffs}
use Rattle.og_native.specs.Ports.{auction_ports, split_ports}

abbrev pub name_of : Mechanism → List ℕ
name_of (FirstPrice m) = codes "first_price2"
name_of (SecondPrice m) = codes "second_price2"
name_of (AllPay m) = codes "all_pay2"
name_of (Split m) = codes "split2"

abbrev pub ports_of : Mechanism → Ports
ports_of (Split m) = split_ports
ports_of _ = auction_ports

-- from inputs to outputs
abbrev pub played : Mechanism → List Value → Option (List Value)
played (FirstPrice m) = auction m.reserve m.tie
played (SecondPrice m) = auction m.reserve m.tie
played (AllPay m) = auction m.reserve m.tie
played (Split m) = shares

-- from inputs and returns to feedback
abbrev pub payoffs : Mechanism → List Value → List Value → Option (List Value)
payoffs (FirstPrice m) = first_price_payoffs m.reserve m.tie
payoffs (SecondPrice m) = second_price_payoffs m.reserve m.tie
payoffs (AllPay m) = all_pay_payoffs m.reserve m.tie
payoffs (Split m) = split_payoffs

-- with reserve 0, and ties to the first bidder
abbrev pub shipped : List Mechanism
shipped =
    FirstPrice (record { reserve = whole (pos 0); tie = ties.First })
    ∷ SecondPrice (record { reserve = whole (pos 0); tie = ties.First })
    ∷ AllPay (record { reserve = whole (pos 0); tie = ties.First })
    ∷ Split (record {}) ∷ []
