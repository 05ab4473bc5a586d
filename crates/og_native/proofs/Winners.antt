-- The winner bids at least the reserve, and no less than the other.
use Rattle.std.proofs.Common.{◌≡◌, Bool, true, false, refl, ap, ◌∙◌}
use Rattle.std.specs.Prelude.{◌&&◌, if◌then◌else◌}
use Rattle.std.specs.Ordering.{is_lt, ordering_reverse}
use Rattle.std.specs.declared.cmp.Ordering.{Ordering}
use Rattle.std.specs.declared.cmp.Ordering.TheVariants.{Less, Equal, Greater}
use Rattle.og_frac.specs.Fraction.{Fraction, IsFrac, order}
use Rattle.og_frac.specs.laws.Orders.{order_reversed, order_equal, order_transitive}
use Rattle.og_frac.proofs.Rationals.{same_from_SameNumber}
use Rattle.og_native.specs.declared.auction.Tie.{Tie}
use Rattle.og_native.specs.declared.auction.Winner.{Winner}
use Rattle.og_native.specs.declared.auction.Winner.TheVariants as winners
use Rattle.og_native.specs.Mechanisms.{is_below, higher, winner}

-- ---- the order

is_less : (o : Ordering) → is_lt o ≡ true → o ≡ Less
is_less Less e = refl
is_less Equal e = cc
is_less Greater e = cc

-- what is below r is below all that isn't
below_others : (x r y : Fraction) → IsFrac x → IsFrac r → IsFrac y → order x r ≡ Less
    → (o : Ordering) → order y r ≡ o → is_lt o ≡ false → order x y ≡ Less
below_others x r y p q s h Less e isnt = cc
below_others x r y p q s h Equal e isnt =
    let same : y ≡ r = same_from_SameNumber y r s.lowest q.lowest ((order_equal y r).0 e) in
    ap (order x) same ∙ h
below_others x r y p q s h Greater e isnt =
    let above : order r y ≡ Less = order_reversed r y ∙ ap ordering_reverse e in
    order_transitive x r y p.lowest.positive q.lowest.positive s.lowest.positive h above

not_below_by : (x r y : Fraction) → IsFrac x → IsFrac r → IsFrac y
    → (s t : Bool) → is_below x r ≡ s → is_below y r ≡ t → (s && t) ≡ false → is_below x y ≡ false
    → is_below x r ≡ false
not_below_by x r y p q u true true e f both isnt = cc
not_below_by x r y p q u true false e f both isnt =
    let less : order x y ≡ Less = below_others x r y p q u (is_less (order x r) e) (order y r) refl f in
    absurd (cc)
not_below_by x r y p q u false t e f both isnt = e

-- of two that aren't both below r, the one that isn't below the other isn't below r
not_below : (x r y : Fraction) → IsFrac x → IsFrac r → IsFrac y
    → (is_below x r && is_below y r) ≡ false → is_below x y ≡ false → is_below x r ≡ false
not_below x r y p q u = not_below_by x r y p q u (is_below x r) (is_below y r) refl refl

-- ---- the winner

-- where somebody wins, not both are below, and the winner is the higher bidder
somebody : (b : Bool) (w v : Winner) → (winners.Nobody ≡ v → ⊥) → (if b then winners.Nobody else w) ≡ v
    → (b ≡ false) × (w ≡ v)
somebody true w v isnt e = absurd (isnt e)
somebody false w v isnt e = (refl, e)

first_is_higher : (tie : Tie) (o : Ordering) → higher tie o ≡ winners.First → is_lt o ≡ false
first_is_higher tie Less e = cc
first_is_higher tie Equal e = refl
first_is_higher tie Greater e = refl

second_is_higher : (tie : Tie) (o : Ordering) → higher tie o ≡ winners.Second → is_lt (ordering_reverse o) ≡ false
second_is_higher tie Less e = refl
second_is_higher tie Equal e = refl
second_is_higher tie Greater e = cc

pub first_wins : (reserve : Fraction) (tie : Tie) (x y : Fraction) → IsFrac reserve → IsFrac x → IsFrac y
    → winner reserve tie x y ≡ winners.First → (is_below x reserve ≡ false) × (is_below x y ≡ false)
first_wins reserve tie x y r p q e =
    let both = is_below x reserve && is_below y reserve in
    let won = somebody both (higher tie (order x y)) winners.First (λ h. cc) e in
    let isnt : is_below x y ≡ false = first_is_higher tie (order x y) won.1 in
    (not_below x reserve y p r q won.0 isnt, isnt)

and_swapped : (a b : Bool) → (a && b) ≡ false → (b && a) ≡ false
and_swapped true true e = e
and_swapped true false e = refl
and_swapped false true e = refl
and_swapped false false e = refl

pub second_wins : (reserve : Fraction) (tie : Tie) (x y : Fraction) → IsFrac reserve → IsFrac x → IsFrac y
    → winner reserve tie x y ≡ winners.Second → (is_below y reserve ≡ false) × (is_below y x ≡ false)
second_wins reserve tie x y r p q e =
    let both = is_below x reserve && is_below y reserve in
    let won = somebody both (higher tie (order x y)) winners.Second (λ h. cc) e in
    let isnt : is_below y x ≡ false = ap is_lt (order_reversed y x) ∙ second_is_higher tie (order x y) won.1 in
    (not_below y reserve x q r p (and_swapped (is_below x reserve) (is_below y reserve) won.0) isnt, isnt)
