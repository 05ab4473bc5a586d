-- A law of a host program's own: it gives the second stake, and nothing where the first is 0, and pays the prize to each.
use Rattle.std.specs.Prelude.{pos, List, [], ◌∷◌, Option, Some, None, if◌then◌else◌}
use Rattle.std.specs.Ordering.{int_eq}
use Rattle.og_types.specs.declared.value.Value.{Value}
use Rattle.og_types.specs.declared.value.Value.TheVariants as value
use Rattle.og_native.specs.Laws.{of_one, of_two}

abbrev pub second : List Value → Option (List Value)
second = of_two (λ x y. if int_eq x.numerator (pos 0) then None else Some (value.Number y ∷ []))

abbrev pub prize_each : List Value → List Value → Option (List Value)
prize_each stakes = of_one (λ p. Some (value.Number p ∷ value.Number p ∷ []))
