-- The ports of the mechanisms are ports of a game.
use Rattle.std.proofs.Common.{◌≡◌, ℕ, pos, Bool, true, ◌&&◌, [], ◌∷◌, length, ap, sym, ◌∙◌}
use Rattle.std.specs.Prelude.{nat_le, if◌then◌else◌}
use Rattle.og_types.specs.declared.ty.Ty.{Ty}
use Rattle.og_types.specs.declared.ty.Ty.TheOpen.{Ty-F}
use Rattle.og_types.specs.declared.ty.Ty.TheOpen as one
use Rattle.og_types.specs.declared.ty.Ty.TheViews.{roll-Ty}
use Rattle.og_types.specs.declared.ty.Ty.TheFolds.{fold-Ty, fold-roll-Ty, map-Ty}
use Rattle.og_types.specs.declared.ty.Ty.TheVariants as ty
use Rattle.og_types.specs.Ty.{is_finite_step}
use Rattle.og_types.specs.Values.{values_of, values_step}
use Rattle.og_native.specs.Ports.{is_plain_step, is_formed_step, height_step, nodes_step, is_port, are_types, are_ports, auction_ports, split_ports}

-- a fold at a form of type
fold_at : {X : Type 0} (step : Ty-F X → X) (z : Ty-F Ty) (t : Ty) → roll-Ty z ≡ t
    → fold-Ty X step t ≡ step (map-Ty Ty X (fold-Ty X step) z)
fold_at {X} step z t e = ap (fold-Ty X step) (sym e) ∙ fold-roll-Ty X step z

-- the four limits, and whether they are kept
within : (plain formed finite : Bool) (high many count : ℕ) → Bool
within plain formed finite high many count =
    plain && (formed && (nat_le high 8 && (nat_le many 32 && (if finite then nat_le count 4096 else true))))

number_port : is_port ty.Number ≡ true
unfolding within
number_port = (λ i. within (fold_at is_plain_step one.Number ty.Number ty.rolls-Number i)
    (fold_at is_formed_step one.Number ty.Number ty.rolls-Number i)
    (fold_at is_finite_step one.Number ty.Number ty.rolls-Number i)
    (fold_at height_step one.Number ty.Number ty.rolls-Number i)
    (fold_at nodes_step one.Number ty.Number ty.rolls-Number i)
    (length (values_of ty.Number)))

winner_port : is_port (ty.Range (pos 0) (pos 2)) ≡ true
unfolding within
winner_port =
    let z : Ty-F Ty = one.Range (pos 0) (pos 2) in
    let t = ty.Range (pos 0) (pos 2) in
    let e = ty.rolls-Range (pos 0) (pos 2) in
    (λ i. within (fold_at is_plain_step z t e i) (fold_at is_formed_step z t e i) (fold_at is_finite_step z t e i) (fold_at height_step z t e i)
    (fold_at nodes_step z t e i) (length (fold_at values_step z t e i)))

numbers_fit : are_types (ty.Number ∷ ty.Number ∷ []) ≡ true
numbers_fit = (λ i. number_port i && (number_port i && true))

number_fits : are_types (ty.Number ∷ []) ≡ true
number_fits = (λ i. number_port i && true)

winner_fits : are_types (ty.Range (pos 0) (pos 2) ∷ []) ≡ true
winner_fits = (λ i. winner_port i && true)

pub auction_fits : are_ports auction_ports ≡ true
auction_fits = (λ i. numbers_fit i && (numbers_fit i && (winner_fits i && numbers_fit i)))

pub split_fits : are_ports split_ports ≡ true
split_fits = (λ i. numbers_fit i && (numbers_fit i && (number_fits i && number_fits i)))
