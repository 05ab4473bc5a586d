-- Lists of types that fit place by place, and the joins of two lists.
use Rattle.std.proofs.Common.{◌≡◌, true, List, [], map, length, ap, sym, subst, ◌∙◌}
use Rattle.std.specs.Prelude.{Option, Some, None, IsSomeAnd}
use Rattle.std.specs.Option.{option_map}
use Rattle.std.specs.List.{list_all}
use Rattle.std.specs.Cmp.Lexicographic.{pointwise}
use Rattle.og_types.specs.declared.value.Value.{Value}
use Rattle.og_types.specs.declared.value.Value.TheVariants as value
use Rattle.og_types.specs.declared.ty.Ty.{Ty}
use Rattle.og_types.specs.declared.ty.Ty.TheOpen.{Ty-F}
use Rattle.og_types.specs.declared.ty.Ty.TheOpen as one
use Rattle.og_types.specs.declared.ty.Ty.TheViews.{out-Ty}
use Rattle.og_types.specs.declared.ty.Ty.TheVariants as ty
use Rattle.og_types.specs.Ty.{fits, holds, join, joins, bounds_fit}
use Rattle.og_types.proofs.Pointwise.{pointwise_length}
use Rattle.og_types.proofs.TyLevels.{fits_tuples, holds_tuples, join_tuples, bounds_fit_tuple}
use Rattle.og_types.proofs.FitsLaws.{fits_itself, fits_along, fits_both_ways, fits_values}
use Rattle.og_types.proofs.JoinLaws.{join_fits, join_least, join_bounds}

pub lists_itself : (ts : List Ty) → pointwise fits ts ts ≡ true
lists_itself ts = sym (fits_tuples ts ts) ∙ fits_itself (ty.Tuple ts)

pub lists_along : (ts us ws : List Ty) → pointwise fits ts us ≡ true → pointwise fits us ws ≡ true
    → pointwise fits ts ws ≡ true
lists_along ts us ws p q =
    sym (fits_tuples ts ws)
    ∙ fits_along (ty.Tuple ts) (ty.Tuple us) (ty.Tuple ws) (fits_tuples ts us ∙ p) (fits_tuples us ws ∙ q)

pub lists_both_ways : (ts us : List Ty) → pointwise fits ts us ≡ true → pointwise fits us ts ≡ true → ts ≡ us
lists_both_ways ts us p q =
    parts_equal ts us
    (fits_both_ways (ty.Tuple ts) (ty.Tuple us) (fits_tuples ts us ∙ p) (fits_tuples us ts ∙ q))
  where
    parts : Ty-F Ty → List Ty
    parts (one.Tuple ws) = ws
    parts _ = []

    parts_equal : (ts us : List Ty) → ty.Tuple ts ≡ ty.Tuple us → ts ≡ us
    parts_equal ts us e = ap parts (sym (ty.outs-Tuple ts) ∙ ap out-Ty e ∙ ty.outs-Tuple us)

pub lists_pass : (ts us : List Ty) (vs : List Value) → pointwise fits ts us ≡ true → pointwise holds ts vs ≡ true
    → pointwise holds us vs ≡ true
lists_pass ts us vs p q =
    sym (holds_tuples us vs)
    ∙ fits_values (ty.Tuple ts) (ty.Tuple us) (value.Tuple vs) (fits_tuples ts us ∙ p) (holds_tuples ts vs ∙ q)

pub joins_fit : (ts us ws : List Ty) → joins (map join ts) us ≡ Some ws
    → (pointwise fits ts ws ≡ true) × (pointwise fits us ws ≡ true)
joins_fit ts us ws e =
    let both = join_fits (ty.Tuple ts) (ty.Tuple us) (ty.Tuple ws) (join_tuples ts us ∙ ap (option_map ty.Tuple) e) in
    (sym (fits_tuples ts ws) ∙ both.0, sym (fits_tuples us ws) ∙ both.1)

pub joins_least : (ts us ws : List Ty) → pointwise fits ts ws ≡ true → pointwise fits us ws ≡ true
    → IsSomeAnd (joins (map join ts) us) (λ least. pointwise fits least ws ≡ true)
joins_least ts us ws p q =
    by (joins (map join ts) us)
    (subst (λ o. IsSomeAnd o (λ least. fits least (ty.Tuple ws) ≡ true)) (join_tuples ts us)
    (join_least (ty.Tuple ts) (ty.Tuple us) (ty.Tuple ws) (fits_tuples ts ws ∙ p) (fits_tuples us ws ∙ q)))
  where
    by : (o : Option (List Ty)) → IsSomeAnd (option_map ty.Tuple o) (λ least. fits least (ty.Tuple ws) ≡ true)
        → IsSomeAnd o (λ least. pointwise fits least ws ≡ true)
    by None h = h
    by (Some least) h = sym (fits_tuples least ws) ∙ h

pub joins_lengths : (ts us ws : List Ty) → joins (map join ts) us ≡ Some ws
    → (length ts ≡ length ws) × (length us ≡ length ws)
joins_lengths ts us ws e =
    let both = joins_fit ts us ws e in
    (pointwise_length fits ts ws both.0, pointwise_length fits us ws both.1)

pub joins_bounds : (ts us ws : List Ty) → list_all bounds_fit ts ≡ true → list_all bounds_fit us ≡ true
    → joins (map join ts) us ≡ Some ws → list_all bounds_fit ws ≡ true
joins_bounds ts us ws p q e =
    sym (bounds_fit_tuple ws)
    ∙ join_bounds (ty.Tuple ts) (ty.Tuple us) (ty.Tuple ws) (bounds_fit_tuple ts ∙ p) (bounds_fit_tuple us ∙ q)
    (join_tuples ts us ∙ ap (option_map ty.Tuple) e)
