-- Trees that stand for the variables of a body go in their place.
use Rattle.std.proofs.Common.{◌≡◌, true, List, sym, true≢false}
use Rattle.std.specs.Prelude.{Option, Some, None, slice_get}
use Rattle.og_types.specs.declared.ty.Ty.{Ty}
use Rattle.og_expr.specs.declared.node.Term.{Term}
use Rattle.og_expr.specs.Variables.{all_variables}
use Rattle.og_expr.specs.Replaced.{takes, fits_as}
use Rattle.og_expr.proofs.Occurrences.{all_is}
use Rattle.og_inlining.specs.Trees.{tree_goes, stands_for}

stands : (o : Option Term) (t : Ty) → tree_goes t o ≡ true → fits_as o t ≡ true
stands None t goes = absurd (true≢false (sym goes))
stands (Some e) t goes = goes

pub takes_all : (trees : List Term) (body : Term) → all_variables (stands_for trees) body ≡ true
    → all_variables (takes trees) body ≡ true
takes_all trees body all =
    (all_is (takes trees) body).1 (λ v there. stands (slice_get trees v.0) v.1 ((all_is (stands_for trees) body).0 all v there))

pub ruleset taken = (takes_all)
