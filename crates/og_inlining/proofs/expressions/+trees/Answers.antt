use Rattle.std.proofs.Common.{◌≡◌, ◌∙◌, ℕ, IfOk, [], map, subst, sym, ap}
use Rattle.std.specs.Option.{option_copied}
use Rattle.std.proofs.Common.{arith}
use Rattle.std.proofs.lemmas.Grind.{common_steps}
use Rattle.og_expr.specs.Variables.{numbers_of}
use Rattle.og_inlining.specs.Steps.{Gives}
use Rattle.og_inlining.specs.Seen.{seen_of}
use Rattle.og_inlining.specs.Trees.{tree_in, arguments, occurs}
use Rattle.og_inlining.proofs.Calling.{call_gives, ratio_gives}
use Rattle.og_inlining.proofs.Ordering.{row_next, row_none}
use Rattle.og_inlining.proofs.expressions.+trees.Goals as goal

pub called-returns-in_ok-trees-in-Some : goal.called-returns-in_ok-trees-in-Some
called-returns-in_ok-trees-in-Some t c =
    call_gives (seen_of c.args.seen.now) c.args.name.now (map tree_in c.args.args.now) c.in-Some.body.now
    c.in_ok-used-in-Some.used c.in_ok-trees-in-Some.trees c.placed.result
    (sym c.get.ensures ∙ ap option_copied c.in-Some.is)
    (subst (λ r. IfOk r (λ found. (k : ℕ) → occurs found k ≡ occurs (numbers_of c.in-Some.body.now) k)) (c.in_ok-used-in-Some.was) c.used_by.ensures)
    (subst (λ r. Gives (arguments (seen_of c.args.seen.now) (occurs c.in_ok-used-in-Some.used) 0 [] (map tree_in c.args.args.now)) r)
    (c.in_ok-trees-in-Some.was) c.arguments.ensures)
    c.placed.ensures

pub rows_in-returns-in_err-tree-in-Some : goal.rows_in-returns-in_err-tree-in-Some
rows_in-returns-in_err-tree-in-Some t c = grind (
  arith,
  common_steps,
  row_next (seen_of c.args.seen.now) c.args.rows.now c.args.order.now c.order.at-index c.order.found,
)

pub rows_in-returns-in-None : goal.rows_in-returns-in-None
rows_in-returns-in-None t c = grind (
  arith,
  common_steps,
  row_none (seen_of c.args.seen.now) c.args.rows.now c.args.order.now c.order.at-index c.order.found,
)

pub rows_in-order-preserved : goal.rows_in-order-preserved
rows_in-order-preserved t c = grind (
  arith,
  common_steps,
  row_next (seen_of c.args.seen.now) c.args.rows.now c.args.order.now c.order.at-index c.order.found,
)

pub quotient-returns : goal.quotient-returns
quotient-returns t c =
    ratio_gives (seen_of c.args.seen.now) c.args.e.now c.in-Ratio.at c.in-Ratio.x c.in-Ratio.y c.in-Ratio.otherwise
    c.in_ok-x-in-Ratio.x c.in_ok-y-in-Ratio.y c.ratio.result c.in-Ratio.is
    (subst (λ r. Gives (tree_in c.in-Ratio.x (seen_of c.args.seen.now)) r) c.in_ok-x-in-Ratio.was
    (subst (λ e. Gives (tree_in e (seen_of c.args.seen.now)) c.tree.result) c.get.ensures c.tree.ensures))
    (subst (λ r. Gives (tree_in c.in-Ratio.y (seen_of c.args.seen.now)) r) c.in_ok-y-in-Ratio.was
    (subst (λ e. Gives (tree_in e (seen_of c.args.seen.now)) c.tree-in-Ratio.result) c.get-in-Ratio.ensures c.tree-in-Ratio.ensures))
    (c.ratio.ensures (tree_in c.in-Ratio.otherwise (seen_of c.args.seen.now))
    (subst (λ e. Gives (tree_in e (seen_of c.args.seen.now)) c.tree-in-Ratio-2.result) c.get-in-Ratio-2.ensures c.tree-in-Ratio-2.ensures))
