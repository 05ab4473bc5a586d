use Rattle.std.proofs.Common.{◌≡◌, IfOk, subst, sym}
use Rattle.og_syntax.proofs.expressions.+expression_copies.Goals as goal

pub ExprTree::copy-returns-in-Table : goal.ExprTree::copy-returns-in-Table
ExprTree::copy-returns-in-Table t c =
    subst (λ e. IfOk c.table.result (λ made. made ≡ e)) (sym c.in-Table.is)
    (c.table.ensures _ _ c.copy_results.ensures c.copy_table_rows.ensures)

pub ExprTree::copy-returns-in-Ratio : goal.ExprTree::copy-returns-in-Ratio
ExprTree::copy-returns-in-Ratio t c =
    subst (λ e. IfOk c.ratio.result (λ made. made ≡ e)) (sym c.in-Ratio.is)
    (c.ratio.ensures _ _ _ c.copy_box-in-Ratio.ensures c.copy_box-in-Ratio-2.ensures c.copy_box-in-Ratio-3.ensures)

pub ExprTree::copy-returns-in-Compare : goal.ExprTree::copy-returns-in-Compare
ExprTree::copy-returns-in-Compare t c =
    subst (λ e. IfOk c.compare.result (λ made. made ≡ e)) (sym c.in-Compare.is)
    (c.compare.ensures _ _ c.copy_box-in-Compare.ensures c.copy_box-in-Compare-2.ensures)

pub ExprTree::copy-returns-in-Sum : goal.ExprTree::copy-returns-in-Sum
ExprTree::copy-returns-in-Sum t c =
    subst (λ e. IfOk c.sum.result (λ made. made ≡ e)) (sym c.in-Sum.is)
    (c.sum.ensures _ _ c.copy_box-in-Sum.ensures c.copy_sum_parts.ensures)

pub ExprTree::copy-returns-in-Call : goal.ExprTree::copy-returns-in-Call
ExprTree::copy-returns-in-Call t c =
    subst (λ e. IfOk c.call.result (λ made. made ≡ e)) (sym c.in-Call.is)
    (c.call.ensures _ _ c.copy-in-Call.ensures c.copy_exprs.ensures)

pub ExprTree::copy-returns-in-Product : goal.ExprTree::copy-returns-in-Product
ExprTree::copy-returns-in-Product t c =
    subst (λ e. IfOk c.product.result (λ made. made ≡ e)) (sym c.in-Product.is)
    (c.product.ensures _ _ c.copy_box-in-Product.ensures c.copy_product_parts.ensures)

pub ExprTree::copy-returns-in-If : goal.ExprTree::copy-returns-in-If
ExprTree::copy-returns-in-If t c =
    subst (λ e. IfOk c.choice.result (λ made. made ≡ e)) (sym c.in-If.is)
    (c.choice.ensures _ _ c.copy_if_arms.ensures c.copy_box-in-If.ensures)

pub ExprTree::copy-returns-in-Min : goal.ExprTree::copy-returns-in-Min
ExprTree::copy-returns-in-Min t c =
    subst (λ e. IfOk c.lesser.result (λ made. made ≡ e)) (sym c.in-Min.is)
    (c.lesser.ensures _ _ c.copy_box-in-Min.ensures c.copy_box-in-Min-2.ensures)

pub ExprTree::copy-returns-in-Max : goal.ExprTree::copy-returns-in-Max
ExprTree::copy-returns-in-Max t c =
    subst (λ e. IfOk c.greater.result (λ made. made ≡ e)) (sym c.in-Max.is)
    (c.greater.ensures _ _ c.copy_box-in-Max.ensures c.copy_box-in-Max-2.ensures)
