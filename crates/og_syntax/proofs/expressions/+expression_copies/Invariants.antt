use Rattle.std.proofs.Common.{◌≡◌, take}
use Rattle.og_syntax.proofs.expressions.+expression_copies.Given as goal

abbrev pub invariant-copy_exprs-exprs : goal.invariant-copy_exprs-exprs
invariant-copy_exprs-exprs l = l.all ≡ take l.expr-index l.exprs

abbrev pub invariant-copy_sum_parts-parts : goal.invariant-copy_sum_parts-parts
invariant-copy_sum_parts-parts l = l.all ≡ take l.part-index l.parts

abbrev pub invariant-copy_product_parts-parts : goal.invariant-copy_product_parts-parts
invariant-copy_product_parts-parts l = l.all ≡ take l.part-index l.parts

abbrev pub invariant-copy_if_arms-arms : goal.invariant-copy_if_arms-arms
invariant-copy_if_arms-arms l = l.all ≡ take l.arm-index l.arms

abbrev pub invariant-copy_results-results : goal.invariant-copy_results-results
invariant-copy_results-results l = l.all ≡ take l.one-index l.results

abbrev pub invariant-copy_table_rows-rows : goal.invariant-copy_table_rows-rows
invariant-copy_table_rows-rows l = l.all ≡ take l.row-index l.rows
