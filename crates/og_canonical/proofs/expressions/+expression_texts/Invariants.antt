use Rattle.std.proofs.Common.{◌≡◌, ◌++◌, take, map}
use Rattle.std.specs.Prelude.{flat_map}
use Rattle.og_lex.specs.declared.token.Word.TheVariants as words
use Rattle.og_canonical.specs.Tokens.{word, joined}
use Rattle.og_canonical.specs.Expressions.{shown, at_least, expr_text, exprs_text, results_text, sum_part, product_part, arm_text, table_row_text}
use Rattle.og_canonical.proofs.expressions.+expression_texts.Given as goal

abbrev pub invariant-write_exprs-exprs : goal.invariant-write_exprs-exprs
invariant-write_exprs-exprs l = l.out ≡ l.initial.out ++ exprs_text (take l.at l.exprs)

abbrev pub invariant-write_chain-parts : goal.invariant-write_chain-parts
invariant-write_chain-parts l =
    l.out ≡ l.initial.out ++ joined (word l.between) (map (λ e. at_least l.asked (shown e)) (take l.at l.parts))

abbrev pub invariant-write_sum_parts-parts : goal.invariant-write_sum_parts-parts
invariant-write_sum_parts-parts l =
    l.out ≡ l.initial.out ++ flat_map (sum_part (λ e. at_least 6 (shown e))) (take l.part-index l.parts)

abbrev pub invariant-write_product_parts-parts : goal.invariant-write_product_parts-parts
invariant-write_product_parts-parts l =
    l.out ≡ l.initial.out ++ flat_map (product_part (λ e. at_least 7 (shown e))) (take l.part-index l.parts)

abbrev pub invariant-write_arms-arms : goal.invariant-write_arms-arms
invariant-write_arms-arms l =
    l.out ≡ l.initial.out ++ joined (word words.Elif) (map (arm_text expr_text) (take l.at l.arms))

abbrev pub invariant-write_results-results : goal.invariant-write_results-results
invariant-write_results-results l = l.out ≡ l.initial.out ++ results_text (take l.at l.results)

abbrev pub invariant-write_table_rows-rows : goal.invariant-write_table_rows-rows
invariant-write_table_rows-rows l =
    l.out ≡ l.initial.out ++ flat_map (table_row_text expr_text) (take l.row-index l.rows)
