use Rattle.std.proofs.Common.{rules, ◌∙◌, ap, sym, Some}
use Rattle.og_expr.specs.Values.{value_of}
use Rattle.og_expr.specs.Terms.{term_of}
use Rattle.og_expr.specs.Types.{type_of}
use Rattle.og_expr.proofs.Ranks.{table_small}
use Rattle.og_expr.proofs.Forms.{value_in_node}
use Rattle.std.proofs.Common.{to_z-of_z}
use Rattle.og_expr.proofs.Steps.{condition_fails, condition_unclear, body_fails, next_condition, key_fails, next_key}
use Rattle.og_expr.proofs.evaluation.+values.Goals as goal

pub first_chosen-returns-in_err-value : goal.first_chosen-returns-in_err-value
first_chosen-returns-in_err-value t c =
    let fault = condition_fails (value_of c.args.env.now) c.as_slice-part-items.result.now c.parts.part-index c.part-item.result c.parts-test.true c.part-item.is _ c.parts.invariant _ c.in_err-value.ensures in
    search rules

pub first_chosen-returns-in_err-flag_of : goal.first_chosen-returns-in_err-flag_of
first_chosen-returns-in_err-flag_of t c =
    let fault = condition_unclear (value_of c.args.env.now) c.as_slice-part-items.result.now c.parts.part-index c.part-item.result c.parts-test.true c.part-item.is _ c.parts.invariant _ c.in_ok-value.ensures _ c.in_err-flag_of.ensures in
    search rules

pub first_chosen-returns-in_err-value-2 : goal.first_chosen-returns-in_err-value-2
first_chosen-returns-in_err-value-2 t c =
    let fault = body_fails (value_of c.args.env.now) c.as_slice-part-items.result.now c.parts.part-index c.part-item.result c.parts-test.true c.part-item.is _ c.parts.invariant _ c.in_ok-value.ensures (c.in_ok-flag_of.ensures ∙ ap Some c.if-branch.true) _ c.in_err-value-2.ensures in
    search rules

pub first_chosen-parts-preserved : goal.first_chosen-parts-preserved
first_chosen-parts-preserved t c =
    next_condition (value_of c.args.env.now) c.as_slice-part-items.result.now c.parts.part-index c.part-item.result c.parts-test.true c.part-item.is _ c.parts.invariant _ c.in_ok-value.ensures (c.in_ok-flag_of.ensures ∙ ap Some c.if-branch.false)

pub key_values-returns-in_err-value : goal.key_values-returns-in_err-value
key_values-returns-in_err-value t c =
    let fault = key_fails (value_of c.args.env.now) c.as_slice-part-items.result.now c.parts.part-index c.part-item.result c.parts.all c.parts-test.true c.part-item.is _ c.parts.invariant _ c.in_err-value.ensures in
    search rules

pub key_values-parts-preserved : goal.key_values-parts-preserved
key_values-parts-preserved t c =
    let next = next_key (value_of c.args.env.now) c.as_slice-part-items.result.now c.parts.part-index c.part-item.result c.parts.all c.parts-test.true c.part-item.is _ c.parts.invariant _ c.in_ok-value.ensures in
    search rules

pub value-returns-in_ok-n-in-Clamp : goal.value-returns-in_ok-n-in-Clamp
value-returns-in_ok-n-in-Clamp t c = search (rules, value_in_node, to_z-of_z) depth 9

pub value-place_in-requires-clause-small : goal.value-place_in-requires-clause-small
value-place_in-requires-clause-small t c =
    (table_small c.in-Table.keys c.in-Table.rows c.e.inside.ty (ap (λ n. type_of (term_of n)) (sym c.in-Table.is) ∙ c.e.invariant.0)).0

pub value-place_in-requires-clause-some : goal.value-place_in-requires-clause-some
value-place_in-requires-clause-some t c =
    (table_small c.in-Table.keys c.in-Table.rows c.e.inside.ty (ap (λ n. type_of (term_of n)) (sym c.in-Table.is) ∙ c.e.invariant.0)).1
