-- An accepted expression has a tree, whose type goes as the one that was found.
use Rattle.std.proofs.Common.{◌∙◌, ℕ, ap, sym}
use Rattle.std.specs.Prelude.{nat_le}
use Rattle.og_expr.specs.declared.node.Term.{Term}
use Rattle.og_syntax.specs.Places.{expr_place}
use Rattle.og_syntax.specs.declared.expressions.ExprTree.{ExprTree}
use Rattle.og_syntax.specs.declared.expressions.ExprTree.TheOpen.{ExprTree-F}
use Rattle.og_syntax.specs.declared.expressions.ExprTree.TheOpen as forms
use Rattle.og_syntax.specs.declared.expressions.ExprTree.TheViews.{roll-ExprTree, out-roll-ExprTree}
use Rattle.og_typing.specs.declared.fault.WireFault.TheVariants.{TooBig}
use Rattle.og_typing.specs.Checked.{rule}
use Rattle.og_typing.specs.Types.{Table}
use Rattle.og_typing.specs.Scopes.{Names}
use Rattle.og_typing.specs.Levels.{form_with, fold_of_form}
use Rattle.og_typing.specs.Expressions.{part_of, expr_rule, rule_walk}
use Rattle.og_typing.proofs.Walked.{walk_out}
use Rattle.og_typing.proofs.Steps.{bind_ok}
use Rattle.og_inlining.specs.Trees.{tree_rule, tree_in, tree_goes}
use Rattle.og_inlining.specs.Sound.{seen_with, Fits}
use Rattle.og_inlining.proofs.Induction.{PartsOf, expr_induction}
use Rattle.og_inlining.proofs.Accepted.{Holds}
use Rattle.og_inlining.proofs.Parts.{Sound}
use Rattle.og_inlining.proofs.Operations.{or_holds, and_holds, not_holds, compare_holds, sum_holds, product_holds, neg_holds, ratio_holds, min_holds, max_holds, clamp_holds, literal_holds, flag_holds}
use Rattle.og_inlining.proofs.Named.{name_holds, call_holds}
use Rattle.og_inlining.proofs.Composed.{field_holds, tuple_holds, if_holds}
use Rattle.og_inlining.proofs.Rows.{table_holds}

form_holds : (names : Names) (given bodies : Table Term) → Fits names given bodies → (depth : ℕ) (form : ExprTree-F ExprTree)
    → PartsOf (Sound names (seen_with names given bodies)) form
    → Holds (expr_rule (form_with part_of form) names depth) (tree_rule (form_with tree_in form) (seen_with names given bodies))
unfolding expr_rule
form_holds names given bodies fit depth (forms.Number at n) all = literal_holds names (seen_with names given bodies) depth at n
form_holds names given bodies fit depth (forms.Flag at flag) all = flag_holds names (seen_with names given bodies) depth at flag
form_holds names given bodies fit depth (forms.Name at name) all = name_holds names given bodies fit depth at name
form_holds names given bodies fit depth (forms.Call at name args) all = call_holds names given bodies fit depth at name args all
form_holds names given bodies fit depth (forms.Or at parts) all = or_holds names (seen_with names given bodies) depth at parts all
form_holds names given bodies fit depth (forms.And at parts) all = and_holds names (seen_with names given bodies) depth at parts all
form_holds names given bodies fit depth (forms.Not at part) all = not_holds names (seen_with names given bodies) depth at part all
form_holds names given bodies fit depth (forms.Compare at op left right) all =
    compare_holds names (seen_with names given bodies) depth at op left right all.0 all.1
form_holds names given bodies fit depth (forms.Sum at first rest) all =
    sum_holds names (seen_with names given bodies) depth at first rest all.0 all.1
form_holds names given bodies fit depth (forms.Product at first rest) all =
    product_holds names (seen_with names given bodies) depth at first rest all.0 all.1
form_holds names given bodies fit depth (forms.Neg at part) all = neg_holds names (seen_with names given bodies) depth at part all
form_holds names given bodies fit depth (forms.Field at part path) all =
    field_holds names (seen_with names given bodies) depth at part path all
form_holds names given bodies fit depth (forms.Tuple at parts) all = tuple_holds names (seen_with names given bodies) depth at parts all
form_holds names given bodies fit depth (forms.If at arms otherwise) all =
    if_holds names (seen_with names given bodies) depth at arms otherwise all.0 all.1
form_holds names given bodies fit depth (forms.Table at keys rows) all =
    table_holds names given bodies fit depth at keys rows all.0 all.1
form_holds names given bodies fit depth (forms.Ratio at x y otherwise) all =
    ratio_holds names (seen_with names given bodies) depth at x y otherwise all.0 all.1 all.2
form_holds names given bodies fit depth (forms.Min at first second) all =
    min_holds names (seen_with names given bodies) depth at first second all.0 all.1
form_holds names given bodies fit depth (forms.Max at first second) all =
    max_holds names (seen_with names given bodies) depth at first second all.0 all.1
form_holds names given bodies fit depth (forms.Clamp at lo_at lo hi part) all =
    clamp_holds names (seen_with names given bodies) depth at lo_at lo hi part all

pub expression_sound : (names : Names) (given bodies : Table Term) → Fits names given bodies → (e : ExprTree)
    → Sound names (seen_with names given bodies) e
expression_sound names given bodies fit = expr_induction (Sound names (seen_with names given bodies)) (λ form all depth k is.
    let seen = seen_with names given bodies in
    let e = roll-ExprTree form in
    let walked = bind_ok (rule (nat_le depth 48) (TooBig (expr_place e))) (λ _. rule_walk e names depth) k (sym (walk_out e names depth) ∙ is) in
    ap (λ tree. tree_goes k.ty (tree seen)) (fold_of_form tree_rule e)
    ∙ ap (λ f. tree_goes k.ty (tree_rule (form_with tree_in f) seen)) (out-roll-ExprTree form)
    ∙ form_holds names given bodies fit depth form all k
    (sym (ap (λ f. expr_rule (form_with part_of f) names depth) (out-roll-ExprTree form)) ∙ walked.2))
