use Rattle.std.proofs.Common.{rules, ◌≡◌, ◌<◌, length, get_or}
use Rattle.og_expr.specs.Parts.{choice_parts}
use Rattle.og_expr.specs.Levels.{choice_with, key_with}
use Rattle.og_expr.specs.Variables.{all_variables, and_also}
use Rattle.og_expr.specs.Replaced.{replaced, tree_at, takes}
use Rattle.og_expr.proofs.Listed.{next_choice, next_key, rest_holds}
use Rattle.og_expr.proofs.replace.+replaces.Goals as goal

pub choices-those-preserved : goal.choices-those-preserved
choices-those-preserved t c =
    let lt : c.those.one-index < length c.args.those.now = search rules in
    let is : c.one-item.result ≡ get_or c.args.those.now c.those.one-index c.one-item.result = cc in (
      next_choice (replaced (tree_at c.args.trees.now)) c.args.those.now c.those.one-index c.one-item.result lt is
          c.those.all c.add.new.self c.those.invariant.0 c.in_ok-cond.cond c.in_ok-body.body c.in_ok-add.ensures.ok c.in_ok-cond.ensures c.in_ok-body.ensures,
      rest_holds (choice_parts and_also) (choice_with (all_variables (takes c.args.trees.now))) c.args.those.now c.those.one-index c.one-item.result lt is c.those.invariant.1,
    )

pub keys-those-preserved : goal.keys-those-preserved
keys-those-preserved t c =
    let lt : c.those.one-index < length c.args.those.now = search rules in
    let is : c.one-item.result ≡ get_or c.args.those.now c.those.one-index c.one-item.result = cc in (
      next_key (replaced (tree_at c.args.trees.now)) c.args.those.now c.those.one-index c.one-item.result lt is
          c.those.all c.add.new.self c.those.invariant.0 c.in_ok-expr.expr c.in_ok-ty.ty c.in_ok-add.ensures.ok c.in_ok-expr.ensures c.in_ok-ty.ensures,
      rest_holds (λ key. key.expr) (key_with (all_variables (takes c.args.trees.now))) c.args.those.now c.those.one-index c.one-item.result lt is c.those.invariant.1,
    )
