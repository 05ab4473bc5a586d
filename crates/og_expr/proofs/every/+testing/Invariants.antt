use Rattle.std.proofs.Common.{◌≡◌, true, map, drop}
use Rattle.og_expr.specs.Parts.{all_together, addend_part, factor_part, choice_parts}
use Rattle.og_expr.specs.Levels.{addend_with, factor_with, choice_with, key_with}
use Rattle.og_expr.specs.Variables.{all_variables, and_also}
use Rattle.og_expr.proofs.every.+testing.Given as goal

abbrev pub invariant-parts-those : goal.invariant-parts-those
invariant-parts-those g l =
    all_together true and_also (λ b. b) (map (all_variables (g.T.VariableTest.passes l.test)) (drop l.e-index l.those))
    ≡ all_together true and_also (λ b. b) (map (all_variables (g.T.VariableTest.passes l.test)) l.those)

abbrev pub invariant-addends-those : goal.invariant-addends-those
invariant-addends-those g l =
    all_together true and_also addend_part (map (addend_with (all_variables (g.T.VariableTest.passes l.test))) (drop l.one-index l.those))
    ≡ all_together true and_also addend_part (map (addend_with (all_variables (g.T.VariableTest.passes l.test))) l.those)

abbrev pub invariant-factors-those : goal.invariant-factors-those
invariant-factors-those g l =
    all_together true and_also (factor_part true) (map (factor_with (all_variables (g.T.VariableTest.passes l.test))) (drop l.one-index l.those))
    ≡ all_together true and_also (factor_part true) (map (factor_with (all_variables (g.T.VariableTest.passes l.test))) l.those)

abbrev pub invariant-choices-those : goal.invariant-choices-those
invariant-choices-those g l =
    all_together true and_also (choice_parts and_also) (map (choice_with (all_variables (g.T.VariableTest.passes l.test))) (drop l.one-index l.those))
    ≡ all_together true and_also (choice_parts and_also) (map (choice_with (all_variables (g.T.VariableTest.passes l.test))) l.those)

abbrev pub invariant-keys-those : goal.invariant-keys-those
invariant-keys-those g l =
    all_together true and_also (λ key. key.expr) (map (key_with (all_variables (g.T.VariableTest.passes l.test))) (drop l.one-index l.those))
    ≡ all_together true and_also (λ key. key.expr) (map (key_with (all_variables (g.T.VariableTest.passes l.test))) l.those)
