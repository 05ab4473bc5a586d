-- What the canonical text is at a tuple of values.
use Rattle.std.proofs.Common.{◌≡◌, ℕ, List, ap, sym, ◌∙◌}
use Rattle.og_syntax.specs.declared.values.ValueTree.{ValueTree}
use Rattle.og_syntax.specs.declared.values.ValueTree.TheOpen as value_level
use Rattle.og_syntax.specs.declared.values.ValueTree.TheFolds.{fold-roll-ValueTree}
use Rattle.og_syntax.specs.declared.values.ValueTree.TheVariants as values
use Rattle.og_canonical.specs.Values.{value_text, value_step, key_text}

pub tuple_text : (at : ℕ) (vs : List ValueTree) → value_text (values.Tuple at vs) ≡ key_text vs
tuple_text at vs =
    ap value_text (sym (values.rolls-Tuple at vs)) ∙ fold-roll-ValueTree (List ℕ) value_step (value_level.Tuple at vs)
