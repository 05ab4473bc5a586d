-- What a written tuple of values stands for.
use Rattle.std.proofs.Common.{◌≡◌, ◌∙◌, ℕ, List, [], ap, sym}
use Rattle.std.specs.Prelude.{Ok}
use Rattle.og_types.specs.declared.value.Value.{Value}
use Rattle.og_types.specs.declared.value.Value.TheVariants as value
use Rattle.og_syntax.specs.declared.values.ValueTree.{ValueTree}
use Rattle.og_syntax.specs.declared.values.ValueTree.TheOpen as one
use Rattle.og_syntax.specs.declared.values.ValueTree.TheFolds.{fold-roll-ValueTree}
use Rattle.og_syntax.specs.declared.values.ValueTree.TheVariants as trees
use Rattle.og_typing.specs.declared.meaning.Meaning.{Meaning}
use Rattle.og_typing.specs.Checked.{Checked, ◌>>=◌}
use Rattle.og_typing.specs.Types.{Table}
use Rattle.og_typing.specs.Values.{with_value, meant_rule, meant, meant_all}
use Rattle.og_typing.proofs.TypeLevels.{in_turn-map}

pub tuple_meant : (at : ℕ) (parts : List ValueTree) (declared : Table Meaning)
    → meant (trees.Tuple at parts) declared ≡ (meant_all declared [] parts >>= (λ values. Ok (value.Tuple values)))
tuple_meant at parts declared =
    (λ i. meant (sym (trees.rolls-Tuple at parts) i) declared)
    ∙ (λ i. fold-roll-ValueTree (Table Meaning → Checked Value) meant_rule (one.Tuple at parts) i declared)
    ∙ ap (λ walk. walk >>= (λ values. Ok (value.Tuple values))) (in_turn-map (with_value declared) meant [] parts)
