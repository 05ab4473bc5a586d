-- What the parts of a form have together.
use Rattle.std.specs.Prelude.{List, [], ◌∷◌}
use Rattle.og_expr.specs.declared.node.NodeOf.{NodeOf}
use Rattle.og_expr.specs.declared.node.NodeOf.TheVariants as nodes
use Rattle.og_expr.specs.declared.node.Addend.{Addend}
use Rattle.og_expr.specs.declared.node.Addend.TheVariants as addends
use Rattle.og_expr.specs.declared.node.Factor.{Factor}
use Rattle.og_expr.specs.declared.node.Factor.TheVariants as factors
use Rattle.og_expr.specs.declared.node.Choice.{Choice}

-- of one item after another, where no item has `none`
abbrev pub all_together : {A B : Type 0} → A → (A → A → A) → (B → A) → List B → A
all_together none both f [] = none
all_together none both f (x ∷ xs) = both (f x) (all_together none both f xs)

abbrev pub addend_part : {A : Type 0} → Addend A → A
addend_part (addends.Plus a) = a
addend_part (addends.Minus a) = a

-- a factor's part, of which a plain number has none
abbrev pub factor_part : {A : Type 0} → A → Factor A → A
factor_part none (factors.Times a) = a
factor_part none (factors.Over d) = none

abbrev pub choice_parts : {A : Type 0} → (A → A → A) → Choice A → A
choice_parts both c = both c.cond c.body

-- the parts' together, in order, where a form without parts has `none`
abbrev pub together : {A : Type 0} → A → (A → A → A) → NodeOf A → A
together none both (nodes.Literal n) = none
together none both (nodes.Flag flag) = none
together none both (nodes.Case family cases index) = none
together none both (nodes.Var number t) = none
together none both (nodes.Or as') = all_together none both (λ a. a) as'
together none both (nodes.And as') = all_together none both (λ a. a) as'
together none both (nodes.Not a) = a
together none both (nodes.Compare test a b) = both a b
together none both (nodes.Sum a more) = both a (all_together none both addend_part more)
together none both (nodes.Product a more) = both a (all_together none both (factor_part none) more)
together none both (nodes.Neg a) = a
together none both (nodes.Field a k) = a
together none both (nodes.Tuple as') = all_together none both (λ a. a) as'
together none both (nodes.If choices a) = both (all_together none both (choice_parts both) choices) a
together none both (nodes.Table keys rows) =
    both (all_together none both (λ key. key.expr) keys) (all_together none both (λ a. a) rows)
together none both (nodes.Ratio a b c) = both a (both b c)
together none both (nodes.Min a b) = both a b
together none both (nodes.Max a b) = both a b
together none both (nodes.Clamp low high a) = a
