-- What the rules make of the parts that they read, where that isn't one form of a tree.
use Rattle.std.specs.Prelude.{ℕ, ℤ, pos, ◌-ℤ◌, List, [], ◌∷◌, ◌++◌, Option, Some, None, ◌⊎◌}
use Rattle.std.proofs.Common.{inl, inr}
use Rattle.og_syntax.specs.declared.expressions.ExprTree.{ExprTree}
use Rattle.og_syntax.specs.declared.expressions.ExprTree.TheVariants as exprs
use Rattle.og_syntax.specs.declared.expressions.ExprTree.TheOpen as one
use Rattle.og_syntax.specs.declared.expressions.ExprTree.TheViews.{out-ExprTree}
use Rattle.og_syntax.specs.Places.{expr_place}
use Rattle.og_syntax.specs.declared.expressions.CompareOp.{CompareOp}
use Rattle.og_syntax.specs.declared.expressions.SumPart.{SumPart}
use Rattle.og_syntax.specs.declared.expressions.ProductPart.{ProductPart}
use Rattle.og_syntax.specs.declared.games.GameTree.{GameTree}
use Rattle.og_syntax.specs.declared.games.GameTree.TheVariants as games
use Rattle.og_syntax.specs.declared.values.ValueTree.{ValueTree}
use Rattle.og_syntax.specs.declared.values.EntryTree.{EntryTree}

-- the number, or behind a minus its negative
abbrev pub negative : ℕ → ℤ
negative n = pos 0 -ℤ pos n

abbrev pub signed : {A : Type 0} → Option A → ℕ → ℤ
signed None n = pos n
signed (Some minus) n = negative n

-- ---- expressions: a chain begins where its first part does, and with no further part it is that part

-- the only one, or what is made of several and of the place of the first
abbrev pub one_or : (ℕ → List ExprTree → ExprTree) → List ExprTree → ExprTree
one_or all [] = all 0 []
one_or all (e ∷ []) = e
one_or all (e ∷ f ∷ es) = all (expr_place e) (e ∷ f ∷ es)

-- brackets round one expression leave no node; those round several make a tuple
abbrev pub grouped : ℕ → List ExprTree → ExprTree
grouped at = one_or (λ first es. exprs.Tuple at es)

abbrev pub compare_of : ExprTree → Option (CompareOp × ExprTree) → ExprTree
compare_of left None = left
compare_of left (Some more) = exprs.Compare (expr_place left) more.0 left more.1

abbrev pub sum_of : ExprTree → List (SumPart ExprTree) → ExprTree
sum_of first [] = first
sum_of first (e ∷ es) = exprs.Sum (expr_place first) first (e ∷ es)

abbrev pub product_of : ExprTree → List (ProductPart ExprTree) → ExprTree
product_of first [] = first
product_of first (e ∷ es) = exprs.Product (expr_place first) first (e ∷ es)

-- behind a minus: a number is one literal with it
abbrev pub negated : ℕ → ℕ ⊎ ExprTree → ExprTree
negated at (inl n) = exprs.Number at (negative n)
negated at (inr e) = exprs.Neg at e

-- the components of an expression that may itself be components of another, which then are one chain
abbrev pub components_of : ExprTree → List ℕ → ExprTree
components_of part ks =
    elim (out-ExprTree part) [
      | one.Field at whole taken ↦ exprs.Field at whole (taken ++ ks)
      | _ ↦ exprs.Field (expr_place part) part ks
    ]

abbrev pub field_of : ExprTree → List ℕ → ExprTree
field_of part [] = part
field_of part (k ∷ ks) = components_of part (k ∷ ks)

abbrev pub named_of : ℕ → List ℕ → Option (List ExprTree) → ExprTree
named_of at name None = exprs.Name at name
named_of at name (Some args) = exprs.Call at name args

-- ---- weights: 1 where none is written, over 1 where no divisor is

abbrev pub divisor_of : Option ℕ → ℕ
divisor_of None = 1
divisor_of (Some d) = d

abbrev pub entry_of : ValueTree → Option (ℕ × Option ℕ) → EntryTree
entry_of v None = record { value = v; num = 1; den = 1 }
entry_of v (Some weight) = record { value = v; num = weight.0; den = divisor_of weight.1 }

-- ---- games: compositions group to the left

abbrev pub seq_onto : GameTree → List GameTree → GameTree
seq_onto first [] = first
seq_onto first (g ∷ gs) = seq_onto (games.Seq first g) gs

abbrev pub par_onto : GameTree → List GameTree → GameTree
par_onto first [] = first
par_onto first (g ∷ gs) = par_onto (games.Par first g) gs

-- a field that is left out is empty
abbrev pub or_empty : {A : Type 0} → Option (List A) → List A
or_empty None = []
or_empty (Some items) = items
