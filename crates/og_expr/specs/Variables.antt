-- The variables of an expression.
use Rattle.std.specs.Prelude.{ℕ, Bool, true, ◌&&◌, List, [], ◌∷◌, ◌++◌, map, Option, Some, None}
use Rattle.og_types.specs.declared.ty.Ty.{Ty}
use Rattle.og_expr.specs.declared.node.NodeOf.{NodeOf}
use Rattle.og_expr.specs.declared.node.NodeOf.TheVariants as nodes
use Rattle.og_expr.specs.declared.node.Term.{Term}
use Rattle.og_expr.specs.declared.node.Term.TheFolds.{fold-Term}
use Rattle.og_expr.specs.Parts.{together}

-- a variable: its number and its type
abbrev pub Variable : Type 0
Variable = ℕ × Ty

-- what a variable's number and type give, and at any other form what the form gives
abbrev pub at_variables : {A B : Type 0} → (ℕ → Ty → B) → (NodeOf A → B) → NodeOf A → B
at_variables of_variable of_form (nodes.Var number t) = of_variable number t
at_variables of_variable of_form n = of_form n

-- the number of an expression that is a variable
abbrev pub as_variable : Term → Option ℕ
as_variable = fold-Term (Option ℕ) (λ level. at_variables (λ number t. Some number) (λ n. None) level.node)

-- the variables that occur, in order, one as often as it occurs
abbrev pub variables_of : Term → List Variable
variables_of = fold-Term (List Variable)
    (λ level. at_variables (λ number t. (number, t) ∷ []) (together [] (λ vs ws. vs ++ ws)) level.node)

-- their numbers
abbrev pub numbers_of : Term → List ℕ
numbers_of e = map (λ v. v.0) (variables_of e)

abbrev pub and_also : Bool → Bool → Bool
and_also a b = a && b

-- Each variable that occurs passes the test.
abbrev pub all_variables : (ℕ → Ty → Bool) → Term → Bool
all_variables test = fold-Term Bool (λ level. at_variables test (together true and_also) level.node)
