-- A list of one, told apart from others.
use Rattle.std.specs.Prelude.{◌≡◌, ℕ, List, [], ◌∷◌, Result, Ok, Err}
use Rattle.og_syntax.specs.declared.expressions.ExprTree.{ExprTree}
use Rattle.og_syntax.specs.Places.{expr_place}
use Rattle.og_language.specs.Trees.{one_or}

-- where the first of them begins, and 0 where there is none
abbrev pub first_place : List ExprTree → ℕ
first_place [] = 0
first_place (e ∷ es) = expr_place e

-- The result is the only expression of the list, or the list where it has none or several: then whatever is made of
-- several is made of it.
abbrev pub IsOnly : List ExprTree → Result ExprTree (List ExprTree) → Type 0
IsOnly es (Ok only) = (all : ℕ → List ExprTree → ExprTree) → one_or all es ≡ only
IsOnly es (Err same) = (all : ℕ → List ExprTree → ExprTree) → one_or all es ≡ all (first_place same) same
