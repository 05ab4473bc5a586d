-- What a call gives, from the variables that occur in the body and the trees of the arguments.
use Rattle.std.proofs.Common.{◌≡◌, ◌∙◌, ℕ, List, [], ap, sym, subst}
use Rattle.std.specs.Prelude.{Some, option_and_then, Result}
use Rattle.og_expr.specs.declared.expr.BuildFault.{BuildFault}
use Rattle.og_expr.specs.declared.node.NodeOf.TheVariants as nodes
use Rattle.og_expr.specs.declared.node.Term.{Term}
use Rattle.og_expr.specs.Variables.{numbers_of}
use Rattle.og_names.specs.Names.{lookup}
use Rattle.og_inlining.specs.Steps.{Gives}
use Rattle.og_inlining.specs.Seen.{Seen}
use Rattle.og_syntax.specs.declared.expressions.ExprTree.{ExprTree}
use Rattle.og_syntax.specs.declared.expressions.ExprTree.TheVariants as exprs
use Rattle.og_inlining.specs.Trees.{Tree, occurs, arguments, placed, body_with, call_tree, built, tree_in, tree_rule}
use Rattle.og_inlining.proofs.ByForm.{tree_ratio}

call_is : (seen : Seen) (name : List ℕ) (args : List Tree) (body : Term) (used : List ℕ) (trees : List Term)
    → lookup name seen.bodies ≡ Some body → ((k : ℕ) → occurs used k ≡ occurs (numbers_of body) k)
    → arguments seen (occurs used) 0 [] args ≡ Some trees → call_tree name args seen ≡ placed body trees
unfolding call_tree
call_is seen name args body used trees there same are =
    ap (body_with seen args) there
    ∙ ap (λ test. option_and_then (placed body) (arguments seen test 0 [] args)) (λ i k. sym (same k) i)
    ∙ ap (option_and_then (placed body)) are

pub call_gives : (seen : Seen) (name : List ℕ) (args : List Tree) (body : Term) (used : List ℕ) (trees : List Term)
    (result : Result Term BuildFault) → lookup name seen.bodies ≡ Some body
    → ((k : ℕ) → occurs used k ≡ occurs (numbers_of body) k) → arguments seen (occurs used) 0 [] args ≡ Some trees
    → Gives (placed body trees) result → Gives (call_tree name args seen) result
call_gives seen name args body used trees result there same are gives =
    subst (λ o. Gives o result) (sym (call_is seen name args body used trees there same are)) gives

-- a quotient, from the trees of its first two parts
ratio_is : (seen : Seen) (at : ℕ) (x y otherwise : ExprTree) (a b : Term) → tree_in x seen ≡ Some a → tree_in y seen ≡ Some b
    → tree_in (exprs.Ratio at x y otherwise) seen
    ≡ option_and_then (λ c. built (nodes.Ratio a b c)) (tree_in otherwise seen)
unfolding tree_rule
ratio_is seen at x y otherwise a b is_a is_b =
    tree_ratio seen at x y otherwise
    ∙ ap (option_and_then (λ a. option_and_then (λ b. option_and_then (λ c. built (nodes.Ratio a b c)) (tree_in otherwise seen))
    (tree_in y seen))) is_a
    ∙ ap (option_and_then (λ b. option_and_then (λ c. built (nodes.Ratio a b c)) (tree_in otherwise seen))) is_b

pub ratio_gives : (seen : Seen) (e : ExprTree) (at : ℕ) (x y otherwise : ExprTree) (a b : Term)
    (result : Result Term BuildFault) → e ≡ exprs.Ratio at x y otherwise → tree_in x seen ≡ Some a → tree_in y seen ≡ Some b
    → Gives (option_and_then (λ c. built (nodes.Ratio a b c)) (tree_in otherwise seen)) result → Gives (tree_in e seen) result
ratio_gives seen e at x y otherwise a b result is is_a is_b gives =
    subst (λ o. Gives o result) (sym (ap (λ e. tree_in e seen) is ∙ ratio_is seen at x y otherwise a b is_a is_b)) gives
