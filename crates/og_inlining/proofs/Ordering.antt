-- The rows at the places of a list, one after another.
use Rattle.std.proofs.Common.{◌≡◌, ◌∙◌, ℕ, ◌+◌, ◌<◌, List, [], ◌∷◌, ◌++◌, map, length, drop, slice_index_or, ap, sym, add-one}
use Rattle.std.specs.Prelude.{Some, None, option_and_then, slice_get}
use Rattle.std.proofs.Math.Seq.{drop-cons}
use Rattle.og_expr.specs.declared.node.Term.{Term}
use Rattle.og_syntax.specs.declared.expressions.ExprTree.{ExprTree}
use Rattle.og_syntax.specs.declared.expressions.TableRow.{TableRow}
use Rattle.og_typing.specs.Levels.{row_with}
use Rattle.og_inlining.specs.Steps.{each_of}
use Rattle.og_inlining.specs.Seen.{Seen}
use Rattle.og_inlining.specs.Trees.{tree_in, row_there}
use Rattle.og_inlining.proofs.ByForm.{row_found, row_missing}

module _ (seen : Seen) (rows : List (TableRow ExprTree)) (order : List ℕ) (i : ℕ) (found : List Term) (within : i < length order) where
  row_here : each_of (row_there seen (map (row_with tree_in) rows)) found (drop i order)
      ≡ option_and_then (λ y. each_of (row_there seen (map (row_with tree_in) rows)) (found ++ y ∷ []) (drop (i + 1) order))
      (row_there seen (map (row_with tree_in) rows) (slice_index_or order i 0))
  row_here =
      ap (each_of (row_there seen (map (row_with tree_in) rows)) found) (drop-cons order i 0 within)
      ∙ ap (λ n. option_and_then (λ y. each_of (row_there seen (map (row_with tree_in) rows)) (found ++ y ∷ []) (drop n order))
      (row_there seen (map (row_with tree_in) rows) (slice_index_or order i 0))) (sym (add-one i))

  pub row_next : (row : TableRow ExprTree) → slice_get rows (slice_index_or order i 0) ≡ Some row
      → each_of (row_there seen (map (row_with tree_in) rows)) found (drop i order)
      ≡ option_and_then (λ y. each_of (row_there seen (map (row_with tree_in) rows)) (found ++ y ∷ []) (drop (i + 1) order)) (tree_in row.body seen)
  row_next row is =
      row_here ∙ ap (option_and_then (λ y. each_of (row_there seen (map (row_with tree_in) rows)) (found ++ y ∷ []) (drop (i + 1) order)))
      (row_found seen rows (slice_index_or order i 0) row is)

  pub row_none : slice_get rows (slice_index_or order i 0) ≡ None
      → each_of (row_there seen (map (row_with tree_in) rows)) found (drop i order) ≡ None
  row_none is =
      row_here ∙ ap (option_and_then (λ y. each_of (row_there seen (map (row_with tree_in) rows)) (found ++ y ∷ []) (drop (i + 1) order)))
      (row_missing seen rows (slice_index_or order i 0) is)
