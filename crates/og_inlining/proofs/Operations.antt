-- Accepted truths and operations on numbers have trees whose types go as the ones that were found.
use Rattle.std.proofs.Common.{◌≡◌, ◌∙◌, ℕ, ◌+◌, ℤ, Bool, true, false, List, [], ◌∷◌, map, length, refl, ap, sym}
use Rattle.std.specs.Prelude.{Some, option_and_then, is_some, if◌then◌else◌, nat_le, nat_lt, int_le, ◌&&◌, Ok}
use Rattle.std.specs.List.{list_all, AllByRecursion}
use Rattle.std.proofs.lemmas.Bool.{and_parts, and_from}
use Rattle.std.proofs.lemmas.List.{length-map}
use Rattle.og_types.specs.declared.ty.Ty.{Ty}
use Rattle.og_types.specs.declared.ty.Ty.TheVariants as ty
use Rattle.og_types.proofs.FitsLaws.{fits_itself}
use Rattle.og_expr.specs.declared.node.NodeOf.TheVariants as nodes
use Rattle.og_expr.specs.declared.node.Term.{Term}
use Rattle.og_expr.specs.Levels.{addend_with, factor_with, node_with}
use Rattle.og_expr.specs.Types.{goes_as, is_word, join_both, is_equality, addend_fits, factor_fits, negated, type_rule, type_of}
use Rattle.og_expr.proofs.Narrower.{type_bounds, narrower_some, narrower_negated}
use Rattle.og_syntax.specs.declared.expressions.ExprTree.{ExprTree}
use Rattle.og_syntax.specs.declared.expressions.ExprTree.TheOpen as forms
use Rattle.og_syntax.specs.declared.expressions.CompareOp.{CompareOp}
use Rattle.og_syntax.specs.declared.expressions.CompareOp.TheVariants as ops
use Rattle.og_syntax.specs.declared.expressions.SumPart.{SumPart}
use Rattle.og_syntax.specs.declared.expressions.ProductPart.{ProductPart}
use Rattle.og_typing.specs.declared.fault.WireFault.TheVariants.{WrongType}
use Rattle.og_typing.specs.Checked.{◌>>=◌, in_turn}
use Rattle.og_typing.specs.Levels.{sum_with, product_with}
use Rattle.og_typing.specs.Scopes.{Names}
use Rattle.og_typing.specs.Types.{are_bounds}
use Rattle.og_typing.specs.Expressions.{part_of, expr_walk, expr_rule, kind, fitting, all_fitting, join_found, joined, sum_fitting, product_fitting, negated_kind}
use Rattle.og_typing.proofs.Steps.{bind_ok}
use Rattle.og_inlining.specs.Seen.{Seen}
use Rattle.og_inlining.specs.Steps.{each_of}
use Rattle.og_inlining.specs.Trees.{built, tree_in, tree_rule, part_tree, addend_tree, factor_tree, test_of, tree_goes}
use Rattle.og_inlining.proofs.Induction.{OfSum, OfProduct}
use Rattle.og_inlining.proofs.Accepted.{Holds, holds_bind, holds_rule, holds_kind, weaker, typed_goes, goes_some, join_goes, Fitting, fitting_tree, built_goes, then_goes}
use Rattle.og_inlining.proofs.Parts.{Sound, part_fits, parts_fit, sums_fit, products_fit, found_join, joined_fits}

-- as many trees as parts
pub counted : {A B C D : Type 0} (test : ℕ → Bool) (f : A → B) (trees : List A) (g : C → D) (parts : List C)
    → length trees ≡ length parts → test (length (map g parts)) ≡ true → test (length (map f trees)) ≡ true
counted test f trees g parts is holds =
    ap test (length-map trees f ∙ is ∙ sym (length-map parts g)) ∙ holds

module _ (names : Names) (seen : Seen) (depth : ℕ) where
  pub or_holds : (at : ℕ) (parts : List ExprTree) → AllByRecursion (Sound names seen) parts
      → Holds (expr_rule (forms.Or at (map part_of parts)) names depth) (tree_rule (forms.Or at (map tree_in parts)) seen)
  unfolding expr_rule tree_rule
  or_holds at parts sound =
      holds_rule (nat_le 2 (length (map part_of parts))) (WrongType at)
      (all_fitting names (depth + 1) ty.Bool depth (map part_of parts) >>= (λ deep. Ok (kind ty.Bool deep))) _ (λ two.
      holds_bind (all_fitting names (depth + 1) ty.Bool depth (map part_of parts)) (λ deep. Ok (kind ty.Bool deep)) _ (λ deep is.
      let all = parts_fit names seen (depth + 1) depth deep ty.Bool parts sound is in
      holds_kind ty.Bool deep _
      (then_goes ty.Bool (each_of (part_tree seen) [] (map tree_in parts)) (λ es. built (nodes.Or es)) all.trees (all.are [])
      (built_goes ty.Bool (nodes.Or all.trees) (typed_goes _ ty.Bool
      (and_from (nat_le 2 (length (map type_of all.trees))) (list_all (goes_as ty.Bool) (map type_of all.trees))
      (counted (nat_le 2) type_of all.trees part_of parts all.count two) all.go))))))

  pub and_holds : (at : ℕ) (parts : List ExprTree) → AllByRecursion (Sound names seen) parts
      → Holds (expr_rule (forms.And at (map part_of parts)) names depth) (tree_rule (forms.And at (map tree_in parts)) seen)
  unfolding expr_rule tree_rule
  and_holds at parts sound =
      holds_rule (nat_le 2 (length (map part_of parts))) (WrongType at)
      (all_fitting names (depth + 1) ty.Bool depth (map part_of parts) >>= (λ deep. Ok (kind ty.Bool deep))) _ (λ two.
      holds_bind (all_fitting names (depth + 1) ty.Bool depth (map part_of parts)) (λ deep. Ok (kind ty.Bool deep)) _ (λ deep is.
      let all = parts_fit names seen (depth + 1) depth deep ty.Bool parts sound is in
      holds_kind ty.Bool deep _
      (then_goes ty.Bool (each_of (part_tree seen) [] (map tree_in parts)) (λ es. built (nodes.And es)) all.trees (all.are [])
      (built_goes ty.Bool (nodes.And all.trees) (typed_goes _ ty.Bool
      (and_from (nat_le 2 (length (map type_of all.trees))) (list_all (goes_as ty.Bool) (map type_of all.trees))
      (counted (nat_le 2) type_of all.trees part_of parts all.count two) all.go))))))

  pub not_holds : (at : ℕ) (part : ExprTree) → Sound names seen part
      → Holds (expr_rule (forms.Not at (part_of part)) names depth) (tree_rule (forms.Not at (tree_in part)) seen)
  unfolding expr_rule tree_rule
  not_holds at part sound =
      holds_bind (fitting names (depth + 1) ty.Bool depth (part_of part)) (λ deep. Ok (kind ty.Bool deep)) _ (λ deep is.
      let there = part_fits names seen (depth + 1) depth deep ty.Bool part sound is in
      holds_kind ty.Bool deep _
      (then_goes ty.Bool (tree_in part seen) (λ e. built (nodes.Not e)) there.tree there.is
      (built_goes ty.Bool (nodes.Not there.tree) (typed_goes _ ty.Bool there.goes))))

  -- ---- comparisons

  two_there : (op : CompareOp) (left right : ExprTree) (l r : Term) → tree_in left seen ≡ Some l → tree_in right seen ≡ Some r
      → goes_as ty.Bool (type_rule (node_with type_of (nodes.Compare (test_of op) l r))) ≡ true
      → tree_goes ty.Bool (tree_rule (forms.Compare 0 op (tree_in left) (tree_in right)) seen) ≡ true
  unfolding tree_rule
  two_there op left right l r p q goes =
      then_goes ty.Bool (tree_in left seen)
      (λ l. option_and_then (λ r. built (nodes.Compare (test_of op) l r)) (tree_in right seen)) l p
      (then_goes ty.Bool (tree_in right seen) (λ r. built (nodes.Compare (test_of op) l r)) r q
      (built_goes ty.Bool (nodes.Compare (test_of op) l r) goes))

  -- what two parts are that are equal or differ
  joined_two : (op : CompareOp) (left right : ExprTree) → is_equality (test_of op) ≡ true
      → Sound names seen left → Sound names seen right
      → Holds (expr_walk left names (depth + 1) >>= (λ l. joined names (depth + 1) (record { ty = Some l.ty; deep = l.deep }) (part_of right)
      >>= (λ both. Ok (kind ty.Bool both.deep))))
      (tree_rule (forms.Compare 0 op (tree_in left) (tree_in right)) seen)
  joined_two op left right equal first second =
      holds_bind (expr_walk left names (depth + 1)) _ _ (λ l is.
      holds_bind (joined names (depth + 1) (record { ty = Some l.ty; deep = l.deep }) (part_of right)) (λ both. Ok (kind ty.Bool both.deep)) _ (λ both joins.
      let a = fitting_tree l.ty (tree_in left seen) (first (depth + 1) l is) in
      let b = joined_fits names seen (depth + 1) (record { ty = Some l.ty; deep = l.deep }) both right second joins in
      let goes = weaker l.ty b.ty (type_of a.tree) a.goes (b.under l.ty refl) in
      holds_kind ty.Bool both.deep _
      (two_there op left right a.tree b.there.tree a.is b.there.is
      (typed_goes _ ty.Bool
      (ap (λ e. if e then is_some (join_both (type_of a.tree) (type_of b.there.tree))
      else (goes_as ty.Number (type_of a.tree) && goes_as ty.Number (type_of b.there.tree))) equal
      ∙ goes_some b.ty (join_both (type_of a.tree) (type_of b.there.tree))
      (join_goes b.ty (type_of a.tree) (type_of b.there.tree) goes b.there.goes))))))

  two_fit : (deep d : ℕ) (wanted : Ty) (first second : ExprTree) → Sound names seen first → Sound names seen second
      → all_fitting names (depth + 1) wanted deep (part_of first ∷ part_of second ∷ []) ≡ Ok d
      → Fitting wanted (tree_in first seen) × Fitting wanted (tree_in second seen)
  two_fit deep d wanted first second p q is =
      let one = bind_ok (fitting names (depth + 1) wanted deep (part_of first))
      (λ next. all_fitting names (depth + 1) wanted next (part_of second ∷ [])) d is in
      let two = bind_ok (fitting names (depth + 1) wanted one.0 (part_of second)) (λ next. all_fitting names (depth + 1) wanted next []) d one.2 in (
        part_fits names seen (depth + 1) deep one.0 wanted first p one.1,
        part_fits names seen (depth + 1) one.0 two.0 wanted second q two.1,
      )

  ordered_two : (op : CompareOp) (left right : ExprTree) → is_equality (test_of op) ≡ false
      → Sound names seen left → Sound names seen right
      → Holds (all_fitting names (depth + 1) ty.Number 0 (part_of left ∷ part_of right ∷ []) >>= (λ deep. Ok (kind ty.Bool deep)))
      (tree_rule (forms.Compare 0 op (tree_in left) (tree_in right)) seen)
  ordered_two op left right ordered first second =
      holds_bind (all_fitting names (depth + 1) ty.Number 0 (part_of left ∷ part_of right ∷ [])) (λ deep. Ok (kind ty.Bool deep)) _ (λ deep is.
      let both = two_fit 0 deep ty.Number left right first second is in
      holds_kind ty.Bool deep _
      (two_there op left right both.0.tree both.1.tree both.0.is both.1.is
      (typed_goes _ ty.Bool
      (ap (λ e. if e then is_some (join_both (type_of both.0.tree) (type_of both.1.tree))
      else (goes_as ty.Number (type_of both.0.tree) && goes_as ty.Number (type_of both.1.tree))) ordered
      ∙ and_from (goes_as ty.Number (type_of both.0.tree)) (goes_as ty.Number (type_of both.1.tree)) both.0.goes both.1.goes))))

  pub compare_holds : (at : ℕ) (op : CompareOp) (left right : ExprTree) → Sound names seen left → Sound names seen right
      → Holds (expr_rule (forms.Compare at op (part_of left) (part_of right)) names depth)
      (tree_rule (forms.Compare at op (tree_in left) (tree_in right)) seen)
  unfolding expr_rule tree_rule
  compare_holds at ops.Equal left right first second = joined_two ops.Equal left right refl first second
  compare_holds at ops.Differs left right first second = joined_two ops.Differs left right refl first second
  compare_holds at ops.Less left right first second = ordered_two ops.Less left right refl first second
  compare_holds at ops.AtMost left right first second = ordered_two ops.AtMost left right refl first second
  compare_holds at ops.Greater left right first second = ordered_two ops.Greater left right refl first second
  compare_holds at ops.AtLeast left right first second = ordered_two ops.AtLeast left right refl first second

  -- ---- numbers

  pub sum_holds : (at : ℕ) (first : ExprTree) (rest : List (SumPart ExprTree))
      → Sound names seen first → AllByRecursion (OfSum (Sound names seen)) rest
      → Holds (expr_rule (forms.Sum at (part_of first) (map (sum_with part_of) rest)) names depth)
      (tree_rule (forms.Sum at (tree_in first) (map (sum_with tree_in) rest)) seen)
  unfolding expr_rule tree_rule
  sum_holds at first rest sound more =
      holds_rule (nat_lt 0 (length (map (sum_with part_of) rest))) (WrongType at) _ _ (λ some.
      holds_bind (fitting names (depth + 1) ty.Number depth (part_of first)) _ _ (λ deep is.
      holds_bind (in_turn (sum_fitting names (depth + 1)) deep (map (sum_with part_of) rest)) (λ all. Ok (kind ty.Number all)) _ (λ all are.
      let a = part_fits names seen (depth + 1) depth deep ty.Number first sound is in
      let b = sums_fit names seen (depth + 1) deep all rest more are in
      holds_kind ty.Number all _
      (then_goes ty.Number (tree_in first seen)
      (λ e. option_and_then (λ more. built (nodes.Sum e more)) (each_of (addend_tree seen) [] (map (sum_with tree_in) rest))) a.tree a.is
      (then_goes ty.Number (each_of (addend_tree seen) [] (map (sum_with tree_in) rest)) (λ more. built (nodes.Sum a.tree more)) b.trees (b.are [])
      (built_goes ty.Number (nodes.Sum a.tree b.trees) (typed_goes _ ty.Number
      (and_from (goes_as ty.Number (type_of a.tree)) _ a.goes
      (and_from (nat_lt 0 (length (map (addend_with type_of) b.trees))) (list_all addend_fits (map (addend_with type_of) b.trees))
      (counted (nat_lt 0) (addend_with type_of) b.trees (sum_with part_of) rest b.count some) b.go)))))))))

  pub product_holds : (at : ℕ) (first : ExprTree) (rest : List (ProductPart ExprTree))
      → Sound names seen first → AllByRecursion (OfProduct (Sound names seen)) rest
      → Holds (expr_rule (forms.Product at (part_of first) (map (product_with part_of) rest)) names depth)
      (tree_rule (forms.Product at (tree_in first) (map (product_with tree_in) rest)) seen)
  unfolding expr_rule tree_rule
  product_holds at first rest sound more =
      holds_rule (nat_lt 0 (length (map (product_with part_of) rest))) (WrongType at) _ _ (λ some.
      holds_bind (fitting names (depth + 1) ty.Number depth (part_of first)) _ _ (λ deep is.
      holds_bind (in_turn (product_fitting at names (depth + 1)) deep (map (product_with part_of) rest)) (λ all. Ok (kind ty.Number all)) _ (λ all are.
      let a = part_fits names seen (depth + 1) depth deep ty.Number first sound is in
      let b = products_fit at names seen (depth + 1) deep all rest more are in
      holds_kind ty.Number all _
      (then_goes ty.Number (tree_in first seen)
      (λ e. option_and_then (λ more. built (nodes.Product e more)) (each_of (factor_tree seen) [] (map (product_with tree_in) rest))) a.tree a.is
      (then_goes ty.Number (each_of (factor_tree seen) [] (map (product_with tree_in) rest)) (λ more. built (nodes.Product a.tree more)) b.trees (b.are [])
      (built_goes ty.Number (nodes.Product a.tree b.trees) (typed_goes _ ty.Number
      (and_from (goes_as ty.Number (type_of a.tree)) _ a.goes
      (and_from (nat_lt 0 (length (map (factor_with type_of) b.trees))) (list_all factor_fits (map (factor_with type_of) b.trees))
      (counted (nat_lt 0) (factor_with type_of) b.trees (product_with part_of) rest b.count some) b.go)))))))))

  pub neg_holds : (at : ℕ) (part : ExprTree) → Sound names seen part
      → Holds (expr_rule (forms.Neg at (part_of part)) names depth) (tree_rule (forms.Neg at (tree_in part)) seen)
  unfolding expr_rule tree_rule
  neg_holds at part sound =
      holds_bind (expr_walk part names (depth + 1)) (negated_kind (part_of part).at) _ (λ found is.
      holds_bind (join_found (part_of part).at (negated found.ty)) (λ t. Ok (kind t found.deep)) _ (λ t some.
      let there = fitting_tree found.ty (tree_in part seen) (sound (depth + 1) found is) in
      holds_kind t found.deep _
      (then_goes t (tree_in part seen) (λ e. built (nodes.Neg e)) there.tree there.is
      (built_goes t (nodes.Neg there.tree)
      (narrower_negated (Some found.ty) (type_of there.tree)
      (narrower_some found.ty (type_of there.tree) there.goes) (type_bounds there.tree) t
      (found_join (part_of part).at (negated found.ty) t some))))))

  pub ratio_holds : (at : ℕ) (x y otherwise : ExprTree) → Sound names seen x → Sound names seen y → Sound names seen otherwise
      → Holds (expr_rule (forms.Ratio at (part_of x) (part_of y) (part_of otherwise)) names depth)
      (tree_rule (forms.Ratio at (tree_in x) (tree_in y) (tree_in otherwise)) seen)
  unfolding expr_rule tree_rule
  ratio_holds at x y otherwise p q r =
      holds_bind (all_fitting names (depth + 1) ty.Number depth (part_of x ∷ part_of y ∷ part_of otherwise ∷ [])) (λ deep. Ok (kind ty.Number deep)) _ (λ deep is.
      let one = bind_ok (fitting names (depth + 1) ty.Number depth (part_of x))
      (λ next. all_fitting names (depth + 1) ty.Number next (part_of y ∷ part_of otherwise ∷ [])) deep is in
      let two = two_fit one.0 deep ty.Number y otherwise q r one.2 in
      let a = part_fits names seen (depth + 1) depth one.0 ty.Number x p one.1 in
      holds_kind ty.Number deep _
      (then_goes ty.Number (tree_in x seen)
      (λ a. option_and_then (λ b. option_and_then (λ c. built (nodes.Ratio a b c)) (tree_in otherwise seen)) (tree_in y seen)) a.tree a.is
      (then_goes ty.Number (tree_in y seen)
      (λ b. option_and_then (λ c. built (nodes.Ratio a.tree b c)) (tree_in otherwise seen)) two.0.tree two.0.is
      (then_goes ty.Number (tree_in otherwise seen) (λ c. built (nodes.Ratio a.tree two.0.tree c)) two.1.tree two.1.is
      (built_goes ty.Number (nodes.Ratio a.tree two.0.tree two.1.tree) (typed_goes _ ty.Number
      (and_from (goes_as ty.Number (type_of a.tree)) _ a.goes
      (and_from (goes_as ty.Number (type_of two.0.tree)) (goes_as ty.Number (type_of two.1.tree)) two.0.goes two.1.goes))))))))

  pub min_holds : (at : ℕ) (first second : ExprTree) → Sound names seen first → Sound names seen second
      → Holds (expr_rule (forms.Min at (part_of first) (part_of second)) names depth)
      (tree_rule (forms.Min at (tree_in first) (tree_in second)) seen)
  unfolding expr_rule tree_rule
  min_holds at first second p q =
      holds_bind (all_fitting names (depth + 1) ty.Number depth (part_of first ∷ part_of second ∷ [])) (λ deep. Ok (kind ty.Number deep)) _ (λ deep is.
      let two = two_fit depth deep ty.Number first second p q is in
      holds_kind ty.Number deep _
      (then_goes ty.Number (tree_in first seen) (λ a. option_and_then (λ b. built (nodes.Min a b)) (tree_in second seen)) two.0.tree two.0.is
      (then_goes ty.Number (tree_in second seen) (λ b. built (nodes.Min two.0.tree b)) two.1.tree two.1.is
      (built_goes ty.Number (nodes.Min two.0.tree two.1.tree) (typed_goes _ ty.Number
      (and_from (goes_as ty.Number (type_of two.0.tree)) (goes_as ty.Number (type_of two.1.tree)) two.0.goes two.1.goes))))))

  pub max_holds : (at : ℕ) (first second : ExprTree) → Sound names seen first → Sound names seen second
      → Holds (expr_rule (forms.Max at (part_of first) (part_of second)) names depth)
      (tree_rule (forms.Max at (tree_in first) (tree_in second)) seen)
  unfolding expr_rule tree_rule
  max_holds at first second p q =
      holds_bind (all_fitting names (depth + 1) ty.Number depth (part_of first ∷ part_of second ∷ [])) (λ deep. Ok (kind ty.Number deep)) _ (λ deep is.
      let two = two_fit depth deep ty.Number first second p q is in
      holds_kind ty.Number deep _
      (then_goes ty.Number (tree_in first seen) (λ a. option_and_then (λ b. built (nodes.Max a b)) (tree_in second seen)) two.0.tree two.0.is
      (then_goes ty.Number (tree_in second seen) (λ b. built (nodes.Max two.0.tree b)) two.1.tree two.1.is
      (built_goes ty.Number (nodes.Max two.0.tree two.1.tree) (typed_goes _ ty.Number
      (and_from (goes_as ty.Number (type_of two.0.tree)) (goes_as ty.Number (type_of two.1.tree)) two.0.goes two.1.goes))))))

  pub clamp_holds : (at lo_at : ℕ) (lo hi : ℤ) (part : ExprTree) → Sound names seen part
      → Holds (expr_rule (forms.Clamp at lo_at lo hi (part_of part)) names depth)
      (tree_rule (forms.Clamp at lo_at lo hi (tree_in part)) seen)
  unfolding expr_rule tree_rule
  clamp_holds at lo_at lo hi part sound =
      holds_rule (are_bounds lo hi) (WrongType lo_at) _ _ (λ bounds.
      holds_bind (fitting names (depth + 1) ty.Number depth (part_of part)) (λ deep. Ok (kind (ty.Range lo hi) deep)) _ (λ deep is.
      let there = part_fits names seen (depth + 1) depth deep ty.Number part sound is in
      let both = and_parts (int_le lo hi) (is_word lo && is_word hi) bounds in
      holds_kind (ty.Range lo hi) deep _
      (then_goes (ty.Range lo hi) (tree_in part seen) (λ e. built (nodes.Clamp lo hi e)) there.tree there.is
      (built_goes (ty.Range lo hi) (nodes.Clamp lo hi there.tree) (typed_goes _ (ty.Range lo hi)
      (and_from (is_word lo && is_word hi) _ both.1
      (and_from (int_le lo hi) (goes_as ty.Number (type_of there.tree)) both.0 there.goes)))))))

  pub literal_holds : (at : ℕ) (n : ℤ)
      → Holds (expr_rule (forms.Number at n) names depth) (tree_rule (forms.Number at n) seen)
  unfolding expr_rule tree_rule
  literal_holds at n =
      holds_rule (is_word n) (WrongType at) _ _ (λ word.
      holds_kind (ty.Range n n) depth _
      (built_goes (ty.Range n n) (nodes.Literal n) (typed_goes (is_word n) (ty.Range n n) word)))

  pub flag_holds : (at : ℕ) (flag : Bool)
      → Holds (expr_rule (forms.Flag at flag) names depth) (tree_rule (forms.Flag at flag) seen)
  unfolding expr_rule tree_rule
  flag_holds at flag =
      holds_kind ty.Bool depth _ (built_goes ty.Bool (nodes.Flag flag) (fits_itself ty.Bool))
