-- Components of an expression, which may itself be components of another.
use Rattle.std.proofs.Common.{◌≡◌, ◌∙◌, ℕ, List, [], ◌∷◌, ◌++◌, refl, sym, ap, subst, append_assoc}
use Rattle.std.proofs.lemmas.List.{append-nil}
use Rattle.std.proofs.lemmas.List.Concat.{flat_map-append}
use Rattle.og_lex.specs.declared.token.Mark.TheVariants as marks
use Rattle.og_syntax.specs.declared.expressions.ExprTree.{ExprTree}
use Rattle.og_syntax.specs.declared.expressions.ExprTree.TheOpen.{ExprTree-F}
use Rattle.og_syntax.specs.declared.expressions.ExprTree.TheOpen as level
use Rattle.og_syntax.specs.declared.expressions.ExprTree.TheViews.{out-ExprTree, roll-ExprTree, roll-out-ExprTree, out-roll-ExprTree}
use Rattle.og_syntax.specs.declared.expressions.ExprTree.TheFolds.{fold-roll-ExprTree, map-ExprTree}
use Rattle.og_syntax.specs.declared.expressions.ExprTree.TheVariants as exprs
use Rattle.og_syntax.specs.Places.{place_step}
use Rattle.og_syntax.specs.Unplaced.{expr_unplaced, expr_step}
use Rattle.og_language.specs.Trees.{components_of, field_of}
use Rattle.og_canonical.specs.Tokens.{mark, number}
use Rattle.og_canonical.specs.Expressions.{at_least, tight, shown, path_text}
use Rattle.og_canonical.proofs.ExprForms.{shown_field}
use Rattle.og_reread.proofs.Sames.{SameExpr}
use Rattle.og_reread.proofs.ExprForms.{bare_field}

-- the components of an expression, by its outermost form and its place
abbrev taken : ExprTree-F ExprTree → ℕ → ExprTree → List ℕ → ExprTree
taken y place part ks =
    elim y [
      | level.Field at whole js ↦ exprs.Field at whole (js ++ ks)
      | _ ↦ exprs.Field place part ks
    ]

-- ---- without places

bare_out : (y : ExprTree-F ExprTree) → out-ExprTree (expr_unplaced (roll-ExprTree y)) ≡ out-ExprTree (expr_step (map-ExprTree ExprTree ExprTree expr_unplaced y))
bare_out y = ap out-ExprTree (fold-roll-ExprTree ExprTree expr_step y)

bare_taken : (y : ExprTree-F ExprTree) (p : ℕ) (ks : List ℕ)
    → expr_unplaced (taken y p (roll-ExprTree y) ks) ≡ components_of (expr_unplaced (roll-ExprTree y)) ks
bare_taken (level.Number at n) p ks =
    bare_field p (roll-ExprTree (level.Number at n)) ks
    ∙ sym (ap (λ z. taken z (place_step z) (expr_unplaced (roll-ExprTree (level.Number at n))) ks) (bare_out (level.Number at n) ∙ exprs.outs-Number _ _))
bare_taken (level.Flag at b) p ks =
    bare_field p (roll-ExprTree (level.Flag at b)) ks
    ∙ sym (ap (λ z. taken z (place_step z) (expr_unplaced (roll-ExprTree (level.Flag at b))) ks) (bare_out (level.Flag at b) ∙ exprs.outs-Flag _ _))
bare_taken (level.Name at n) p ks =
    bare_field p (roll-ExprTree (level.Name at n)) ks
    ∙ sym (ap (λ z. taken z (place_step z) (expr_unplaced (roll-ExprTree (level.Name at n))) ks) (bare_out (level.Name at n) ∙ exprs.outs-Name _ _))
bare_taken (level.Call at n es) p ks =
    bare_field p (roll-ExprTree (level.Call at n es)) ks
    ∙ sym (ap (λ z. taken z (place_step z) (expr_unplaced (roll-ExprTree (level.Call at n es))) ks) (bare_out (level.Call at n es) ∙ exprs.outs-Call _ _ _))
bare_taken (level.Or at es) p ks =
    bare_field p (roll-ExprTree (level.Or at es)) ks
    ∙ sym (ap (λ z. taken z (place_step z) (expr_unplaced (roll-ExprTree (level.Or at es))) ks) (bare_out (level.Or at es) ∙ exprs.outs-Or _ _))
bare_taken (level.And at es) p ks =
    bare_field p (roll-ExprTree (level.And at es)) ks
    ∙ sym (ap (λ z. taken z (place_step z) (expr_unplaced (roll-ExprTree (level.And at es))) ks) (bare_out (level.And at es) ∙ exprs.outs-And _ _))
bare_taken (level.Not at e) p ks =
    bare_field p (roll-ExprTree (level.Not at e)) ks
    ∙ sym (ap (λ z. taken z (place_step z) (expr_unplaced (roll-ExprTree (level.Not at e))) ks) (bare_out (level.Not at e) ∙ exprs.outs-Not _ _))
bare_taken (level.Compare at o e f) p ks =
    bare_field p (roll-ExprTree (level.Compare at o e f)) ks
    ∙ sym (ap (λ z. taken z (place_step z) (expr_unplaced (roll-ExprTree (level.Compare at o e f))) ks) (bare_out (level.Compare at o e f) ∙ exprs.outs-Compare _ _ _ _))
bare_taken (level.Sum at e xs) p ks =
    bare_field p (roll-ExprTree (level.Sum at e xs)) ks
    ∙ sym (ap (λ z. taken z (place_step z) (expr_unplaced (roll-ExprTree (level.Sum at e xs))) ks) (bare_out (level.Sum at e xs) ∙ exprs.outs-Sum _ _ _))
bare_taken (level.Product at e xs) p ks =
    bare_field p (roll-ExprTree (level.Product at e xs)) ks
    ∙ sym (ap (λ z. taken z (place_step z) (expr_unplaced (roll-ExprTree (level.Product at e xs))) ks) (bare_out (level.Product at e xs) ∙ exprs.outs-Product _ _ _))
bare_taken (level.Neg at e) p ks =
    bare_field p (roll-ExprTree (level.Neg at e)) ks
    ∙ sym (ap (λ z. taken z (place_step z) (expr_unplaced (roll-ExprTree (level.Neg at e))) ks) (bare_out (level.Neg at e) ∙ exprs.outs-Neg _ _))
bare_taken (level.Field at w js) p ks =
    bare_field at w (js ++ ks)
    ∙ sym (ap (λ z. taken z (place_step z) (expr_unplaced (roll-ExprTree (level.Field at w js))) ks) (bare_out (level.Field at w js) ∙ exprs.outs-Field _ _ _))
bare_taken (level.Tuple at es) p ks =
    bare_field p (roll-ExprTree (level.Tuple at es)) ks
    ∙ sym (ap (λ z. taken z (place_step z) (expr_unplaced (roll-ExprTree (level.Tuple at es))) ks) (bare_out (level.Tuple at es) ∙ exprs.outs-Tuple _ _))
bare_taken (level.If at xs e) p ks =
    bare_field p (roll-ExprTree (level.If at xs e)) ks
    ∙ sym (ap (λ z. taken z (place_step z) (expr_unplaced (roll-ExprTree (level.If at xs e))) ks) (bare_out (level.If at xs e) ∙ exprs.outs-If _ _ _))
bare_taken (level.Table at rs xs) p ks =
    bare_field p (roll-ExprTree (level.Table at rs xs)) ks
    ∙ sym (ap (λ z. taken z (place_step z) (expr_unplaced (roll-ExprTree (level.Table at rs xs))) ks) (bare_out (level.Table at rs xs) ∙ exprs.outs-Table _ _ _))
bare_taken (level.Ratio at a b d) p ks =
    bare_field p (roll-ExprTree (level.Ratio at a b d)) ks
    ∙ sym (ap (λ z. taken z (place_step z) (expr_unplaced (roll-ExprTree (level.Ratio at a b d))) ks) (bare_out (level.Ratio at a b d) ∙ exprs.outs-Ratio _ _ _ _))
bare_taken (level.Min at e f) p ks =
    bare_field p (roll-ExprTree (level.Min at e f)) ks
    ∙ sym (ap (λ z. taken z (place_step z) (expr_unplaced (roll-ExprTree (level.Min at e f))) ks) (bare_out (level.Min at e f) ∙ exprs.outs-Min _ _ _))
bare_taken (level.Max at e f) p ks =
    bare_field p (roll-ExprTree (level.Max at e f)) ks
    ∙ sym (ap (λ z. taken z (place_step z) (expr_unplaced (roll-ExprTree (level.Max at e f))) ks) (bare_out (level.Max at e f) ∙ exprs.outs-Max _ _ _))
bare_taken (level.Clamp at l lo hi e) p ks =
    bare_field p (roll-ExprTree (level.Clamp at l lo hi e)) ks
    ∙ sym (ap (λ z. taken z (place_step z) (expr_unplaced (roll-ExprTree (level.Clamp at l lo hi e))) ks) (bare_out (level.Clamp at l lo hi e) ∙ exprs.outs-Clamp _ _ _ _ _))

bare_components : (p : ExprTree) (ks : List ℕ) → expr_unplaced (components_of p ks) ≡ components_of (expr_unplaced p) ks
bare_components p ks =
    subst (λ x. expr_unplaced (components_of x ks) ≡ components_of (expr_unplaced x) ks) (roll-out-ExprTree p)
    (ap (λ z. expr_unplaced (taken z (place_step z) (roll-ExprTree (out-ExprTree p)) ks)) (out-roll-ExprTree (out-ExprTree p))
    ∙ bare_taken (out-ExprTree p) (place_step (out-ExprTree p)) ks)

bare_field_of : (p : ExprTree) (ks : List ℕ) → expr_unplaced (field_of p ks) ≡ field_of (expr_unplaced p) ks
bare_field_of p [] = refl
bare_field_of p (k ∷ ks) = bare_components p (k ∷ ks)

pub same_field_of : (p q : ExprTree) (ks : List ℕ) → SameExpr p q → SameExpr (field_of p ks) (field_of q ks)
same_field_of p q ks same = bare_field_of q ks ∙ ap (λ x. field_of x ks) same ∙ sym (bare_field_of p ks)

-- ---- as it is shown

shown_taken : (y : ExprTree-F ExprTree) (p : ℕ) (ks : List ℕ)
    → shown (taken y p (roll-ExprTree y) ks) ≡ tight (at_least 8 (shown (roll-ExprTree y)) ++ path_text ks)
unfolding at_least
shown_taken (level.Number at n) p ks = shown_field p (roll-ExprTree (level.Number at n)) ks
shown_taken (level.Flag at b) p ks = shown_field p (roll-ExprTree (level.Flag at b)) ks
shown_taken (level.Name at n) p ks = shown_field p (roll-ExprTree (level.Name at n)) ks
shown_taken (level.Call at n es) p ks = shown_field p (roll-ExprTree (level.Call at n es)) ks
shown_taken (level.Or at es) p ks = shown_field p (roll-ExprTree (level.Or at es)) ks
shown_taken (level.And at es) p ks = shown_field p (roll-ExprTree (level.And at es)) ks
shown_taken (level.Not at e) p ks = shown_field p (roll-ExprTree (level.Not at e)) ks
shown_taken (level.Compare at o e f) p ks = shown_field p (roll-ExprTree (level.Compare at o e f)) ks
shown_taken (level.Sum at e xs) p ks = shown_field p (roll-ExprTree (level.Sum at e xs)) ks
shown_taken (level.Product at e xs) p ks = shown_field p (roll-ExprTree (level.Product at e xs)) ks
shown_taken (level.Neg at e) p ks = shown_field p (roll-ExprTree (level.Neg at e)) ks
shown_taken (level.Field at w js) p ks =
    shown_field at w (js ++ ks)
    ∙ ap tight (ap (λ l. at_least 8 (shown w) ++ l) (flat_map-append (λ k. mark marks.Dot ++ number k) js ks) ∙ sym (append_assoc (at_least 8 (shown w)) (path_text js) (path_text ks))
    ∙ ap (λ s. at_least 8 s ++ path_text ks) (sym (ap shown (exprs.rolls-Field at w js) ∙ shown_field at w js)))
shown_taken (level.Tuple at es) p ks = shown_field p (roll-ExprTree (level.Tuple at es)) ks
shown_taken (level.If at xs e) p ks = shown_field p (roll-ExprTree (level.If at xs e)) ks
shown_taken (level.Table at rs xs) p ks = shown_field p (roll-ExprTree (level.Table at rs xs)) ks
shown_taken (level.Ratio at a b d) p ks = shown_field p (roll-ExprTree (level.Ratio at a b d)) ks
shown_taken (level.Min at e f) p ks = shown_field p (roll-ExprTree (level.Min at e f)) ks
shown_taken (level.Max at e f) p ks = shown_field p (roll-ExprTree (level.Max at e f)) ks
shown_taken (level.Clamp at l lo hi e) p ks = shown_field p (roll-ExprTree (level.Clamp at l lo hi e)) ks

pub shown_components : (p : ExprTree) (k : ℕ) (ks : List ℕ) → shown (field_of p (k ∷ ks)) ≡ tight (at_least 8 (shown p) ++ path_text (k ∷ ks))
shown_components p k ks =
    subst (λ x. shown (components_of x (k ∷ ks)) ≡ tight (at_least 8 (shown x) ++ path_text (k ∷ ks))) (roll-out-ExprTree p)
    (ap (λ z. shown (taken z (place_step z) (roll-ExprTree (out-ExprTree p)) (k ∷ ks))) (out-roll-ExprTree (out-ExprTree p))
    ∙ shown_taken (out-ExprTree p) (place_step (out-ExprTree p)) (k ∷ ks))

-- ---- some components, and then more

more_taken : (y : ExprTree-F ExprTree) (p : ℕ) (ks ls : List ℕ)
    → taken y p (roll-ExprTree y) (ks ++ ls) ≡ components_of (taken y p (roll-ExprTree y) ks) ls
more_taken (level.Number at n) p ks ls =
    sym (ap (λ z. taken z (place_step z) (exprs.Field p (roll-ExprTree (level.Number at n)) ks) ls) (exprs.outs-Field p (roll-ExprTree (level.Number at n)) ks))
more_taken (level.Flag at b) p ks ls =
    sym (ap (λ z. taken z (place_step z) (exprs.Field p (roll-ExprTree (level.Flag at b)) ks) ls) (exprs.outs-Field p (roll-ExprTree (level.Flag at b)) ks))
more_taken (level.Name at n) p ks ls =
    sym (ap (λ z. taken z (place_step z) (exprs.Field p (roll-ExprTree (level.Name at n)) ks) ls) (exprs.outs-Field p (roll-ExprTree (level.Name at n)) ks))
more_taken (level.Call at n es) p ks ls =
    sym (ap (λ z. taken z (place_step z) (exprs.Field p (roll-ExprTree (level.Call at n es)) ks) ls) (exprs.outs-Field p (roll-ExprTree (level.Call at n es)) ks))
more_taken (level.Or at es) p ks ls =
    sym (ap (λ z. taken z (place_step z) (exprs.Field p (roll-ExprTree (level.Or at es)) ks) ls) (exprs.outs-Field p (roll-ExprTree (level.Or at es)) ks))
more_taken (level.And at es) p ks ls =
    sym (ap (λ z. taken z (place_step z) (exprs.Field p (roll-ExprTree (level.And at es)) ks) ls) (exprs.outs-Field p (roll-ExprTree (level.And at es)) ks))
more_taken (level.Not at e) p ks ls =
    sym (ap (λ z. taken z (place_step z) (exprs.Field p (roll-ExprTree (level.Not at e)) ks) ls) (exprs.outs-Field p (roll-ExprTree (level.Not at e)) ks))
more_taken (level.Compare at o e f) p ks ls =
    sym (ap (λ z. taken z (place_step z) (exprs.Field p (roll-ExprTree (level.Compare at o e f)) ks) ls) (exprs.outs-Field p (roll-ExprTree (level.Compare at o e f)) ks))
more_taken (level.Sum at e xs) p ks ls =
    sym (ap (λ z. taken z (place_step z) (exprs.Field p (roll-ExprTree (level.Sum at e xs)) ks) ls) (exprs.outs-Field p (roll-ExprTree (level.Sum at e xs)) ks))
more_taken (level.Product at e xs) p ks ls =
    sym (ap (λ z. taken z (place_step z) (exprs.Field p (roll-ExprTree (level.Product at e xs)) ks) ls) (exprs.outs-Field p (roll-ExprTree (level.Product at e xs)) ks))
more_taken (level.Neg at e) p ks ls =
    sym (ap (λ z. taken z (place_step z) (exprs.Field p (roll-ExprTree (level.Neg at e)) ks) ls) (exprs.outs-Field p (roll-ExprTree (level.Neg at e)) ks))
more_taken (level.Field at w js) p ks ls =
    sym (ap (λ z. taken z (place_step z) (exprs.Field at w (js ++ ks)) ls) (exprs.outs-Field at w (js ++ ks)) ∙ ap (exprs.Field at w) (append_assoc js ks ls))
more_taken (level.Tuple at es) p ks ls =
    sym (ap (λ z. taken z (place_step z) (exprs.Field p (roll-ExprTree (level.Tuple at es)) ks) ls) (exprs.outs-Field p (roll-ExprTree (level.Tuple at es)) ks))
more_taken (level.If at xs e) p ks ls =
    sym (ap (λ z. taken z (place_step z) (exprs.Field p (roll-ExprTree (level.If at xs e)) ks) ls) (exprs.outs-Field p (roll-ExprTree (level.If at xs e)) ks))
more_taken (level.Table at rs xs) p ks ls =
    sym (ap (λ z. taken z (place_step z) (exprs.Field p (roll-ExprTree (level.Table at rs xs)) ks) ls) (exprs.outs-Field p (roll-ExprTree (level.Table at rs xs)) ks))
more_taken (level.Ratio at a b d) p ks ls =
    sym (ap (λ z. taken z (place_step z) (exprs.Field p (roll-ExprTree (level.Ratio at a b d)) ks) ls) (exprs.outs-Field p (roll-ExprTree (level.Ratio at a b d)) ks))
more_taken (level.Min at e f) p ks ls =
    sym (ap (λ z. taken z (place_step z) (exprs.Field p (roll-ExprTree (level.Min at e f)) ks) ls) (exprs.outs-Field p (roll-ExprTree (level.Min at e f)) ks))
more_taken (level.Max at e f) p ks ls =
    sym (ap (λ z. taken z (place_step z) (exprs.Field p (roll-ExprTree (level.Max at e f)) ks) ls) (exprs.outs-Field p (roll-ExprTree (level.Max at e f)) ks))
more_taken (level.Clamp at l lo hi e) p ks ls =
    sym (ap (λ z. taken z (place_step z) (exprs.Field p (roll-ExprTree (level.Clamp at l lo hi e)) ks) ls) (exprs.outs-Field p (roll-ExprTree (level.Clamp at l lo hi e)) ks))

more_components : (p : ExprTree) (ks ls : List ℕ) → components_of p (ks ++ ls) ≡ components_of (components_of p ks) ls
more_components p ks ls =
    subst (λ x. components_of x (ks ++ ls) ≡ components_of (components_of x ks) ls) (roll-out-ExprTree p)
    (ap (λ z. taken z (place_step z) (roll-ExprTree (out-ExprTree p)) (ks ++ ls)) (out-roll-ExprTree (out-ExprTree p))
    ∙ more_taken (out-ExprTree p) (place_step (out-ExprTree p)) ks ls
    ∙ ap (λ z. components_of (taken z (place_step z) (roll-ExprTree (out-ExprTree p)) ks) ls) (sym (out-roll-ExprTree (out-ExprTree p))))

pub field_of-more : (p : ExprTree) (ks ls : List ℕ) → field_of p (ks ++ ls) ≡ field_of (field_of p ks) ls
field_of-more p [] ls = refl
field_of-more p (k ∷ ks) [] = ap (field_of p) (append-nil (k ∷ ks))
field_of-more p (k ∷ ks) (l ∷ ls) = more_components p (k ∷ ks) (l ∷ ls)
