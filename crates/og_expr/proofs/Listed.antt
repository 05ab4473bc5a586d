-- Expressions with a list's trees for their variables.
use Rattle.std.proofs.Common.{◌≡◌, ◌∙◌, ◌+◌, ◌<◌, ◌++◌, [], ◌∷◌, map, take, drop, length, get_or, cond, ap, sym, refl}
use Rattle.std.specs.Prelude.{ℕ, Bool, true, List, Option, Some, None, IsSome, slice_get, unwrap_or}
use Rattle.std.proofs.lemmas.Bool.{and_parts}
use Rattle.std.proofs.lemmas.List.{take_more, map-append}
use Rattle.og_list.proofs.Drop.{drop_at}
use Rattle.og_types.specs.declared.ty.Ty.{Ty}
use Rattle.og_types.specs.Ty.{bounds_fit}
use Rattle.og_types.proofs.FitsLaws.{fits_itself}
use Rattle.og_expr.specs.declared.node.NodeOf.{NodeOf}
use Rattle.og_expr.specs.declared.node.NodeOf.TheVariants as nodes
use Rattle.og_expr.specs.declared.node.Term.{Term}
use Rattle.og_expr.specs.Terms.{term_of}
use Rattle.og_expr.specs.declared.node.Choice.{Choice}
use Rattle.og_expr.specs.declared.node.Key.{Key}
use Rattle.og_expr.specs.Levels.{node_with, choice_with, key_with, fold_of_node}
use Rattle.og_expr.specs.Parts.{all_together, together}
use Rattle.og_expr.specs.Variables.{at_variables, all_variables, and_also}
use Rattle.og_expr.specs.Types.{type_of, goes_as}
use Rattle.og_expr.specs.Replaced.{variable, replaced, tree_at, fits_as, takes}
use Rattle.og_expr.proofs.Forms.{type_of_node}
use Rattle.og_expr.proofs.Narrower.{type_replaced}

pub replaced_node : (trees : ℕ → Ty → Term) (n : NodeOf Term)
    → replaced trees (term_of n) ≡ at_variables trees term_of (node_with (replaced trees) n)
replaced_node trees n = fold_of_node (at_variables trees term_of) n

pub all_node : (test : ℕ → Ty → Bool) (n : NodeOf Term)
    → all_variables test (term_of n) ≡ at_variables test (together true and_also) (node_with (all_variables test) n)
all_node test n = fold_of_node (at_variables test (together true and_also)) n

-- ---- types

itself_fits : (number : ℕ) (u : Ty) → bounds_fit u ≡ true → goes_as u (type_of (variable number u)) ≡ true
itself_fits number u bounds =
    ap (goes_as u) (type_of_node (nodes.Var number u) ∙ ap (λ b. cond b (Some u) None) bounds) ∙ fits_itself u

tree_fits : (tree : Option Term) (number : ℕ) (u : Ty) → fits_as tree u ≡ true → bounds_fit u ≡ true
    → goes_as u (type_of (unwrap_or tree (variable number u))) ≡ true
tree_fits None number u fits bounds = itself_fits number u bounds
tree_fits (Some tree) number u fits bounds = fits

pub types_listed : (trees : List Term) (e : Term) (t : Ty) → all_variables (takes trees) e ≡ true → type_of e ≡ Some t
    → goes_as t (type_of (replaced (tree_at trees) e)) ≡ true
types_listed trees = type_replaced (tree_at trees) (takes trees) (λ number u. tree_fits (slice_get trees number) number u)

is_typed : (o : Option Ty) (t : Ty) → goes_as t o ≡ true → o ≡ None → ⊥
is_typed None t fits none = cc
is_typed (Some u) t fits none = cc

typed_if_some : (o : Option Ty) (trees : List Term) (e : Term) → type_of e ≡ o → IsSome o → all_variables (takes trees) e ≡ true
    → type_of (replaced (tree_at trees) e) ≡ None → ⊥
typed_if_some None trees e is some fits = cc
typed_if_some (Some t) trees e is some fits = is_typed (type_of (replaced (tree_at trees) e)) t (types_listed trees e t fits is)

pub typed : (trees : List Term) (e : Term) → IsSome (type_of e) → all_variables (takes trees) e ≡ true
    → type_of (replaced (tree_at trees) e) ≡ None → ⊥
typed trees e = typed_if_some (type_of e) trees e refl

-- ---- one item more of a list

pub next_made : {A B : Type 0} (f : A → B) (xs : List A) (i : ℕ) (x : A) → i < length xs → x ≡ get_or xs i x
    → map f (take (i + 1) xs) ≡ map f (take i xs) ++ f x ∷ []
next_made f xs i x lt is =
    ap (map f) (take_more xs i x lt) ∙ map-append f (take i xs) (get_or xs i x ∷ []) ∙ ap (λ y. map f (take i xs) ++ f y ∷ []) (sym is)

-- what holds of all that is left holds of all behind the next
pub rest_holds : {A B : Type 0} (test : B → Bool) (f : A → B) (xs : List A) (i : ℕ) (x : A) → i < length xs → x ≡ get_or xs i x
    → all_together true and_also test (map f (drop i xs)) ≡ true → all_together true and_also test (map f (drop (i + 1) xs)) ≡ true
rest_holds test f xs i x lt is all = (and_parts (test (f x)) (all_together true and_also test (map f (drop (i + 1) xs)))
    (sym (ap (λ ys. all_together true and_also test (map f ys)) (drop_at xs i x lt is)) ∙ all)).1

pub next_choice : (f : Term → Term) (cs : List (Choice Term)) (i : ℕ) (c : Choice Term) → i < length cs → c ≡ get_or cs i c
    → (all more : List (Choice Term)) → all ≡ map (choice_with f) (take i cs) → (cond body : Term)
    → more ≡ all ++ record { cond = cond; body = body } ∷ [] → cond ≡ f c.cond → body ≡ f c.body
    → more ≡ map (choice_with f) (take (i + 1) cs)
next_choice f cs i c lt is all more inv cond body added one two =
    added ∙ (λ j. inv j ++ record { cond = one j; body = two j } ∷ []) ∙ sym (next_made (choice_with f) cs i c lt is)

pub next_key : (f : Term → Term) (keys : List (Key Term)) (i : ℕ) (key : Key Term) → i < length keys → key ≡ get_or keys i key
    → (all more : List (Key Term)) → all ≡ map (key_with f) (take i keys) → (expr : Term) (t : Ty)
    → more ≡ all ++ record { expr = expr; ty = t } ∷ [] → expr ≡ f key.expr → t ≡ key.ty
    → more ≡ map (key_with f) (take (i + 1) keys)
next_key f keys i key lt is all more inv expr t added one two =
    added ∙ (λ j. inv j ++ record { expr = one j; ty = two j } ∷ []) ∙ sym (next_made (key_with f) keys i key lt is)
