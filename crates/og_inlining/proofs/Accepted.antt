-- Walks that were accepted, and trees whose types go as what they gave.
use Rattle.std.proofs.Common.{◌≡◌, ◌∙◌, ℕ, Bool, true, false, List, [], ◌∷◌, ◌++◌, length, refl, ap, sym, subst, true≢false}
use Rattle.std.specs.Prelude.{Option, Some, None, is_some, option_and_then, if◌then◌else◌, nat_lt, IsSomeAnd, Ok, Err}
use Rattle.std.specs.List.{list_all}
use Rattle.std.proofs.lemmas.Bool.{and_parts}
use Rattle.std.proofs.lemmas.List.{append_assoc, append-nil}
use Rattle.og_types.specs.declared.ty.Ty.{Ty}
use Rattle.og_types.specs.Ty.{fits, join}
use Rattle.og_types.proofs.FitsLaws.{fits_itself, fits_along}
use Rattle.og_types.proofs.JoinLaws.{join_least}
use Rattle.og_expr.specs.declared.node.NodeOf.{NodeOf}
use Rattle.og_expr.specs.declared.node.Term.{Term}
use Rattle.og_expr.specs.Terms.{term_of}
use Rattle.og_expr.specs.Levels.{node_with, fold_of_node}
use Rattle.og_expr.specs.Types.{typed_if, goes_as, join_both, join_onto, join_all, type_rule, type_of}
use Rattle.og_typing.specs.declared.fault.WireFault.{WireFault}
use Rattle.og_typing.specs.declared.kind.Kind.{Kind}
use Rattle.og_typing.specs.Checked.{Checked, ◌>>=◌, ◌>>◌, rule}
use Rattle.og_typing.specs.Expressions.{kind}
use Rattle.og_inlining.specs.Steps.{each_of}
use Rattle.og_inlining.specs.Trees.{built, tree_goes}

-- Where the walk gives a kind, the tree is there, and its type goes as that.
abbrev pub Holds : Checked Kind → Option Term → Type 0
Holds walk o = (k : Kind) → walk ≡ Ok k → tree_goes k.ty o ≡ true

pub holds_bind : {A : Type 0} (first : Checked A) (second : A → Checked Kind) (o : Option Term)
    → ((a : A) → first ≡ Ok a → Holds (second a) o) → Holds (first >>= second) o
holds_bind (Ok a) second o h k is = h a refl k is
holds_bind (Err fault) second o h k is = cc

pub holds_rule : (b : Bool) (fault : WireFault) (next : Checked Kind) (o : Option Term)
    → (b ≡ true → Holds next o) → Holds (rule b fault >> next) o
holds_rule true fault next o h k is = h refl k is
holds_rule false fault next o h k is = cc

-- a walk gives one thing
pub one_answer : {A : Type 0} (walk : Checked A) (a b : A) → walk ≡ Ok a → walk ≡ Ok b → a ≡ b
one_answer walk a b p q = cc

pub holds_kind : (t : Ty) (deep : ℕ) (o : Option Term) → tree_goes t o ≡ true → Holds (Ok (kind t deep)) o
holds_kind t deep o goes k is =
    subst (λ u. tree_goes u o ≡ true) (ap (λ k. k.ty) (one_answer (Ok (kind t deep)) (kind t deep) k refl is)) goes

-- ---- types

pub weaker : (t w : Ty) (o : Option Ty) → goes_as t o ≡ true → fits t w ≡ true → goes_as w o ≡ true
weaker t w None goes fit = absurd (true≢false (sym goes))
weaker t w (Some u) goes fit = fits_along u t w goes fit

pub typed_goes : (b : Bool) (t : Ty) → b ≡ true → goes_as t (typed_if b t) ≡ true
typed_goes b t is = ap (λ b. goes_as t (typed_if b t)) is ∙ fits_itself t

pub goes_some : (t : Ty) (o : Option Ty) → goes_as t o ≡ true → is_some o ≡ true
goes_some t None goes = absurd (true≢false (sym goes))
goes_some t (Some u) goes = refl

pub join_goes : (t : Ty) (o p : Option Ty) → goes_as t o ≡ true → goes_as t p ≡ true → goes_as t (join_both o p) ≡ true
join_goes t None p first second = absurd (true≢false (sym first))
join_goes t (Some u) None first second = absurd (true≢false (sym second))
join_goes t (Some u) (Some v) first second = least (join u v) (join_least u v t first second)
  where
    least : (o : Option Ty) → IsSomeAnd o (λ l. fits l t ≡ true) → goes_as t o ≡ true
    least None h = absurd h
    least (Some l) h = h

join_onto_goes : (t : Ty) (o : Option Ty) (os : List (Option Ty)) → goes_as t o ≡ true → list_all (goes_as t) os ≡ true
    → goes_as t (join_onto o os) ≡ true
join_onto_goes t o [] first all = first
join_onto_goes t o (p ∷ os) first all =
    let both = and_parts (goes_as t p) (list_all (goes_as t) os) all in
    join_onto_goes t (join_both o p) os (join_goes t o p first both.0) both.1

-- Types that all go as one have a join that does.
pub join_all_goes : (t : Ty) (os : List (Option Ty)) → nat_lt 0 (length os) ≡ true → list_all (goes_as t) os ≡ true
    → goes_as t (join_all os) ≡ true
join_all_goes t [] some all = absurd (true≢false (sym some))
join_all_goes t (o ∷ os) some all =
    let both = and_parts (goes_as t o) (list_all (goes_as t) os) all in
    join_onto_goes t o os both.0 both.1

-- ---- trees

pub record Fitting (t : Ty) (o : Option Term) : Type 0 where
  pub tree : Term
  pub is : o ≡ Some tree
  pub goes : goes_as t (type_of tree) ≡ true

pub fitting_tree : (t : Ty) (o : Option Term) → tree_goes t o ≡ true → Fitting t o
fitting_tree t None goes = absurd (true≢false (sym goes))
fitting_tree t (Some e) goes = record { tree = e; is = refl; goes = goes }

pub built_some : (t : Ty) (n : NodeOf Term) → goes_as t (type_rule (node_with type_of n)) ≡ true → built n ≡ Some (term_of n)
unfolding built
built_some t n goes =
    ap (λ b. if b then Some (term_of n) else None)
    (goes_some t (type_of (term_of n)) (ap (goes_as t) (fold_of_node type_rule n) ∙ goes))

-- A form whose type goes has a tree.
pub built_goes : (t : Ty) (n : NodeOf Term) → goes_as t (type_rule (node_with type_of n)) ≡ true → tree_goes t (built n) ≡ true
built_goes t n goes =
    ap (tree_goes t) (built_some t n goes) ∙ (ap (goes_as t) (fold_of_node type_rule n) ∙ goes)

pub then_goes : {A : Type 0} (t : Ty) (o : Option A) (f : A → Option Term) (a : A) → o ≡ Some a → tree_goes t (f a) ≡ true
    → tree_goes t (option_and_then f o) ≡ true
then_goes t o f a is goes = ap (λ o. tree_goes t (option_and_then f o)) is ∙ goes

-- ---- lists

-- what the items give is there
abbrev pub Each : {X Y : Type 0} → (X → Option Y) → List X → List Y → Type 0
Each {X} {Y} item xs ys = (found : List Y) → each_of item found xs ≡ Some (found ++ ys)

pub each_nil : {X Y : Type 0} (item : X → Option Y) → Each item [] []
each_nil item found = ap Some (sym (append-nil found))

pub each_cons : {X Y : Type 0} (item : X → Option Y) (x : X) (xs : List X) (y : Y) (ys : List Y)
    → item x ≡ Some y → Each item xs ys → Each item (x ∷ xs) (y ∷ ys)
each_cons item x xs y ys is rest found =
    ap (option_and_then (λ y. each_of item (found ++ y ∷ []) xs)) is
    ∙ rest (found ++ y ∷ [])
    ∙ ap Some (append_assoc found (y ∷ []) ys)
