-- Induction over expressions: a fact holds of each if it holds of each form under the assumption that it
-- holds of the form's parts.
use Rattle.std.proofs.Common.{◌≡◌, List, [], ◌∷◌, map, refl, ap, sym, subst}
use Rattle.std.specs.List.{AllByRecursion}
use Rattle.og_expr.specs.declared.node.NodeOf.{NodeOf}
use Rattle.og_expr.specs.declared.node.NodeOf.TheVariants as nodes
use Rattle.og_expr.specs.declared.node.Addend.{Addend}
use Rattle.og_expr.specs.declared.node.Addend.TheVariants as addends
use Rattle.og_expr.specs.declared.node.Factor.{Factor}
use Rattle.og_expr.specs.declared.node.Factor.TheVariants as factors
use Rattle.og_expr.specs.declared.node.Choice.{Choice}
use Rattle.og_expr.specs.declared.node.Key.{Key}
use Rattle.og_expr.specs.declared.node.Term.{Term}
use Rattle.og_expr.specs.declared.node.Term.TheOpen.{Term-F}
use Rattle.og_expr.specs.declared.node.Term.TheViews.{roll-Term}
use Rattle.og_expr.specs.declared.node.Term.TheFolds.{ind-Term, map-Term}
use Rattle.og_expr.specs.Terms.{term_of}
use Rattle.og_expr.specs.Levels.{addend_with, factor_with, choice_with, key_with, node_with, level}

-- the fact, of a part of each kind

abbrev pub OfAddend : {A : Type 0} → (A → Type 0) → Addend A → Type 0
OfAddend P (addends.Plus a) = P a
OfAddend P (addends.Minus a) = P a

abbrev pub OfFactor : {A : Type 0} → (A → Type 0) → Factor A → Type 0
OfFactor P (factors.Times a) = P a
OfFactor P (factors.Over d) = Unit {0}

abbrev pub OfChoice : {A : Type 0} → (A → Type 0) → Choice A → Type 0
OfChoice P c = P c.cond × P c.body

abbrev pub OfKey : {A : Type 0} → (A → Type 0) → Key A → Type 0
OfKey P key = P key.expr

-- the fact holds of each part
abbrev pub PartsOf : {A : Type 0} → (A → Type 0) → NodeOf A → Type 0
PartsOf P (nodes.Literal n) = Unit {0}
PartsOf P (nodes.Flag flag) = Unit {0}
PartsOf P (nodes.Case family cases index) = Unit {0}
PartsOf P (nodes.Var number t) = Unit {0}
PartsOf P (nodes.Or es) = AllByRecursion P es
PartsOf P (nodes.And es) = AllByRecursion P es
PartsOf P (nodes.Not e) = P e
PartsOf P (nodes.Compare test a b) = P a × P b
PartsOf P (nodes.Sum e more) = P e × AllByRecursion (OfAddend P) more
PartsOf P (nodes.Product e more) = P e × AllByRecursion (OfFactor P) more
PartsOf P (nodes.Neg e) = P e
PartsOf P (nodes.Field e k) = P e
PartsOf P (nodes.Tuple es) = AllByRecursion P es
PartsOf P (nodes.If choices e) = AllByRecursion (OfChoice P) choices × P e
PartsOf P (nodes.Table keys rows) = AllByRecursion (OfKey P) keys × AllByRecursion P rows
PartsOf P (nodes.Ratio x y z) = P x × P y × P z
PartsOf P (nodes.Min a b) = P a × P b
PartsOf P (nodes.Max a b) = P a × P b
PartsOf P (nodes.Clamp low high e) = P e

-- ---- induction

-- each of the parts beside its proof

parts : {A : Type 0} (P : A → Type 0) (es : List ((e : A) × P e)) → AllByRecursion P (map (λ e. e.0) es)
parts P [] = tt
parts P (e ∷ es) = (e.1, parts P es)

addend_parts : {A : Type 0} (P : A → Type 0) (more : List (Addend ((e : A) × P e)))
    → AllByRecursion (OfAddend P) (map (addend_with (λ e. e.0)) more)
addend_parts P [] = tt
addend_parts P (addends.Plus e ∷ more) = (e.1, addend_parts P more)
addend_parts P (addends.Minus e ∷ more) = (e.1, addend_parts P more)

factor_parts : {A : Type 0} (P : A → Type 0) (more : List (Factor ((e : A) × P e)))
    → AllByRecursion (OfFactor P) (map (factor_with (λ e. e.0)) more)
factor_parts P [] = tt
factor_parts P (factors.Times e ∷ more) = (e.1, factor_parts P more)
factor_parts P (factors.Over d ∷ more) = (tt, factor_parts P more)

choice_parts : {A : Type 0} (P : A → Type 0) (choices : List (Choice ((e : A) × P e)))
    → AllByRecursion (OfChoice P) (map (choice_with (λ e. e.0)) choices)
choice_parts P [] = tt
choice_parts P (c ∷ choices) = ((c.cond.1, c.body.1), choice_parts P choices)

key_parts : {A : Type 0} (P : A → Type 0) (keys : List (Key ((e : A) × P e)))
    → AllByRecursion (OfKey P) (map (key_with (λ e. e.0)) keys)
key_parts P [] = tt
key_parts P (key ∷ keys) = (key.expr.1, key_parts P keys)

parts_of : {A : Type 0} (P : A → Type 0) (n : NodeOf ((e : A) × P e)) → PartsOf P (node_with (λ e. e.0) n)
parts_of P (nodes.Literal n) = tt
parts_of P (nodes.Flag flag) = tt
parts_of P (nodes.Case family cases index) = tt
parts_of P (nodes.Var number t) = tt
parts_of P (nodes.Or es) = parts P es
parts_of P (nodes.And es) = parts P es
parts_of P (nodes.Not e) = e.1
parts_of P (nodes.Compare test a b) = (a.1, b.1)
parts_of P (nodes.Sum e more) = (e.1, addend_parts P more)
parts_of P (nodes.Product e more) = (e.1, factor_parts P more)
parts_of P (nodes.Neg e) = e.1
parts_of P (nodes.Field e k) = e.1
parts_of P (nodes.Tuple es) = parts P es
parts_of P (nodes.If choices e) = (choice_parts P choices, e.1)
parts_of P (nodes.Table keys rows) = (key_parts P keys, parts P rows)
parts_of P (nodes.Ratio x y z) = (x.1, y.1, z.1)
parts_of P (nodes.Min a b) = (a.1, b.1)
parts_of P (nodes.Max a b) = (a.1, b.1)
parts_of P (nodes.Clamp low high e) = e.1

pub term_induction : (P : Term → Type 0) → ((n : NodeOf Term) → PartsOf P n → P (term_of n)) → (e : Term) → P e
term_induction P at_form = ind-Term P (λ x y is. subst (λ z. P (roll-Term z)) is (step y))
  where
    step : (y : Term-F ((e : Term) × P e)) → P (roll-Term (map-Term ((e : Term) × P e) Term (λ e. e.0) y))
    step y = subst (λ n. P (term_of n)) (sym (level (λ e. e.0) y.node)) (at_form (node_with (λ e. e.0) y.node) (parts_of P y.node))

-- ---- what is put in the place of each part

-- Two maps that agree on the parts give the same form.

agree_parts : {A B : Type 0} (f g : A → B) (es : List A) → AllByRecursion (λ e. f e ≡ g e) es → map f es ≡ map g es
agree_parts f g [] same = refl
agree_parts f g (e ∷ es) same = λ i. same.0 i ∷ agree_parts f g es same.1 i

agree_addends : {A B : Type 0} (f g : A → B) (more : List (Addend A)) → AllByRecursion (OfAddend (λ e. f e ≡ g e)) more
    → map (addend_with f) more ≡ map (addend_with g) more
agree_addends f g [] same = refl
agree_addends f g (addends.Plus a ∷ more) same = λ i. addends.Plus (same.0 i) ∷ agree_addends f g more same.1 i
agree_addends f g (addends.Minus a ∷ more) same = λ i. addends.Minus (same.0 i) ∷ agree_addends f g more same.1 i

agree_factors : {A B : Type 0} (f g : A → B) (more : List (Factor A)) → AllByRecursion (OfFactor (λ e. f e ≡ g e)) more
    → map (factor_with f) more ≡ map (factor_with g) more
agree_factors f g [] same = refl
agree_factors f g (factors.Times a ∷ more) same = λ i. factors.Times (same.0 i) ∷ agree_factors f g more same.1 i
agree_factors f g (factors.Over d ∷ more) same = λ i. factors.Over d ∷ agree_factors f g more same.1 i

agree_choices : {A B : Type 0} (f g : A → B) (choices : List (Choice A)) → AllByRecursion (OfChoice (λ e. f e ≡ g e)) choices
    → map (choice_with f) choices ≡ map (choice_with g) choices
agree_choices f g [] same = refl
agree_choices f g (c ∷ choices) same =
    λ i. record { cond = same.0.0 i; body = same.0.1 i } ∷ agree_choices f g choices same.1 i

agree_keys : {A B : Type 0} (f g : A → B) (keys : List (Key A)) → AllByRecursion (OfKey (λ e. f e ≡ g e)) keys
    → map (key_with f) keys ≡ map (key_with g) keys
agree_keys f g [] same = refl
agree_keys f g (key ∷ keys) same = λ i. record { expr = same.0 i; ty = key.ty } ∷ agree_keys f g keys same.1 i

pub agree : {A B : Type 0} (f g : A → B) (n : NodeOf A) → PartsOf (λ e. f e ≡ g e) n → node_with f n ≡ node_with g n
agree f g (nodes.Literal n) same = refl
agree f g (nodes.Flag flag) same = refl
agree f g (nodes.Case family cases index) same = refl
agree f g (nodes.Var number t) same = refl
agree f g (nodes.Or es) same = λ i. nodes.Or (agree_parts f g es same i)
agree f g (nodes.And es) same = λ i. nodes.And (agree_parts f g es same i)
agree f g (nodes.Not e) same = λ i. nodes.Not (same i)
agree f g (nodes.Compare test a b) same = λ i. nodes.Compare test (same.0 i) (same.1 i)
agree f g (nodes.Sum e more) same = λ i. nodes.Sum (same.0 i) (agree_addends f g more same.1 i)
agree f g (nodes.Product e more) same = λ i. nodes.Product (same.0 i) (agree_factors f g more same.1 i)
agree f g (nodes.Neg e) same = λ i. nodes.Neg (same i)
agree f g (nodes.Field e k) same = λ i. nodes.Field (same i) k
agree f g (nodes.Tuple es) same = λ i. nodes.Tuple (agree_parts f g es same i)
agree f g (nodes.If choices e) same = λ i. nodes.If (agree_choices f g choices same.0 i) (same.1 i)
agree f g (nodes.Table keys rows) same = λ i. nodes.Table (agree_keys f g keys same.0 i) (agree_parts f g rows same.1 i)
agree f g (nodes.Ratio x y z) same = λ i. nodes.Ratio (same.0 i) (same.1 i) (same.2 i)
agree f g (nodes.Min a b) same = λ i. nodes.Min (same.0 i) (same.1 i)
agree f g (nodes.Max a b) same = λ i. nodes.Max (same.0 i) (same.1 i)
agree f g (nodes.Clamp low high e) same = λ i. nodes.Clamp low high (same i)

-- One map after another is one map.

twice_parts : {A B C : Type 0} (g : B → C) (f : A → B) (es : List A) → map g (map f es) ≡ map (λ e. g (f e)) es
twice_parts g f [] = refl
twice_parts g f (e ∷ es) = λ i. g (f e) ∷ twice_parts g f es i

twice_addends : {A B C : Type 0} (g : B → C) (f : A → B) (more : List (Addend A))
    → map (addend_with g) (map (addend_with f) more) ≡ map (addend_with (λ e. g (f e))) more
twice_addends g f [] = refl
twice_addends g f (addends.Plus a ∷ more) = λ i. addends.Plus (g (f a)) ∷ twice_addends g f more i
twice_addends g f (addends.Minus a ∷ more) = λ i. addends.Minus (g (f a)) ∷ twice_addends g f more i

twice_factors : {A B C : Type 0} (g : B → C) (f : A → B) (more : List (Factor A))
    → map (factor_with g) (map (factor_with f) more) ≡ map (factor_with (λ e. g (f e))) more
twice_factors g f [] = refl
twice_factors g f (factors.Times a ∷ more) = λ i. factors.Times (g (f a)) ∷ twice_factors g f more i
twice_factors g f (factors.Over d ∷ more) = λ i. factors.Over d ∷ twice_factors g f more i

twice_choices : {A B C : Type 0} (g : B → C) (f : A → B) (choices : List (Choice A))
    → map (choice_with g) (map (choice_with f) choices) ≡ map (choice_with (λ e. g (f e))) choices
twice_choices g f [] = refl
twice_choices g f (c ∷ choices) = λ i. choice_with (λ e. g (f e)) c ∷ twice_choices g f choices i

twice_keys : {A B C : Type 0} (g : B → C) (f : A → B) (keys : List (Key A))
    → map (key_with g) (map (key_with f) keys) ≡ map (key_with (λ e. g (f e))) keys
twice_keys g f [] = refl
twice_keys g f (key ∷ keys) = λ i. key_with (λ e. g (f e)) key ∷ twice_keys g f keys i

pub twice : {A B C : Type 0} (g : B → C) (f : A → B) (n : NodeOf A) → node_with g (node_with f n) ≡ node_with (λ e. g (f e)) n
twice g f (nodes.Or es) = ap nodes.Or (twice_parts g f es)
twice g f (nodes.And es) = ap nodes.And (twice_parts g f es)
twice g f (nodes.Sum e more) = ap (nodes.Sum (g (f e))) (twice_addends g f more)
twice g f (nodes.Product e more) = ap (nodes.Product (g (f e))) (twice_factors g f more)
twice g f (nodes.Tuple es) = ap nodes.Tuple (twice_parts g f es)
twice g f (nodes.If choices e) = ap (λ cs. nodes.If cs (g (f e))) (twice_choices g f choices)
twice g f (nodes.Table keys rows) = λ i. nodes.Table (twice_keys g f keys i) (twice_parts g f rows i)
twice g f n = refl
