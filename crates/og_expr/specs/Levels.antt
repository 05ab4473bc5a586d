-- What a definition by recursion on expressions gives of an expression of each form.
use Rattle.std.proofs.Common.{◌≡◌, ◌∙◌, List, [], ◌∷◌, map, refl, ap}
use Rattle.og_expr.specs.declared.node.NodeOf.{NodeOf}
use Rattle.og_expr.specs.declared.node.NodeOf.TheVariants as nodes
use Rattle.og_expr.specs.declared.node.Addend.{Addend}
use Rattle.og_expr.specs.declared.node.Addend.TheVariants as addends
use Rattle.og_expr.specs.declared.node.Factor.{Factor}
use Rattle.og_expr.specs.declared.node.Factor.TheVariants as factors
use Rattle.og_expr.specs.declared.node.Choice.{Choice}
use Rattle.og_expr.specs.declared.node.Key.{Key}
use Rattle.og_expr.specs.declared.node.Term.{Term}
use Rattle.og_expr.specs.declared.node.Term.TheFolds.{fold-Term, fold-roll-Term, map-Term}
use Rattle.og_expr.specs.Terms.{term_of}

abbrev pub addend_with : {A B : Type 0} → (A → B) → Addend A → Addend B
addend_with f (addends.Plus a) = addends.Plus (f a)
addend_with f (addends.Minus a) = addends.Minus (f a)

abbrev pub factor_with : {A B : Type 0} → (A → B) → Factor A → Factor B
factor_with f (factors.Times a) = factors.Times (f a)
factor_with f (factors.Over d) = factors.Over d

abbrev pub choice_with : {A B : Type 0} → (A → B) → Choice A → Choice B
choice_with f c = record { cond = f c.cond; body = f c.body }

abbrev pub key_with : {A B : Type 0} → (A → B) → Key A → Key B
key_with f key = record { expr = f key.expr; ty = key.ty }

-- the form with something in the place of each part
abbrev pub node_with : {A B : Type 0} → (A → B) → NodeOf A → NodeOf B
node_with f (nodes.Literal n) = nodes.Literal n
node_with f (nodes.Flag flag) = nodes.Flag flag
node_with f (nodes.Case family cases index) = nodes.Case family cases index
node_with f (nodes.Var number t) = nodes.Var number t
node_with f (nodes.Or es) = nodes.Or (map f es)
node_with f (nodes.And es) = nodes.And (map f es)
node_with f (nodes.Not e) = nodes.Not (f e)
node_with f (nodes.Compare test a b) = nodes.Compare test (f a) (f b)
node_with f (nodes.Sum e more) = nodes.Sum (f e) (map (addend_with f) more)
node_with f (nodes.Product e more) = nodes.Product (f e) (map (factor_with f) more)
node_with f (nodes.Neg e) = nodes.Neg (f e)
node_with f (nodes.Field e k) = nodes.Field (f e) k
node_with f (nodes.Tuple es) = nodes.Tuple (map f es)
node_with f (nodes.If choices e) = nodes.If (map (choice_with f) choices) (f e)
node_with f (nodes.Table keys rows) = nodes.Table (map (key_with f) keys) (map f rows)
node_with f (nodes.Ratio x y z) = nodes.Ratio (f x) (f y) (f z)
node_with f (nodes.Min a b) = nodes.Min (f a) (f b)
node_with f (nodes.Max a b) = nodes.Max (f a) (f b)
node_with f (nodes.Clamp low high e) = nodes.Clamp low high (f e)

-- the lists of parts that a form has, of each kind
abbrev addends_of : {A : Type 0} → NodeOf A → List (Addend A)
addends_of (nodes.Sum e more) = more
addends_of _ = []

abbrev factors_of : {A : Type 0} → NodeOf A → List (Factor A)
factors_of (nodes.Product e more) = more
factors_of _ = []

abbrev choices_of : {A : Type 0} → NodeOf A → List (Choice A)
choices_of (nodes.If choices e) = choices
choices_of _ = []

abbrev keys_of : {A : Type 0} → NodeOf A → List (Key A)
keys_of (nodes.Table keys rows) = keys
keys_of _ = []

addends_level : {A B : Type 0} (f : A → B) (e : A) (more : List (Addend A))
    → addends_of (map-Term A B f (record { node = nodes.Sum e more })).node ≡ map (addend_with f) more
addends_level f e [] = refl
addends_level f e (addends.Plus a ∷ more) = ap (λ l. addends.Plus (f a) ∷ l) (addends_level f e more)
addends_level f e (addends.Minus a ∷ more) = ap (λ l. addends.Minus (f a) ∷ l) (addends_level f e more)

factors_level : {A B : Type 0} (f : A → B) (e : A) (more : List (Factor A))
    → factors_of (map-Term A B f (record { node = nodes.Product e more })).node ≡ map (factor_with f) more
factors_level f e [] = refl
factors_level f e (factors.Times a ∷ more) = ap (λ l. factors.Times (f a) ∷ l) (factors_level f e more)
factors_level f e (factors.Over d ∷ more) = ap (λ l. factors.Over d ∷ l) (factors_level f e more)

choices_level : {A B : Type 0} (f : A → B) (e : A) (choices : List (Choice A))
    → choices_of (map-Term A B f (record { node = nodes.If choices e })).node ≡ map (choice_with f) choices
choices_level f e [] = refl
choices_level f e (c ∷ choices) = ap (λ l. choice_with f c ∷ l) (choices_level f e choices)

keys_level : {A B : Type 0} (f : A → B) (rows : List A) (keys : List (Key A))
    → keys_of (map-Term A B f (record { node = nodes.Table keys rows })).node ≡ map (key_with f) keys
keys_level f rows [] = refl
keys_level f rows (key ∷ keys) = ap (λ l. key_with f key ∷ l) (keys_level f rows keys)

pub level : {A B : Type 0} (f : A → B) (n : NodeOf A) → (map-Term A B f (record { node = n })).node ≡ node_with f n
level f (nodes.Literal n) = refl
level f (nodes.Flag flag) = refl
level f (nodes.Case family cases index) = refl
level f (nodes.Var number t) = refl
level f (nodes.Or es) = refl
level f (nodes.And es) = refl
level f (nodes.Not e) = refl
level f (nodes.Compare test a b) = refl
level f (nodes.Sum e more) = ap (nodes.Sum (f e)) (addends_level f e more)
level f (nodes.Product e more) = ap (nodes.Product (f e)) (factors_level f e more)
level f (nodes.Neg e) = refl
level f (nodes.Field e k) = refl
level f (nodes.Tuple es) = refl
level f (nodes.If choices e) = ap (λ cs. nodes.If cs (f e)) (choices_level f e choices)
level f (nodes.Table keys rows) = ap (λ ks. nodes.Table ks (map f rows)) (keys_level f rows keys)
level f (nodes.Ratio x y z) = refl
level f (nodes.Min a b) = refl
level f (nodes.Max a b) = refl
level f (nodes.Clamp low high e) = refl

pub fold_of_node : {A : Type 0} (step : NodeOf A → A) (n : NodeOf Term)
    → fold-Term A (λ l. step l.node) (term_of n) ≡ step (node_with (fold-Term A (λ l. step l.node)) n)
fold_of_node {A} step n =
    fold-roll-Term A (λ l. step l.node) (record { node = n }) ∙ ap step (level (fold-Term A (λ l. step l.node)) n)
