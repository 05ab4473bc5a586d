-- What is made of an expression depends on the variables that occur in it, and on no others.
use Rattle.std.proofs.Common.{◌≡◌, ◌∙◌, ℕ, zero, suc, arith, List, [], ◌∷◌, ◌++◌, map, refl, ap, sym, subst}
use Rattle.std.specs.Prelude.{Contains}
use Rattle.std.specs.List.{AllByRecursion}
use Rattle.std.proofs.lemmas.List.Elements.{Contains-append_left, Contains-append_right, Contains-push}
use Rattle.og_types.specs.declared.ty.Ty.{Ty}
use Rattle.og_expr.specs.declared.node.NodeOf.{NodeOf}
use Rattle.og_expr.specs.declared.node.NodeOf.TheVariants as nodes
use Rattle.og_expr.specs.declared.node.Addend.{Addend}
use Rattle.og_expr.specs.declared.node.Addend.TheVariants as addends
use Rattle.og_expr.specs.declared.node.Factor.{Factor}
use Rattle.og_expr.specs.declared.node.Factor.TheVariants as factors
use Rattle.og_expr.specs.declared.node.Choice.{Choice}
use Rattle.og_expr.specs.declared.node.Key.{Key}
use Rattle.og_expr.specs.declared.node.Term.{Term}
use Rattle.og_expr.specs.Terms.{term_of}
use Rattle.og_expr.specs.Levels.{addend_with, factor_with, choice_with, key_with, node_with, fold_of_node}
use Rattle.og_expr.specs.Values.{Env, value_in, value_rule}
use Rattle.og_expr.specs.Parts.{all_together, addend_part, factor_part, choice_parts, together}
use Rattle.og_expr.specs.Variables.{Variable, at_variables, variables_of, numbers_of}
use Rattle.og_expr.specs.Replaced.{replaced}
use Rattle.og_expr.proofs.Induction.{OfAddend, OfFactor, OfChoice, OfKey, PartsOf, term_induction, agree}
use Rattle.og_expr.proofs.Replacing.{by_rule, same_rule, value_rules}

Contains-map : {X Y : Type 0} (f : X → Y) (xs : List X) (x : X) → Contains xs x → Contains (map f xs) (f x)
Contains-map f [] x c = absurd (omega (arith, c.1))
Contains-map f (y ∷ xs) x (zero, l, at) = (zero, omega arith, ap f at)
Contains-map f (y ∷ xs) x (suc k, l, at) = let m = Contains-map f xs x (k, omega arith, at) in (suc m.0, omega (arith, m.1), m.2)

abbrev joined : {V : Type 0} → List V → List V → List V
joined vs ws = vs ++ ws

-- the fact holds of each
abbrev Each : {V : Type 0} → (V → Type 0) → List V → Type 0
Each {V} Q vs = (v : V) → Contains vs v → Q v

left : {V : Type 0} (Q : V → Type 0) (vs ws : List V) → Each Q (vs ++ ws) → Each Q vs
left Q vs ws each v there = each v (Contains-append_left vs ws v there)

right : {V : Type 0} (Q : V → Type 0) (vs ws : List V) → Each Q (vs ++ ws) → Each Q ws
right Q vs ws each v there = each v (Contains-append_right vs ws v there)

-- What follows for a part from a fact of the part's variables follows for each part from the fact of the form's variables.

abbrev Follows : {A V : Type 0} → (V → Type 0) → (A → Type 0) → (A → List V) → A → Type 0
Follows Q R f e = Each Q (f e) → R e

each_part : {A V : Type 0} (Q : V → Type 0) (R : A → Type 0) (f : A → List V) (es : List A)
    → AllByRecursion (Follows Q R f) es → Each Q (all_together [] joined (λ vs. vs) (map f es)) → AllByRecursion R es
each_part Q R f [] follows each = tt
each_part Q R f (e ∷ es) follows each =
    (follows.0 (left Q (f e) (all_together [] joined (λ vs. vs) (map f es)) each), each_part Q R f es follows.1 (right Q (f e) (all_together [] joined (λ vs. vs) (map f es)) each))

each_addend : {A V : Type 0} (Q : V → Type 0) (R : A → Type 0) (f : A → List V) (more : List (Addend A))
    → AllByRecursion (OfAddend (Follows Q R f)) more → Each Q (all_together [] joined addend_part (map (addend_with f) more))
    → AllByRecursion (OfAddend R) more
each_addend Q R f [] follows each = tt
each_addend Q R f (addends.Plus a ∷ more) follows each =
    let rest = all_together [] joined addend_part (map (addend_with f) more) in
    (follows.0 (left Q (f a) rest each), each_addend Q R f more follows.1 (right Q (f a) rest each))
each_addend Q R f (addends.Minus a ∷ more) follows each =
    let rest = all_together [] joined addend_part (map (addend_with f) more) in
    (follows.0 (left Q (f a) rest each), each_addend Q R f more follows.1 (right Q (f a) rest each))

each_factor : {A V : Type 0} (Q : V → Type 0) (R : A → Type 0) (f : A → List V) (more : List (Factor A))
    → AllByRecursion (OfFactor (Follows Q R f)) more → Each Q (all_together [] joined (factor_part []) (map (factor_with f) more))
    → AllByRecursion (OfFactor R) more
each_factor Q R f [] follows each = tt
each_factor Q R f (factors.Times a ∷ more) follows each =
    let rest = all_together [] joined (factor_part []) (map (factor_with f) more) in
    (follows.0 (left Q (f a) rest each), each_factor Q R f more follows.1 (right Q (f a) rest each))
each_factor Q R f (factors.Over d ∷ more) follows each = (tt, each_factor Q R f more follows.1 each)

each_choice : {A V : Type 0} (Q : V → Type 0) (R : A → Type 0) (f : A → List V) (choices : List (Choice A))
    → AllByRecursion (OfChoice (Follows Q R f)) choices
    → Each Q (all_together [] joined (choice_parts joined) (map (choice_with f) choices)) → AllByRecursion (OfChoice R) choices
each_choice Q R f [] follows each = tt
each_choice Q R f (c ∷ choices) follows each =
    let here = f c.cond ++ f c.body in
    let rest = all_together [] joined (choice_parts joined) (map (choice_with f) choices) in
    let first = left Q here rest each in (
      (follows.0.0 (left Q (f c.cond) (f c.body) first), follows.0.1 (right Q (f c.cond) (f c.body) first)),
      each_choice Q R f choices follows.1 (right Q here rest each),
    )

each_key : {A V : Type 0} (Q : V → Type 0) (R : A → Type 0) (f : A → List V) (keys : List (Key A))
    → AllByRecursion (OfKey (Follows Q R f)) keys → Each Q (all_together [] joined (λ key. key.expr) (map (key_with f) keys))
    → AllByRecursion (OfKey R) keys
each_key Q R f [] follows each = tt
each_key Q R f (key ∷ keys) follows each =
    let rest = all_together [] joined (λ key. key.expr) (map (key_with f) keys) in
    (follows.0 (left Q (f key.expr) rest each), each_key Q R f keys follows.1 (right Q (f key.expr) rest each))

each_of_form : {A V : Type 0} (Q : V → Type 0) (R : A → Type 0) (f : A → List V) (of_variable : ℕ → Ty → List V) (n : NodeOf A)
    → PartsOf (Follows Q R f) n → Each Q (at_variables of_variable (together [] joined) (node_with f n)) → PartsOf R n
each_of_form Q R f of_variable (nodes.Literal n) follows each = tt
each_of_form Q R f of_variable (nodes.Flag flag) follows each = tt
each_of_form Q R f of_variable (nodes.Case family cases index) follows each = tt
each_of_form Q R f of_variable (nodes.Var number t) follows each = tt
each_of_form Q R f of_variable (nodes.Or es) follows each = each_part Q R f es follows each
each_of_form Q R f of_variable (nodes.And es) follows each = each_part Q R f es follows each
each_of_form Q R f of_variable (nodes.Not e) follows each = follows each
each_of_form Q R f of_variable (nodes.Compare test a b) follows each =
    (follows.0 (left Q (f a) (f b) each), follows.1 (right Q (f a) (f b) each))
each_of_form Q R f of_variable (nodes.Sum e more) follows each =
    let rest = all_together [] joined addend_part (map (addend_with f) more) in
    (follows.0 (left Q (f e) rest each), each_addend Q R f more follows.1 (right Q (f e) rest each))
each_of_form Q R f of_variable (nodes.Product e more) follows each =
    let rest = all_together [] joined (factor_part []) (map (factor_with f) more) in
    (follows.0 (left Q (f e) rest each), each_factor Q R f more follows.1 (right Q (f e) rest each))
each_of_form Q R f of_variable (nodes.Neg e) follows each = follows each
each_of_form Q R f of_variable (nodes.Field e k) follows each = follows each
each_of_form Q R f of_variable (nodes.Tuple es) follows each = each_part Q R f es follows each
each_of_form Q R f of_variable (nodes.If choices e) follows each =
    let rest = all_together [] joined (choice_parts joined) (map (choice_with f) choices) in
    (each_choice Q R f choices follows.0 (left Q rest (f e) each), follows.1 (right Q rest (f e) each))
each_of_form Q R f of_variable (nodes.Table keys rows) follows each =
    let first = all_together [] joined (λ key. key.expr) (map (key_with f) keys) in
    let rest = all_together [] joined (λ vs. vs) (map f rows) in
    (each_key Q R f keys follows.0 (left Q first rest each), each_part Q R f rows follows.1 (right Q first rest each))
each_of_form Q R f of_variable (nodes.Ratio x y z) follows each =
    let rest = right Q (f x) (f y ++ f z) each in
    (follows.0 (left Q (f x) (f y ++ f z) each), follows.1 (left Q (f y) (f z) rest), follows.2 (right Q (f y) (f z) rest))
each_of_form Q R f of_variable (nodes.Min a b) follows each =
    (follows.0 (left Q (f a) (f b) each), follows.1 (right Q (f a) (f b) each))
each_of_form Q R f of_variable (nodes.Max a b) follows each =
    (follows.0 (left Q (f a) (f b) each), follows.1 (right Q (f a) (f b) each))
each_of_form Q R f of_variable (nodes.Clamp low high e) follows each = follows each

-- ---- rules that agree on the variables that occur

abbrev itself : ℕ → Ty → List Variable
itself number t = (number, t) ∷ []

at_form : {A : Type 0} (rule : NodeOf A → A) (of_variable other : ℕ → Ty → A) (n : NodeOf Term)
    → Each (λ v. of_variable v.0 v.1 ≡ other v.0 v.1) (at_variables itself (together [] joined) (node_with variables_of n))
    → at_variables of_variable rule (node_with (by_rule (at_variables of_variable rule)) n)
    ≡ at_variables other rule (node_with (by_rule (at_variables of_variable rule)) n)
at_form rule of_variable other (nodes.Var number t) each = each (number, t) (Contains-push [] (number, t))
at_form rule of_variable other n each = refl

pub local : {A : Type 0} (rule : NodeOf A → A) (of_variable other : ℕ → Ty → A) (e : Term)
    → ((v : Variable) → Contains (variables_of e) v → of_variable v.0 v.1 ≡ other v.0 v.1)
    → by_rule (at_variables of_variable rule) e ≡ by_rule (at_variables other rule) e
local {A} rule of_variable other = term_induction
    (λ e. ((v : Variable) → Contains (variables_of e) v → of_variable v.0 v.1 ≡ other v.0 v.1)
    → by_rule (at_variables of_variable rule) e ≡ by_rule (at_variables other rule) e)
    (λ n follows each.
    let one : NodeOf A → A = at_variables of_variable rule in
    let two : NodeOf A → A = at_variables other rule in
    let here : Each (λ v. of_variable v.0 v.1 ≡ other v.0 v.1) (at_variables itself (together [] joined) (node_with variables_of n)) =
    subst (Each (λ v. of_variable v.0 v.1 ≡ other v.0 v.1)) (fold_of_node (at_variables itself (together [] joined)) n) each in
    let same = each_of_form (λ v. of_variable v.0 v.1 ≡ other v.0 v.1) (λ e. by_rule one e ≡ by_rule two e) variables_of itself n follows here in
    fold_of_node one n ∙ at_form rule of_variable other n here
    ∙ ap two (agree (by_rule one) (by_rule two) n same) ∙ sym (fold_of_node two n))

pub value_local : (env other : Env) (e : Term) → ((number : ℕ) → Contains (numbers_of e) number → env number ≡ other number)
    → value_in env e ≡ value_in other e
value_local env other e same =
    sym (same_rule (at_variables (λ number t. env number) (value_rule env)) (value_rule env) (value_rules env env) e)
    ∙ local (value_rule env) (λ number t. env number) (λ number t. other number) e
    (λ v there. same v.0 (Contains-map (λ w. w.0) (variables_of e) v there))
    ∙ same_rule (at_variables (λ number t. other number) (value_rule env)) (value_rule other) (value_rules other env) e

pub replaced_local : (trees others : ℕ → Ty → Term) (e : Term)
    → ((v : Variable) → Contains (variables_of e) v → trees v.0 v.1 ≡ others v.0 v.1)
    → replaced trees e ≡ replaced others e
replaced_local trees others = local term_of trees others
