-- What follows for each part of a form from a test that all its variables pass.
use Rattle.std.proofs.Common.{◌≡◌, ℕ, Bool, true, List, [], ◌∷◌, map}
use Rattle.std.specs.Prelude.{◌&&◌}
use Rattle.std.specs.List.{AllByRecursion}
use Rattle.std.proofs.lemmas.Bool.{and_parts}
use Rattle.og_types.specs.declared.ty.Ty.{Ty}
use Rattle.og_expr.specs.declared.node.NodeOf.{NodeOf}
use Rattle.og_expr.specs.declared.node.NodeOf.TheVariants as nodes
use Rattle.og_expr.specs.declared.node.Addend.{Addend}
use Rattle.og_expr.specs.declared.node.Addend.TheVariants as addends
use Rattle.og_expr.specs.declared.node.Factor.{Factor}
use Rattle.og_expr.specs.declared.node.Factor.TheVariants as factors
use Rattle.og_expr.specs.declared.node.Choice.{Choice}
use Rattle.og_expr.specs.declared.node.Key.{Key}
use Rattle.og_expr.specs.Levels.{addend_with, factor_with, choice_with, key_with, node_with}
use Rattle.og_expr.specs.Parts.{all_together, addend_part, factor_part, choice_parts, together}
use Rattle.og_expr.specs.Variables.{at_variables, and_also}
use Rattle.og_expr.proofs.Induction.{OfAddend, OfFactor, OfChoice, OfKey, PartsOf}

-- what follows for a part where the test passes
abbrev pub Where : {A : Type 0} → (A → Bool) → (A → Type 0) → A → Type 0
Where h R e = h e ≡ true → R e

where_parts : {A : Type 0} (h : A → Bool) (R : A → Type 0) (es : List A) → AllByRecursion (Where h R) es
    → all_together true and_also (λ b. b) (map h es) ≡ true → AllByRecursion R es
where_parts h R [] follows is = tt
where_parts h R (e ∷ es) follows is =
    let both = and_parts (h e) (all_together true and_also (λ b. b) (map h es)) is in
    (follows.0 both.0, where_parts h R es follows.1 both.1)

where_addends : {A : Type 0} (h : A → Bool) (R : A → Type 0) (more : List (Addend A))
    → AllByRecursion (OfAddend (Where h R)) more
    → all_together true and_also addend_part (map (addend_with h) more) ≡ true → AllByRecursion (OfAddend R) more
where_addends h R [] follows is = tt
where_addends h R (addends.Plus e ∷ more) follows is =
    let both = and_parts (h e) (all_together true and_also addend_part (map (addend_with h) more)) is in
    (follows.0 both.0, where_addends h R more follows.1 both.1)
where_addends h R (addends.Minus e ∷ more) follows is =
    let both = and_parts (h e) (all_together true and_also addend_part (map (addend_with h) more)) is in
    (follows.0 both.0, where_addends h R more follows.1 both.1)

where_factors : {A : Type 0} (h : A → Bool) (R : A → Type 0) (more : List (Factor A))
    → AllByRecursion (OfFactor (Where h R)) more
    → all_together true and_also (factor_part true) (map (factor_with h) more) ≡ true → AllByRecursion (OfFactor R) more
where_factors h R [] follows is = tt
where_factors h R (factors.Times e ∷ more) follows is =
    let both = and_parts (h e) (all_together true and_also (factor_part true) (map (factor_with h) more)) is in
    (follows.0 both.0, where_factors h R more follows.1 both.1)
where_factors h R (factors.Over d ∷ more) follows is = (tt, where_factors h R more follows.1 is)

where_choices : {A : Type 0} (h : A → Bool) (R : A → Type 0) (choices : List (Choice A))
    → AllByRecursion (OfChoice (Where h R)) choices
    → all_together true and_also (choice_parts and_also) (map (choice_with h) choices) ≡ true
    → AllByRecursion (OfChoice R) choices
where_choices h R [] follows is = tt
where_choices h R (c ∷ choices) follows is =
    let rest = all_together true and_also (choice_parts and_also) (map (choice_with h) choices) in
    let both = and_parts (h c.cond && h c.body) rest is in
    let here = and_parts (h c.cond) (h c.body) both.0 in
    ((follows.0.0 here.0, follows.0.1 here.1), where_choices h R choices follows.1 both.1)

where_keys : {A : Type 0} (h : A → Bool) (R : A → Type 0) (keys : List (Key A))
    → AllByRecursion (OfKey (Where h R)) keys
    → all_together true and_also (λ key. key.expr) (map (key_with h) keys) ≡ true → AllByRecursion (OfKey R) keys
where_keys h R [] follows is = tt
where_keys h R (key ∷ keys) follows is =
    let both = and_parts (h key.expr) (all_together true and_also (λ key. key.expr) (map (key_with h) keys)) is in
    (follows.0 both.0, where_keys h R keys follows.1 both.1)

pub where_of_form : {A : Type 0} (h : A → Bool) (R : A → Type 0) (test : ℕ → Ty → Bool) (n : NodeOf A)
    → PartsOf (Where h R) n → at_variables test (together true and_also) (node_with h n) ≡ true → PartsOf R n
where_of_form h R test (nodes.Literal n) follows is = tt
where_of_form h R test (nodes.Flag flag) follows is = tt
where_of_form h R test (nodes.Case family cases index) follows is = tt
where_of_form h R test (nodes.Var number t) follows is = tt
where_of_form h R test (nodes.Or es) follows is = where_parts h R es follows is
where_of_form h R test (nodes.And es) follows is = where_parts h R es follows is
where_of_form h R test (nodes.Not e) follows is = follows is
where_of_form h R test (nodes.Compare test' a b) follows is =
    let both = and_parts (h a) (h b) is in (follows.0 both.0, follows.1 both.1)
where_of_form h R test (nodes.Sum e more) follows is =
    let both = and_parts (h e) (all_together true and_also addend_part (map (addend_with h) more)) is in
    (follows.0 both.0, where_addends h R more follows.1 both.1)
where_of_form h R test (nodes.Product e more) follows is =
    let both = and_parts (h e) (all_together true and_also (factor_part true) (map (factor_with h) more)) is in
    (follows.0 both.0, where_factors h R more follows.1 both.1)
where_of_form h R test (nodes.Neg e) follows is = follows is
where_of_form h R test (nodes.Field e k) follows is = follows is
where_of_form h R test (nodes.Tuple es) follows is = where_parts h R es follows is
where_of_form h R test (nodes.If choices e) follows is =
    let both = and_parts (all_together true and_also (choice_parts and_also) (map (choice_with h) choices)) (h e) is in
    (where_choices h R choices follows.0 both.0, follows.1 both.1)
where_of_form h R test (nodes.Table keys rows) follows is =
    let both = and_parts (all_together true and_also (λ key. key.expr) (map (key_with h) keys))
    (all_together true and_also (λ b. b) (map h rows)) is in
    (where_keys h R keys follows.0 both.0, where_parts h R rows follows.1 both.1)
where_of_form h R test (nodes.Ratio x y z) follows is =
    let both = and_parts (h x) (h y && h z) is in
    let rest = and_parts (h y) (h z) both.1 in
    (follows.0 both.0, follows.1 rest.0, follows.2 rest.1)
where_of_form h R test (nodes.Min a b) follows is =
    let both = and_parts (h a) (h b) is in (follows.0 both.0, follows.1 both.1)
where_of_form h R test (nodes.Max a b) follows is =
    let both = and_parts (h a) (h b) is in (follows.0 both.0, follows.1 both.1)
where_of_form h R test (nodes.Clamp low high e) follows is = follows is
