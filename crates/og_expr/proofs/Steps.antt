-- What an item gives of a list of conditions, and of a list of keys, in what is left of the list.
use Rattle.std.proofs.Common.{◌≡◌, ◌∙◌, ℕ, ◌<◌, ◌+◌, true, false, List, [], ◌∷◌, ◌++◌, map, length, drop, get_or, Option, Some, None, Err, refl, sym, ap, append_assoc}
use Rattle.std.specs.Prelude.{option_and_then, if◌then◌else◌, Bool}
use Rattle.std.specs.Option.{option_map}
use Rattle.og_list.proofs.Drop.{drop_at}
use Rattle.og_types.specs.declared.value.Value.{Value}
use Rattle.og_expr.specs.declared.node.Choice.{Choice}
use Rattle.og_expr.specs.declared.node.Key.{Key}
use Rattle.og_expr.specs.declared.evaluation.EvalFault.{EvalFault}
use Rattle.og_expr.specs.declared.evaluation.EvalFault.TheVariants.{Passes, Memory}
use Rattle.og_expr.specs.Levels.{choice_with, key_with}
use Rattle.og_expr.specs.Types.{each_of}
use Rattle.og_expr.specs.Values.{first_chosen}
use Rattle.og_types.specs.Value.{flag_of}
use Rattle.og_expr.specs.Evaluated.{Evaluates}

-- what has no value passes, whatever stands for it
fails : {A B : Type 0} (o : Option A) (e : EvalFault) → Evaluates o (Err e) → (total : Option B) → (o ≡ None → total ≡ None)
    → Evaluates total (Err e)
fails o Passes is total follows = follows is
fails o Memory is total follows = tt

-- ---- conditions

abbrev conditions : {E : Type 0} → (E → Option Value) → List (Choice E) → Option (Option Value)
conditions f cs = first_chosen (map (choice_with f) cs)

-- what a condition's truth leaves to find
abbrev then_find : {E : Type 0} → (E → Option Value) → E → List (Choice E) → Option Bool → Option (Option Value)
then_find f body cs o = option_and_then (λ b. if b then option_map Some (f body) else conditions f cs) o

conditions_at : {E : Type 0} (f : E → Option Value) (cs : List (Choice E)) (i : ℕ) (c : Choice E)
    → i < length cs → c ≡ get_or cs i c
    → conditions f (drop i cs) ≡ then_find f c.body (drop (i + 1) cs) (option_and_then flag_of (f c.cond))
conditions_at f cs i c lt is = ap (conditions f) (drop_at cs i c lt is)

pub condition_fails : {E : Type 0} (f : E → Option Value) (cs : List (Choice E)) (i : ℕ) (c : Choice E)
    → i < length cs → c ≡ get_or cs i c → (total : Option (Option Value)) → conditions f (drop i cs) ≡ total
    → (e : EvalFault) → Evaluates (f c.cond) (Err e) → Evaluates total (Err e)
condition_fails f cs i c lt is total inv e fault = fails (f c.cond) e fault total
    (λ none. sym inv ∙ conditions_at f cs i c lt is ∙ ap (λ o. then_find f c.body (drop (i + 1) cs) (option_and_then flag_of o)) none)

pub condition_unclear : {E : Type 0} (f : E → Option Value) (cs : List (Choice E)) (i : ℕ) (c : Choice E)
    → i < length cs → c ≡ get_or cs i c → (total : Option (Option Value)) → conditions f (drop i cs) ≡ total
    → (v : Value) → f c.cond ≡ Some v → (e : EvalFault) → Evaluates (flag_of v) (Err e) → Evaluates total (Err e)
condition_unclear f cs i c lt is total inv v some e fault = fails (flag_of v) e fault total
    (λ none. sym inv ∙ conditions_at f cs i c lt is
    ∙ ap (λ o. then_find f c.body (drop (i + 1) cs) (option_and_then flag_of o)) some
    ∙ ap (λ o. then_find f c.body (drop (i + 1) cs) o) none)

-- what a condition that is told gives
condition_told : {E : Type 0} (f : E → Option Value) (cs : List (Choice E)) (i : ℕ) (c : Choice E)
    → i < length cs → c ≡ get_or cs i c → (total : Option (Option Value)) → conditions f (drop i cs) ≡ total
    → (v : Value) → f c.cond ≡ Some v → (b : Bool) → flag_of v ≡ Some b
    → total ≡ then_find f c.body (drop (i + 1) cs) (Some b)
condition_told f cs i c lt is total inv v some b told = sym inv ∙ conditions_at f cs i c lt is
    ∙ ap (λ o. then_find f c.body (drop (i + 1) cs) (option_and_then flag_of o)) some
    ∙ ap (λ o. then_find f c.body (drop (i + 1) cs) o) told

pub body_fails : {E : Type 0} (f : E → Option Value) (cs : List (Choice E)) (i : ℕ) (c : Choice E)
    → i < length cs → c ≡ get_or cs i c → (total : Option (Option Value)) → conditions f (drop i cs) ≡ total
    → (v : Value) → f c.cond ≡ Some v → flag_of v ≡ Some true
    → (e : EvalFault) → Evaluates (f c.body) (Err e) → Evaluates total (Err e)
body_fails f cs i c lt is total inv v some holds e fault = fails (f c.body) e fault total
    (λ none. condition_told f cs i c lt is total inv v some true holds ∙ ap (option_map Some) none)

pub next_condition : {E : Type 0} (f : E → Option Value) (cs : List (Choice E)) (i : ℕ) (c : Choice E)
    → i < length cs → c ≡ get_or cs i c → (total : Option (Option Value)) → conditions f (drop i cs) ≡ total
    → (v : Value) → f c.cond ≡ Some v → flag_of v ≡ Some false → conditions f (drop (i + 1) cs) ≡ total
next_condition f cs i c lt is total inv v some fails' = sym (condition_told f cs i c lt is total inv v some false fails')

-- ---- keys

abbrev keys_in : {E : Type 0} → (E → Option Value) → List (Key E) → Option (List Value)
keys_in f keys = each_of (map (λ key. key.expr) (map (key_with f) keys))

abbrev then_keys : {E : Type 0} → (E → Option Value) → List (Key E) → Option Value → Option (List Value)
then_keys f keys o = option_and_then (λ v. option_map (λ vs. v ∷ vs) (keys_in f keys)) o

pub key_fails : {E : Type 0} (f : E → Option Value) (keys : List (Key E)) (i : ℕ) (key : Key E) (all : List Value)
    → i < length keys → key ≡ get_or keys i key
    → (total : Option (List Value)) → option_map (λ vs. all ++ vs) (keys_in f (drop i keys)) ≡ total
    → (e : EvalFault) → Evaluates (f key.expr) (Err e) → Evaluates total (Err e)
key_fails f keys i key all lt is total inv e fault = fails (f key.expr) e fault total
    (λ none. sym inv ∙ ap (λ ks. option_map (λ vs. all ++ vs) (keys_in f ks)) (drop_at keys i key lt is)
    ∙ ap (λ o. option_map (λ vs. all ++ vs) (then_keys f (drop (i + 1) keys) o)) none)

behind : (all : List Value) (v : Value) (o : Option (List Value))
    → option_map (λ vs. (all ++ v ∷ []) ++ vs) o ≡ option_map (λ vs. all ++ vs) (option_map (λ vs. v ∷ vs) o)
behind all v None = refl
behind all v (Some vs) = ap Some (append_assoc all (v ∷ []) vs)

pub next_key : {E : Type 0} (f : E → Option Value) (keys : List (Key E)) (i : ℕ) (key : Key E) (all : List Value)
    → i < length keys → key ≡ get_or keys i key
    → (total : Option (List Value)) → option_map (λ vs. all ++ vs) (keys_in f (drop i keys)) ≡ total
    → (v : Value) → f key.expr ≡ Some v
    → option_map (λ vs. (all ++ v ∷ []) ++ vs) (keys_in f (drop (i + 1) keys)) ≡ total
next_key f keys i key all lt is total inv v some =
    behind all v (keys_in f (drop (i + 1) keys))
    ∙ sym (ap (λ o. option_map (λ vs. all ++ vs) (then_keys f (drop (i + 1) keys) o)) some)
    ∙ sym (ap (λ ks. option_map (λ vs. all ++ vs) (keys_in f ks)) (drop_at keys i key lt is)) ∙ inv

-- the types of the keys don't rest on their expressions
pub keys_typed : {E A : Type 0} (f : E → A) (keys : List (Key E))
    → map (λ key. key.ty) (map (key_with f) keys) ≡ map (λ key. key.ty) keys
keys_typed f [] = refl
keys_typed f (key ∷ keys) = ap (λ ts. key.ty ∷ ts) (keys_typed f keys)
