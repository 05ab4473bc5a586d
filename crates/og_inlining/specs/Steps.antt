-- What is there only where each of several things is, and what a call promises that answers it.
use Rattle.std.specs.Prelude.{◌≡◌, Bool, true, false, List, [], ◌∷◌, ◌++◌, Option, Some, None, option_and_then, Result, Ok, Err}
use Rattle.og_expr.specs.declared.expr.BuildFault.{BuildFault}
use Rattle.og_expr.specs.declared.expr.BuildFault.TheVariants.{BadType, Memory}
use Rattle.og_typing.specs.Checked.{Checked}

-- one and then the next, where both are there
infixl 10 ◌>>=◌
abbrev pub ◌>>=◌ : {A B : Type 0} → Option A → (A → Option B) → Option B
o >>= f = option_and_then f o

infixl 10 ◌>>◌
abbrev pub ◌>>◌ : {A B : Type 0} → Option A → Option B → Option B
first >> second = first >>= (λ _. second)

-- where the test holds
abbrev pub provided : Bool → Option (Unit {0})
provided true = Some tt
provided false = None

-- one step after another, from what is there
abbrev pub in_turn : {X A : Type 0} → (A → X → Option A) → A → List X → Option A
in_turn step found [] = Some found
in_turn step found (x ∷ xs) = step found x >>= (λ next. in_turn step next xs)

-- what each item gives, behind those that were found, where each gives something
abbrev pub each_of : {X Y : Type 0} → (X → Option Y) → List Y → List X → Option (List Y)
each_of item found [] = Some found
each_of item found (x ∷ xs) = item x >>= (λ y. each_of item (found ++ y ∷ []) xs)

-- what a walk gives, where no rule is broken
abbrev pub given_by : {A : Type 0} → Checked A → Option A
given_by (Ok a) = Some a
given_by (Err fault) = None

-- A call answers what is there, and BadType exactly where nothing is; want of memory alone says nothing.
abbrev pub Gives : {A : Type 0} → Option A → Result A BuildFault → Type 0
Gives found (Ok made) = found ≡ Some made
Gives found (Err BadType) = found ≡ None
Gives found (Err Memory) = Unit {0}
