-- What a walk over a text's tree gives: something, or the first rule that is broken.
use Rattle.std.specs.Prelude.{◌≡◌, ◌≢◌, Bool, true, false, List, [], ◌∷◌, Result, Ok, Err}
use Rattle.og_typing.specs.declared.fault.WireFault.{WireFault}
use Rattle.og_typing.specs.declared.fault.WireFault.TheVariants.{Memory}

abbrev pub Checked : Type 0 → Type 0
Checked A = Result A WireFault

-- one step and the next, up to the first rule that is broken
infixl 10 ◌>>=◌
abbrev pub ◌>>=◌ : {A B : Type 0} → Checked A → (A → Checked B) → Checked B
Ok a >>= f = f a
Err fault >>= f = Err fault

infixl 10 ◌>>◌
abbrev pub ◌>>◌ : {A B : Type 0} → Checked A → Checked B → Checked B
first >> second = first >>= (λ _. second)

-- The rule holds, or it is broken with this fault.
abbrev pub rule : Bool → WireFault → Checked (Unit {0})
rule true fault = Ok tt
rule false fault = Err fault

-- one item after another, with what was found so far
abbrev pub in_turn : {X A : Type 0} → (A → X → Checked A) → A → List X → Checked A
in_turn step found [] = Ok found
in_turn step found (x ∷ xs) = step found x >>= (λ next. in_turn step next xs)

-- A call answers what the walk gives; want of memory alone says nothing.
abbrev pub Walks : {A : Type 0} → Checked A → Result A WireFault → Type 0
Walks walk (Ok made) = walk ≡ Ok made
Walks walk (Err fault) = fault ≢ Memory → walk ≡ Err fault

-- A call leaves what the walk gives; a rule that is broken is answered.
abbrev pub Updates : {A : Type 0} → Checked A → Result (Unit {0}) WireFault → A → Type 0
Updates walk (Ok _) after = walk ≡ Ok after
Updates walk (Err fault) after = fault ≢ Memory → walk ≡ Err fault
