-- What is known of a boxed closure by the law that it meets. X is what it is called with, A what it answers, `on`
-- where it may be called, and `may` which answers it may give.
use Rattle.std.specs.Prelude.{◌≡◌, Bool, true, false, Option, None, Result, Ok, Err}
use Rattle.std.specs.Coded.{Π_prop}
use Rattle.std.proofs.Math.Logic.{∥∥₁_prop, ∥∥₁_elim}
use mathlib.Core.Path.{refl, sym, ◌∙◌}
use mathlib.Core.HLevel.{Σ_prop_path}
use Rattle.og_native.specs.declared.fault.NativeFault.{NativeFault}
use Rattle.og_native.specs.declared.fault.NativeFault.TheVariants.{Passes, Memory}
use Rattle.og_native.specs.Answered.{Answers}

-- other than want of memory
abbrev pub is_decided : {A : Type 0} → Result A NativeFault → Bool
is_decided (Ok a) = true
is_decided (Err Passes) = true
is_decided (Err Memory) = false

module _ {X A : Type 0} (on : X → Bool) (may : X → Result A NativeFault → Type 0) where
  -- Each answer is what the law says.
  pub record Keeps (law : X → Option A) : Type 0 where
    pub says : (x : X) → on x ≡ true → (r : Result A NativeFault) → may x r → Answers (law x) r

  -- Some answer that may come is decided.
  pub record Decides (x : X) : Type 0 where
    pub answer : Result A NativeFault
    pub given : may x answer
    pub decided : is_decided answer ≡ true

  abbrev pub IsLawful : Type 0
  IsLawful = ∥ ((law : X → Option A) × Keeps law) ∥₁

  abbrev pub AlwaysDecides : Type 0
  AlwaysDecides = (x : X) → on x ≡ true → ∥ Decides x ∥₁

  -- An option with which each answer that may come agrees.
  abbrev pub Meant : X → Type 0
  Meant x = (o : Option A) × ((r : Result A NativeFault) → may x r → ∥ Answers o r ∥₁)

-- A decided answer leaves one option.
agree : {A : Type 0} (o p : Option A) (r : Result A NativeFault) → is_decided r ≡ true
    → Answers o r → Answers p r → o ≡ p
agree o p (Ok a) d e f = e ∙ sym f
agree o p (Err Passes) d e f = e ∙ sym f
agree o p (Err Memory) d e f = absurd (cc)

module _ {X A : Type 0} {on : X → Bool} {may : X → Result A NativeFault → Type 0} (set : IsSet (Option A)) where
  pub one_meant : {x : X} → ∥ Decides on may x ∥₁ → IsProp (Meant on may x)
  one_meant decides u v = Σ_prop_path (λ o. Π_prop (λ r. Π_prop (λ m. ∥∥₁_prop)))
      (∥∥₁_elim decides (set u.0 v.0) (λ d.
      ∥∥₁_elim (u.1 d.answer d.given) (set u.0 v.0) (λ e.
      ∥∥₁_elim (v.1 d.answer d.given) (set u.0 v.0) (λ f. agree u.0 v.0 d.answer d.decided e f))))

  abbrev pub meant_at : IsLawful on may → AlwaysDecides on may → (x : X) → on x ≡ true → Meant on may x
  meant_at lawful decides x h = ∥∥₁_elim lawful (one_meant (decides x h)) (λ l.
      (l.0 x, λ r m. ∣ l.1.says x h r m ∣₁))

  abbrev pub law_at : IsLawful on may → AlwaysDecides on may → (x : X) (b : Bool) → on x ≡ b → Option A
  law_at lawful decides x true h = (meant_at lawful decides x h).0
  law_at lawful decides x false h = None

  -- The law of a closure: what each answer that may come agrees with, where it may be called, and nothing elsewhere.
  unfoldable pub law_of : IsLawful on may → AlwaysDecides on may → X → Option A
  law_of lawful decides x = law_at lawful decides x (on x) refl
