-- The law of a closure is each law that it keeps, and its answers agree with it.
use Rattle.std.proofs.Common.{◌≡◌, Bool, true, false, Option, Some, None, Result, Ok, Err, ap, refl}
use Rattle.std.specs.Coded.{Unit-prop}
use Rattle.std.proofs.Math.Logic.{∥∥₁_elim}
use Rattle.og_native.specs.declared.fault.NativeFault.{NativeFault}
use Rattle.og_native.specs.declared.fault.NativeFault.TheVariants.{Passes, Memory}
use Rattle.og_native.specs.Answered.{Answers}
use Rattle.og_native.specs.Lawful.{Keeps, IsLawful, AlwaysDecides, is_decided, one_meant, meant_at, law_at, law_of}

answers_once : {A : Type 0} → IsSet (Option A) → (o : Option A) (r : Result A NativeFault) → IsProp (Answers o r)
answers_once set o (Ok a) = set o (Some a)
answers_once set o (Err Passes) = set o None
answers_once set o (Err Memory) = Unit-prop

-- What the law says is an answer that is decided.
pub told : {A : Type 0} → Option A → Result A NativeFault
told (Some a) = Ok a
told None = Err Passes

pub told_answers : {A : Type 0} (o : Option A) → Answers o (told o)
unfolding told
told_answers (Some a) = refl
told_answers None = refl

pub told_decided : {A : Type 0} (o : Option A) → is_decided (told o) ≡ true
unfolding told
told_decided (Some a) = refl
told_decided None = refl

module _ {X A : Type 0} {on : X → Bool} {may : X → Result A NativeFault → Type 0} (set : IsSet (Option A))
    (lawful : IsLawful on may) (decides : AlwaysDecides on may) where
  at_answers : (x : X) (b : Bool) (e : on x ≡ b) → b ≡ true → (r : Result A NativeFault) → may x r
      → Answers (law_at set lawful decides x b e) r
  at_answers x true e h r m =
      let meant = meant_at set lawful decides x e in ∥∥₁_elim (meant.1 r m) (answers_once set meant.0 r) (λ a. a)
  at_answers x false e h r m = absurd (cc)

  pub law_answers : (x : X) → on x ≡ true → (r : Result A NativeFault) → may x r
      → Answers (law_of set lawful decides x) r
  unfolding law_of
  law_answers x h r m = at_answers x (on x) refl h r m

  at_is : (law : X → Option A) → Keeps on may law → (x : X) (b : Bool) (e : on x ≡ b) → b ≡ true
      → law_at set lawful decides x b e ≡ law x
  at_is law keeps x true e h = ap (λ m. m.0) (one_meant set (decides x e) (meant_at set lawful decides x e)
      (law x, λ r m. ∣ keeps.says x e r m ∣₁))
  at_is law keeps x false e h = absurd (cc)

  pub law_is : (law : X → Option A) → Keeps on may law → (x : X) → on x ≡ true
      → law_of set lawful decides x ≡ law x
  unfolding law_of
  law_is law keeps x h = at_is law keeps x (on x) refl h

  at_nothing : (x : X) (b : Bool) (e : on x ≡ b) → b ≡ false → law_at set lawful decides x b e ≡ None
  at_nothing x true e h = absurd (cc)
  at_nothing x false e h = refl

  pub law_nowhere : (x : X) → on x ≡ false → law_of set lawful decides x ≡ None
  unfolding law_of
  law_nowhere x h = at_nothing x (on x) refl h
