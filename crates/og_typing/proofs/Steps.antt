-- Walks of several steps that give something: each step gave something, and each rule holds.
use Rattle.std.proofs.Common.{◌≡◌, Bool, true, false, refl}
use Rattle.std.specs.Prelude.{Ok, Err}
use Rattle.og_typing.specs.declared.fault.WireFault.{WireFault}
use Rattle.og_typing.specs.Checked.{Checked, ◌>>=◌, rule}

-- what a walk of two steps gives was given by both
pub bind_ok : {A B : Type 0} (first : Checked A) (second : A → Checked B) (b : B) → (first >>= second) ≡ Ok b
    → (a : A) × (first ≡ Ok a) × (second a ≡ Ok b)
bind_ok (Ok a) second b is = (a, refl, is)
bind_ok (Err fault) second b is = cc

-- a rule that isn't broken holds
pub rule_holds : (holds : Bool) (fault : WireFault) (u : Unit {0}) → rule holds fault ≡ Ok u → holds ≡ true
rule_holds true fault u is = refl
rule_holds false fault u is = cc
