-- What closures may answer that take memory and values behind references, as their clauses say it.
use Rattle.std.specs.Prelude.{◌≡◌, Bool, true, Option, Result}
use denote.Bor.{Bor}
use Rattle.og_native.specs.declared.fault.NativeFault.{NativeFault}
use Rattle.og_native.specs.Answered.{Answers}
use Rattle.og_native.specs.Lawful.{is_decided}

module _ {G X A : Type 0} (post : G → Bor X → Result A NativeFault → Type 0) where
  -- With some memory, and with some reference to x, the closure may answer r.
  pub record Gives (x : X) (r : Result A NativeFault) : Type 0 where
    pub alloc : G
    pub shown : Bor X
    pub shows : shown.now ≡ x
    pub met : post alloc shown r

  module _ (on : X → Bool) (law : X → Option A) where
    -- Where `on` holds, each answer is what the law says.
    abbrev pub Tells : Type 0
    Tells = (a : G) (p : Bor X) (r : Result A NativeFault)
        → on p.now ≡ true → post a p r → Answers (law p.now) r

    -- Where `on` holds, the closure's clause leaves room for what the law says.
    abbrev pub CanTell : Type 0
    CanTell = (a : G) (p : Bor X) (r : Result A NativeFault)
        → on p.now ≡ true → is_decided r ≡ true → Answers (law p.now) r → post a p r

-- The same of two values behind references.
module _ {G X Y A : Type 0} (post : G → Bor X → Bor Y → Result A NativeFault → Type 0) where
  pub record GivesBack (both : X × Y) (r : Result A NativeFault) : Type 0 where
    pub alloc : G
    pub shown : Bor X
    pub back : Bor Y
    pub shows : shown.now ≡ both.0
    pub shows_back : back.now ≡ both.1
    pub met : post alloc shown back r

  module _ (on : X × Y → Bool) (law : X → Y → Option A) where
    abbrev pub TellsBack : Type 0
    TellsBack = (a : G) (p : Bor X) (q : Bor Y) (r : Result A NativeFault)
        → on (p.now, q.now) ≡ true → post a p q r → Answers (law p.now q.now) r

    abbrev pub CanTellBack : Type 0
    CanTellBack = (a : G) (p : Bor X) (q : Bor Y) (r : Result A NativeFault)
        → on (p.now, q.now) ≡ true → is_decided r ≡ true → Answers (law p.now q.now) r → post a p q r
