-- What a closure's clause says is what it gives.
use Rattle.std.proofs.Common.{◌≡◌, Bool, Option, Result, ap, subst, ◌∙◌, refl, Bor}
use Rattle.og_native.specs.declared.fault.NativeFault.{NativeFault}
use Rattle.og_native.specs.Answered.{Answers}
use Rattle.og_native.specs.Lawful.{Keeps, AlwaysDecides}
use Rattle.og_native.specs.Gives.{Gives, GivesBack, Tells, CanTell, TellsBack, CanTellBack}
use Rattle.og_native.proofs.LawfulLaws.{told, told_answers, told_decided}

-- a reference to x, wherever it points
abbrev pub to : {X : Type 0} → X → Bor X
to x = record { ref_ptr = (0, 0); now = x }

module _ {G X A : Type 0} {post : G → Bor X → Result A NativeFault → Type 0} (on : X → Bool) (law : X → Option A) where
  pub keeps : Tells post on law → Keeps on (Gives post) law
  keeps tells = record {
    says = λ x h r m. subst (λ z. Answers (law z) r) m.shows
        (tells m.alloc m.shown r (ap on m.shows ∙ h) m.met);
  }

  pub decides : G → CanTell post on law → AlwaysDecides on (Gives post)
  decides a can x h = ∣ record {
    answer = told (law x);
    given = record {
      alloc = a;
      shown = to x;
      shows = refl;
      met = can a (to x) (told (law x)) h (told_decided (law x)) (told_answers (law x));
    };
    decided = told_decided (law x);
  } ∣₁

module _ {G X Y A : Type 0} {post : G → Bor X → Bor Y → Result A NativeFault → Type 0} (on : X × Y → Bool)
    (law : X → Y → Option A) where
  pub keeps_back : TellsBack post on law → Keeps on (GivesBack post) (λ both. law both.0 both.1)
  keeps_back tells = record {
    says = λ both h r m.
        let shows : (m.shown.now, m.back.now) ≡ both = λ i. (m.shows i, m.shows_back i) in
        subst (λ z. Answers (law z.0 z.1) r) shows (tells m.alloc m.shown m.back r (ap on shows ∙ h) m.met);
  }

  pub decides_back : G → CanTellBack post on law → AlwaysDecides on (GivesBack post)
  decides_back a can both h = ∣ record {
    answer = told (law both.0 both.1);
    given = record {
      alloc = a;
      shown = to both.0;
      back = to both.1;
      shows = refl;
      shows_back = refl;
      met = can a (to both.0) (to both.1) (told (law both.0 both.1)) h (told_decided (law both.0 both.1))
          (told_answers (law both.0 both.1));
    };
    decided = told_decided (law both.0 both.1);
  } ∣₁
