-- What a boxed closure may answer is what the closure may: both ways, from what making the box ensures. T is the
-- table of the closures that are boxed in one function, and `place` the closure's place there.
use Rattle.std.proofs.Common.{◌≡◌, refl, sym, subst}
use mir.Syntax.{Dict}
use denote.Param.Table.{Table}
use denote.Param.Object.{Made, read_made}
use denote.Param.Members.{Mut}

module _ {A R : Type 0} (T : Table (λ X. Mut X A R) Dict) (place : T.I) where
  abbrev IsBoxed : (i : T.I) → (T.entry i).0.Denot → (T.entry place).0.Denot → Type 0
  IsBoxed i y x = Made (λ j. (T.entry j).0.coded.code) (T.entry place).0.coded.code place i y x

  same_post : (i : T.I) (y : (T.entry i).0.Denot) (x : (T.entry place).0.Denot) → IsBoxed i y x → (a : A) (r : R)
      → (T.entry i).1.post y a r ≡ (T.entry place).1.post x a r
  same_post i y x made a r = read_made T (T.entry place) place refl (Type 0) (λ j v. j.1.post v a r) i y x made

  pub box_gives : (i : T.I) (y : (T.entry i).0.Denot) (x : (T.entry place).0.Denot) → IsBoxed i y x → (a : A) (r : R)
      → (T.entry i).1.post y a r → (T.entry place).1.post x a r
  box_gives i y x made a r = subst (λ (P : Type 0). P) (same_post i y x made a r)

  pub box_tells : (i : T.I) (y : (T.entry i).0.Denot) (x : (T.entry place).0.Denot) → IsBoxed i y x → (a : A) (r : R)
      → (T.entry place).1.post x a r → (T.entry i).1.post y a r
  box_tells i y x made a r = subst (λ (P : Type 0). P) (sym (same_post i y x made a r))
