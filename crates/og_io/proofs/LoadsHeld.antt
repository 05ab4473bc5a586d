-- What was read under a limit is what the reader had left, or more than the limit.
use Rattle.std.proofs.Common.{◌≡◌, ℕ, ◌+◌, ◌<◌, ◌≤◌, List, [], ◌++◌, length, take, Option, Some, None, Result, Ok, Err, arith, ap, min, ◌∙◌, subst, sym, inl, inr}
use Rattle.std.specs.Prelude.{IfSome, OnOk}
use Rattle.std.specs.Option.{option_map}
use Rattle.std.proofs.lemmas.Bool.{cases_lt}
use Rattle.std.proofs.lemmas.List.{length-take, take_all}
use Rattle.std.specs.declared.alloc.Global.{Global}
use Rattle.std.specs.declared.vec.Vec.{Vec}
use Rattle.std.specs.declared.io.Error.{Error}
use Rattle.og_io.specs.declared.faults.LoadFault.{LoadFault}
use Rattle.og_io.specs.declared.faults.LoadFault.TheVariants.{Failed, Memory}
use Rattle.og_io.specs.Outside.{LoadsHeld}
use Rattle.og_io.specs.Streams.{Ends, IsFaultOf}

-- A refusal by an error says nothing of what is held.
pub refused_by_error : (held : Option (List ℕ)) (limit : ℕ) (error : Error) (fault : LoadFault) (result : Result (Vec ℕ Global) LoadFault)
    → result ≡ Err fault → IsFaultOf error fault → LoadsHeld held limit result
refused_by_error held limit error fault result is (inl memory) =
    let same : Err Memory ≡ result = cc (memory.1) in subst (λ (r : Result (Vec ℕ Global) LoadFault). LoadsHeld held limit r) same tt
refused_by_error held limit error fault result is (inr failed) =
    let same : Err Failed ≡ result = cc (failed.1) in subst (λ (r : Result (Vec ℕ Global) LoadFault). LoadsHeld held limit r) same tt

ends_ok : (held : Option (List ℕ)) (limit n : ℕ) (bytes : Vec ℕ Global) (result : Result (Vec ℕ Global) LoadFault)
    → (length bytes.items ≤ limit → IfSome held (λ told. bytes.items ≡ told))
    → (limit < length bytes.items → IfSome held (λ told. limit < length told))
    → Ends (Ok n) bytes limit result → LoadsHeld held limit result
ends_ok held limit n bytes result whole beyond ends =
    elim (cases_lt limit (length bytes.items)) [
      | inl lt ↦ subst (λ (r : Result (Vec ℕ Global) LoadFault). LoadsHeld held limit r) (sym (ends.1 lt)) (beyond lt)
      | inr le ↦ subst (λ (r : Result (Vec ℕ Global) LoadFault). LoadsHeld held limit r) (sym (ends.0 le)) (le, whole le)
    ]

pub read_limited : (held : Option (List ℕ)) (limit : ℕ) (read : Result ℕ Error) (bytes : Vec ℕ Global) (result : Result (Vec ℕ Global) LoadFault)
    → OnOk read (IfSome (option_map (take (limit + 1)) held) (λ xs. bytes.items ≡ [] ++ xs)) → Ends read bytes limit result → LoadsHeld held limit result
read_limited held limit (Err error) bytes result known ends = refused_by_error held limit error ends.0 result ends.1 ends.2
read_limited None limit (Ok n) bytes result known ends = ends_ok None limit n bytes result (λ _. tt) (λ _. tt) ends
read_limited (Some told) limit (Ok n) bytes result known ends =
    let long : length bytes.items ≡ min (limit + 1) (length told) = ap length known ∙ length-take (limit + 1) told in
    ends_ok (Some told) limit n bytes result
    (λ le. known ∙ take_all (limit + 1) told (omega arith))
    (λ lt. omega arith) ends

pub read_unlimited : (held : Option (List ℕ)) (limit : ℕ) (read : Result ℕ Error) (bytes : Vec ℕ Global) (result : Result (Vec ℕ Global) LoadFault)
    → OnOk read (IfSome held (λ xs. bytes.items ≡ [] ++ xs)) → Ends read bytes limit result → LoadsHeld held limit result
read_unlimited held limit (Err error) bytes result known ends = refused_by_error held limit error ends.0 result ends.1 ends.2
read_unlimited None limit (Ok n) bytes result known ends = ends_ok None limit n bytes result (λ _. tt) (λ _. tt) ends
read_unlimited (Some told) limit (Ok n) bytes result known ends =
    let same : length bytes.items ≡ length told = ap length known in
    ends_ok (Some told) limit n bytes result (λ _. known) (λ lt. omega arith) ends
