-- Where memory runs out before the words are there, nothing was done.
use Rattle.std.proofs.Common.{◌≡◌, ℕ, List, refl, arith, inl, inr}
use Rattle.og_tool.specs.declared.status.Status.TheVariants.{Memory}
use Rattle.og_tool.specs.Ran.{Outside, Ran}
use Rattle.og_wires.specs.Sites.{Blocks}

pub nothing_ran : (blocks : Blocks) (words : List (List ℕ)) (before : Outside) → Ran blocks words before before Memory
nothing_ran blocks words before = record {
  files = record {
    held = λ name. refl;
    loads = record { never_falls = λ name. omega arith; at_most = λ name. omega arith };
    faults = record { never_falls = λ name. omega arith; at_most = λ name. omega arith };
  };
  out = inr (inr (record { ends_so = refl; unwritten = inl refl }));
}
