use Rattle.std.proofs.Common.{◌≡◌, drop}
use Rattle.std.specs.Prelude.{bytes_eq}
use Rattle.std.specs.Cmp.Lexicographic.{pointwise}
use Rattle.og_small.specs.Meaning.{choice_at}
use Rattle.og_small.proofs.pay.is_played.Given as goal

abbrev pub invariant-keys : goal.invariant-keys
invariant-keys l = pointwise (λ key name. bytes_eq (choice_at l.lines l.choices key.output) name) (drop l.i l.keys) (drop l.i l.cases)
    ≡ pointwise (λ key name. bytes_eq (choice_at l.lines l.choices key.output) name) l.keys l.cases
