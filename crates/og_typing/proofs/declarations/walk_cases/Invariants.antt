use Rattle.std.proofs.Common.{◌≡◌, drop}
use Rattle.og_typing.specs.Variables.{cases_walk}
use Rattle.og_typing.proofs.declarations.walk_cases.Given as goal

abbrev pub invariant-cases : goal.invariant-cases
invariant-cases l =
    cases_walk l.family l.count l.index l.declared (drop l.case-index l.cases)
    ≡ cases_walk l.family l.count 0 l.initial.declared l.cases
