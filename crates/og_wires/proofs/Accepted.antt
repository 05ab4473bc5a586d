-- What an accepted program has: each rule that was asked holds.
use Rattle.std.proofs.Common.{◌≡◌, ℕ, Bool, true, false, Option, Some, None, refl, subst}
use Rattle.std.specs.Prelude.{Ok, Err, length, ◌==◌, nat_le, nat_lt, ◌^◌, slice_get, codes}
use Rattle.og_syntax.specs.declared.declarations.Program.{Program}
use Rattle.og_names.specs.Names.{lookup}
use Rattle.og_typing.specs.declared.fault.WireFault.{WireFault}
use Rattle.og_typing.specs.declared.fault.WireFault.TheVariants.{TooBig, WrongCount, NotClosed, TooManyLines, ScaleTooLarge}
use Rattle.og_typing.specs.declared.meaning.Meaning.{Meaning}
use Rattle.og_typing.specs.declared.meaning.Meaning.TheVariants as meanings
use Rattle.og_typing.specs.Checked.{Checked, ◌>>=◌, ◌>>◌, rule}
use Rattle.og_typing.proofs.Steps.{bind_ok, rule_holds}
use Rattle.og_wires.specs.declared.kind.DeclaredGame.{DeclaredGame}
use Rattle.og_wires.specs.declared.programs.Declarations.{Declarations}
use Rattle.og_wires.specs.Sites.{Blocks}
use Rattle.og_wires.specs.Programs.{no_names, decls_walk, main_at, main_named, main_walk, is_closed, size_fits, main_fits, end_walk, all_walk, program_walk, IsWired, HasMain}

main_there : (at : ℕ) (found : Option DeclaredGame) (main : DeclaredGame) → main_at at found ≡ Ok main → found ≡ Some main
main_there at (Some game) main is = cc
main_there at None main is = cc

main_number : (at : ℕ) (games : _) (found : Option Meaning) (main : DeclaredGame) → main_named at games found ≡ Ok main
    → (number : ℕ) × (found ≡ Some (meanings.Game number)) × (slice_get games number ≡ Some main)
main_number at games (Some (meanings.Game number)) main is = (number, refl, main_there at (slice_get games number) main is)
main_number at games (Some (meanings.Type t)) main is = cc
main_number at games (Some (meanings.Case family cases index)) main is = cc
main_number at games (Some (meanings.Function f)) main is = cc
main_number at games None main is = cc

pub has_main : (blocks : Blocks) (p : Program) (wired : IsWired blocks p) → HasMain wired.known
has_main blocks p wired =
    let counted = bind_ok (rule (nat_lt (length p.decls) (2 ^ 32)) (TooBig p.at)) (λ _. all_walk blocks p) wired.known wired.walks in
    let declared = bind_ok (decls_walk blocks 0 no_names p.decls) (λ known. end_walk p.at known >> Ok known) wired.known counted.2 in
    let ended = bind_ok (end_walk p.at declared.0) (λ _. Ok declared.0) wired.known declared.2 in
    let same : declared.0 ≡ wired.known = cc (ended.2) in
    let main = bind_ok (main_walk p.at declared.0) main_fits ended.0 ended.1 in
    let found = main_number p.at declared.0.games (lookup (codes "main") declared.0.declared) main.0 main.1 in
    let first = bind_ok (rule (length main.0.params == 0) (WrongCount main.0.at))
    (λ _. rule (is_closed main.0.kind.ports) (NotClosed main.0.at) >> size_fits main.0.at main.0.kind.size) ended.0 main.2 in
    let second = bind_ok (rule (is_closed main.0.kind.ports) (NotClosed main.0.at)) (λ _. size_fits main.0.at main.0.kind.size)
    ended.0 first.2 in
    let third = bind_ok (rule (nat_le main.0.kind.size.lines 4096) (TooManyLines main.0.at))
    (λ _. rule (nat_le main.0.kind.size.weight 1048576) (TooBig main.0.at)
    >> rule (nat_lt main.0.kind.size.scale (2 ^ 62)) (ScaleTooLarge main.0.at)) ended.0 second.2 in
    let fourth = bind_ok (rule (nat_le main.0.kind.size.weight 1048576) (TooBig main.0.at))
    (λ _. rule (nat_lt main.0.kind.size.scale (2 ^ 62)) (ScaleTooLarge main.0.at)) ended.0 third.2 in
    subst HasMain same (record {
      number = found.0;
      game = main.0;
      named = found.1;
      kept = found.2;
      no_params = rule_holds _ _ _ first.1;
      closed = rule_holds _ _ _ second.1;
      few_lines = rule_holds _ _ _ third.1;
      light = rule_holds _ _ _ fourth.1;
      small_scale = rule_holds _ _ _ fourth.2;
    })
