use Rattle.std.proofs.Common.{◌≡◌, true, rules}
use Rattle.std.proofs.lemmas.Str.{IsUtf8-past_char}
use Rattle.og_lex.specs.Characters.{has}
use Rattle.og_lex.proofs.TextCuts.{passed_more}
use Rattle.og_lex.proofs.front.after.Goals as goal

pub run-preserved : goal.run-preserved
run-preserved c =
    let passes : has c.args.class c.in-Some.c ≡ true = search rules in (
      IsUtf8-past_char c.run.rest.now c.in-Some.behind.now c.in-Some.c c.run.invariant.0 (search rules),
      passed_more (has c.args.class) c.args.text.now c.run.rest.now c.in-Some.behind.now c.in-Some.c c.run.invariant.1 (search rules) (search rules) passes,
    )
