use Rattle.std.proofs.Common.{◌∙◌, subst, inl, inr}
use Rattle.og_texts.specs.declared.fault.TextFault.TheVariants as faults
use Rattle.og_tool.specs.declared.fetch.Fetched.{Fetched}
use Rattle.og_tool.specs.Fetching.{Fetches}
use Rattle.og_tool.proofs.LongTexts.{long_game}
use Rattle.og_tool.proofs.answer.step_to_game.Goals as goal

pub returns-in_ok-line-in-TooLong-clause-steps : goal.returns-in_ok-line-in-TooLong-clause-steps
returns-in_ok-line-in-TooLong-clause-steps g c =
    let fetched = subst (λ (f : Fetched). Fetches c.args.file.now (g.F.Files.state c.args.files.now) (g.F.Files.state c.fetch.new.files) f)
    c.in-TooLong.is c.in_ok-text.ensures.fetches in
    inr (record {
      reads = fetched.0;
      game = fetched.1.0;
      game_held = fetched.1.1;
      refuses = inl (record {
        fault = faults.TooLong;
        cause = fetched.1.2;
        refusal = record {
          status = c.in_ok-line-in-TooLong.ensures.ends;
          bytes = c.in_ok-line-in-TooLong.ensures.writes ∙ c.as_slice-long.ensures ∙ long_game fetched.1.0;
        };
      });
    })
