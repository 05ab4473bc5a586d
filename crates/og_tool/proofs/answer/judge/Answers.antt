use Rattle.std.proofs.Common.{◌≡◌, ◌∙◌, ap, List, true, false, subst, inl, inr}
use Rattle.std.specs.Prelude.{◌↔◌}
use Rattle.og_small.specs.declared.tree.Section.{Section}
use Rattle.og_small.specs.Rules.{fits}
use Rattle.og_small.specs.Accepted.{Fits}
use Rattle.og_small.specs.Meaning.{choices_of}
use Rattle.og_small.specs.Report.{report}
use Rattle.og_small.specs.Equilibrium.{IsEquilibrium}
use Rattle.og_tool.specs.declared.status.Status.TheVariants.{Done}
use Rattle.og_tool.specs.Answer.{verdict_of}
use Rattle.og_tool.specs.Texts.{IsStrategy, IsNoStrategy}
use Rattle.og_tool.proofs.answer.judge.Goals as goal

pub returns-in-Ok-Some : goal.returns-in-Ok-Some
returns-in-Ok-Some c =
    let is_strategy : IsStrategy c.args.text.now c.in-Ok-Some.sections = rw c.in-Ok-Some.field-0-is at c.in-Ok-Some.ensures in
    let refused : fits c.args.tree.now c.in-Ok-Some.sections ≡ false = cc (c.fits-suits.ensures, c.if-suits.false, c.as_slice.ensures) in
    inr (inl (record {
      file = is_strategy.file;
      is_file = is_strategy.is_file;
      cause = λ others other_is other_fits.
          let same : others ≡ c.in-Ok-Some.sections = c.one_small_strategy.ensures c.args.text.now others c.in-Ok-Some.sections other_is is_strategy in
          let suits : Fits c.args.tree.now c.in-Ok-Some.sections = subst (λ (s : List Section). Fits c.args.tree.now s) same other_fits in
          let fit : fits c.args.tree.now c.in-Ok-Some.sections ≡ true = (c.fitting_strategies.ensures c.args.tree.now c.in-Ok-Some.sections).1 suits in
          absurd (cc);
      refusal = record {
        status = c.in_ok-line-in-Ok-Some.ensures.ends;
        bytes = c.in_ok-line-in-Ok-Some.ensures.writes ∙ c.as_slice-unbuilt.ensures;
      };
    }))

pub returns-in-Ok-None : goal.returns-in-Ok-None
returns-in-Ok-None c =
    let none : IsNoStrategy c.args.text.now = rw c.in-Ok-None.field-0-is at c.in-Ok-None.ensures in
    inr (inl (record {
      file = none.file;
      is_file = none.is_file;
      cause = λ sections is _. none.none sections is;
      refusal = record {
        status = c.in_ok-line-in-Ok-None.ensures.ends;
        bytes = c.in_ok-line-in-Ok-None.ensures.writes ∙ c.as_slice-unbuilt.ensures;
      };
    }))

pub returns-then-suits : goal.returns-then-suits
returns-then-suits c =
    let is_strategy : IsStrategy c.args.text.now c.in-Ok-Some.sections = rw c.in-Ok-Some.field-0-is at c.in-Ok-Some.ensures in
    let suits : fits c.args.tree.now c.in-Ok-Some.sections ≡ true = cc (c.fits-suits.ensures, c.if-suits.true, c.as_slice.ensures) in
    let same : c.as_slice-then-suits.result.now ≡ c.in-Ok-Some.sections = c.as_slice-then-suits.ensures in
    inr (inr (record {
      sections = c.in-Ok-Some.sections;
      is_strategy = is_strategy;
      suits = (c.fitting_strategies.ensures c.args.tree.now c.in-Ok-Some.sections).0 suits;
      status = c.in_ok-reported-in-Ok-Some.ensures.ends ∙ ap (verdict_of c.args.tree.now) same;
      equilibrium = subst (λ (s : List Section). (c.in_ok-reported-in-Ok-Some.field-0.status ≡ Done) ↔ IsEquilibrium c.args.tree.now (choices_of s)) same
          c.in_ok-reported-in-Ok-Some.ensures.equilibrium;
      bytes = c.in_ok-reported-in-Ok-Some.ensures.writes ∙ ap (λ s. report c.args.tree.now (choices_of s)) same;
    }))
