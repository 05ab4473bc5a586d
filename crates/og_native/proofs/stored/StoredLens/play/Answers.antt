use Rattle.std.proofs.Common.{refl}
use Rattle.og_native.proofs.LawfulLaws.{law_answers}
use Rattle.og_native.proofs.stored.StoredLens.play.Goals as goal

pub returns-clause-law : goal.returns-clause-law
returns-clause-law g c = law_answers _ _ _ c.args.inputs.now c.requires c.ask.result (record {
  alloc = c.args.alloc;
  shown = c.args.inputs;
  shows = refl;
  met = c.ask.ensures;
})
