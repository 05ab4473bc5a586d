use Rattle.std.proofs.Common.{refl}
use Rattle.og_native.proofs.LawfulLaws.{law_answers}
use Rattle.og_native.proofs.stored.StoredLens.pay.Goals as goal

pub returns-clause-law : goal.returns-clause-law
returns-clause-law g c =
    law_answers _ _ _ (c.args.inputs.now, c.args.returns.now) c.requires c.ask_back.result (record {
      alloc = c.args.alloc;
      shown = c.args.inputs;
      back = c.args.returns;
      shows = refl;
      shows_back = refl;
      met = c.ask_back.ensures;
    })
