use Rattle.std.proofs.Common.{arith}
use Rattle.std.proofs.lemmas.Grind.{common_steps}
use Rattle.og_names.proofs.Held.{added}
use Rattle.og_names.proofs.names.Names.insert.Goals as goal

pub returns-in-Ok-clause-ok : goal.returns-in-Ok-clause-ok
returns-in-Ok-clause-ok g c =
    grind (arith, common_steps, added c.self.inside.held c.in_ok-key.key c.args.value)
