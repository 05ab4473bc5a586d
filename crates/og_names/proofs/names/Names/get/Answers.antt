use Rattle.std.proofs.Common.{◌∙◌, ap}
use Rattle.og_names.specs.Names.{lookup}
use Rattle.og_names.proofs.Held.{found}
use Rattle.og_names.proofs.names.Names.get.Goals as goal

pub returns : goal.returns
returns g c = c.get.ensures.value ∙ found c.args.name.now c.self.inside.held.entries ∙ ap (lookup c.args.name.now) c.self.view_is
