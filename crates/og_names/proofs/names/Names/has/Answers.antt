use Rattle.std.proofs.Common.{◌∙◌, ap}
use Rattle.std.specs.Prelude.{is_some}
use Rattle.og_names.specs.Names.{lookup}
use Rattle.og_names.proofs.Held.{found}
use Rattle.og_names.proofs.names.Names.has.Goals as goal

pub returns : goal.returns
returns g c = c.contains_key.ensures ∙ ap is_some (found c.args.name.now c.self.inside.held.entries ∙ ap (lookup c.args.name.now) c.self.view_is)
