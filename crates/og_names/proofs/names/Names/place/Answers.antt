use Rattle.std.proofs.Common.{◌∙◌, ap}
use Rattle.og_names.specs.Names.{place}
use Rattle.og_names.proofs.Held.{placed}
use Rattle.og_names.proofs.names.Names.place.Goals as goal

pub returns : goal.returns
returns g c =
    c.get_index_of.ensures.index ∙ placed c.args.name.now c.self.inside.held.entries
    ∙ ap (place c.args.name.now) c.self.view_is
