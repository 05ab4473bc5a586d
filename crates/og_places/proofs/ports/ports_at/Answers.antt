use Rattle.og_wires.specs.Sites.{blocks_of}
use Rattle.og_places.proofs.There.{answered}
use Rattle.og_places.proofs.ports.ports_at.Goals as goal

pub returns-clause-there : goal.returns-clause-there
returns-clause-there g c =
    answered (blocks_of c.args.library.now.blocks.items) c.in_ok-blocks.blocks c.args.program.now c.args.place.now
    c.ports_named.result c.requires c.in_ok-blocks.ensures c.ports_named.ensures
