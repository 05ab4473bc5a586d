use Rattle.std.proofs.Common.{Ok}
use Rattle.og_texts.specs.Texts.{ReadsProgram}
use Rattle.og_wires.specs.Sites.{blocks_of}
use Rattle.og_tool.proofs.OneTree.{game_read}
use Rattle.og_tool.proofs.read.game_of.Goals as goal

pub returns-in-Ok : goal.returns-in-Ok
returns-in-Ok g c =
    let read : ReadsProgram c.args.bytes.now (Ok c.in_ok-read.read) = c.in_ok-read.ensures.reads in
    game_read c.one_lexing.ensures c.args.bytes.now (blocks_of c.args.library.now.blocks.items) c.in_ok-read.read.tokens read.1 c.in_ok-read.read.tree read.2
    c.in_ok-wired.ensures c.in_ok-read.read.text.now c.as_slice.result.now read.0 c.as_slice.ensures c.in-Ok.found c.in-Ok.ensures
