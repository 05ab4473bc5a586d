use Rattle.std.proofs.Common.{ap, sym, ◌∙◌}
use Rattle.std.specs.Prelude.{option_and_then}
use Rattle.std.specs.Option.{option_copied}
use Rattle.og_native.specs.Ports.{are_inputs}
use Rattle.og_native.specs.Block.{forward_of}
use Rattle.og_native.proofs.BlockLaws.{forward_nowhere}
use Rattle.og_native.proofs.blocks.LibraryBlocks.play.Goals as goal

pub returns-else-takes : goal.returns-else-takes
returns-else-takes g c =
    let there = sym c.block.ensures ∙ ap option_copied c.in-Some.is in
    let off = ap (λ ports. are_inputs ports c.args.inputs.now) (sym c.ports.ensures.same) ∙ sym c.if-takes.ensures in
    ap (option_and_then (λ b. forward_of b c.args.inputs.now)) there
    ∙ forward_nowhere c.in-Some.block.now c.args.inputs.now off
