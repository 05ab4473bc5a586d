use Rattle.std.proofs.Common.{ap, sym, ◌∙◌}
use Rattle.std.specs.Prelude.{option_and_then}
use Rattle.std.specs.Option.{option_copied}
use Rattle.og_native.specs.Ports.{are_both}
use Rattle.og_native.specs.Block.{backward_of}
use Rattle.og_native.proofs.BlockLaws.{backward_nowhere}
use Rattle.og_native.proofs.blocks.LibraryBlocks.pay.Goals as goal

pub returns-else-takes_back : goal.returns-else-takes_back
returns-else-takes_back g c =
    let there = sym c.block.ensures ∙ ap option_copied c.in-Some.is in
    let off = ap (λ ports. are_both ports (c.args.inputs.now, c.args.returns.now)) (sym c.ports.ensures.same)
    ∙ sym c.if-takes_back.ensures in
    ap (option_and_then (λ b. backward_of b c.args.inputs.now c.args.returns.now)) there
    ∙ backward_nowhere c.in-Some.block.now c.args.inputs.now c.args.returns.now off
