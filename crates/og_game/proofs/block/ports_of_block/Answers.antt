use Rattle.std.proofs.Common.{◌∙◌, length, ap, sym}
use Rattle.og_game.specs.Levels.{block_with}
use Rattle.og_game.specs.Wired.{ports_of, ports_if, is_block}
use Rattle.og_game.proofs.Forms.{block_node}
use Rattle.og_game.proofs.block.ports_of_block.Goals as goal

pub returns : goal.returns
returns c =
    let block = c.args.block.now in
    let holds = c.is_block-holds.ensures
    ∙ ap (λ v. is_block v (length block.lines) (block_with ports_of block)) c.in_ok-variables.ensures in
    c.ports_if.ensures ∙ (λ i. ports_if (holds i) (c.in_ok-ports.ensures i)) ∙ sym (block_node block)
