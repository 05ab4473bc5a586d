use Rattle.std.proofs.Common.{◌∙◌, ◌&&◌, map, ap}
use Rattle.std.specs.List.{list_all}
use Rattle.og_game.specs.declared.scope.Stand.TheVariants.{Before}
use Rattle.og_game.specs.Levels.{line_with}
use Rattle.og_game.specs.Scopes.{is_result, whence, seen}
use Rattle.og_game.specs.Wired.{ports_of, are_lines}
use Rattle.og_game.proofs.block.is_block.Goals as goal

pub returns : goal.returns
returns c =
    let variables = c.args.variables.now in
    let block = c.args.block.now in
    let lines = c.are_lines-lines.ensures
    ∙ ap (λ n. are_lines variables 0 n (map (line_with ports_of) block.lines)) c.len-2.ensures in
    let forwards = c.are_results-forwards.ensures
    ∙ ap (λ n. list_all (is_result (seen variables (whence (Before n)))) block.outputs) c.len.ensures in
    (λ i. ((c.are_wires-inputs.ensures i && c.are_wires-returns.ensures i) && lines i)
    && (forwards i && c.are_results-backwards.ensures i))
