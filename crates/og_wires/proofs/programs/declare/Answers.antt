use Rattle.std.proofs.Common.{sym, subst}
use Rattle.og_typing.specs.Checked.{Walks}
use Rattle.og_wires.specs.Programs.{game_declared, function_with_names, decl_walk}
use Rattle.og_wires.proofs.programs.declare.Goals as goal

pub returns-in-Fn : goal.returns-in-Fn
returns-in-Fn c =
    subst (λ decl. Walks (decl_walk c.args.blocks.now c.args.number c.args.known decl) c.declare_body.result) (sym c.in-Fn.is)
    (subst (λ name. Walks (function_with_names c.args.number c.in-Fn.at name c.args.known c.in-Fn.params c.in-Fn.answer
    c.in-Fn.body) c.declare_body.result) c.as_str-in-Fn.ensures c.declare_body.ensures)

pub returns-in-Game : goal.returns-in-Game
returns-in-Game c =
    subst (λ decl. Walks (decl_walk c.args.blocks.now c.args.number c.args.known decl) c.declare_game.result) (sym c.in-Game.is)
    (subst (λ name. Walks (game_declared c.args.blocks.now c.args.number c.in-Game.at name c.args.known c.in-Game.params
    c.in-Game.body) c.declare_game.result) c.as_str-in-Game.ensures c.declare_game.ensures)
