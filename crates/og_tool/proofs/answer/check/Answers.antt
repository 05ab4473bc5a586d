use Rattle.std.proofs.Common.{subst}
use Rattle.og_tool.specs.declared.answer.GameStep.{GameStep}
use Rattle.og_tool.specs.Halves.{StepsToGame}
use Rattle.og_wires.specs.Sites.{blocks_of}
use Rattle.og_tool.proofs.HalvesMeet.{game_refused, game_accepted}
use Rattle.og_tool.proofs.answer.check.Goals as goal

pub returns-in_ok-step_to_strategy-in-Accepted-clause-answers : goal.returns-in_ok-step_to_strategy-in-Accepted-clause-answers
returns-in_ok-step_to_strategy-in-Accepted-clause-answers g c =
    game_accepted (blocks_of c.args.library.now.blocks.items) (record { game = c.args.game.now; strategy = c.args.strategy.now }) (g.F.Files.state c.args.files.now)
    (g.F.Files.state c.step_to_game.new.files) (g.F.Files.state c.step_to_strategy.new.files)
    c.in_ok-step_to_strategy-in-Accepted.field-0 c.in-Accepted.tree c.step_to_game.ensures.only.held
    (subst (λ (s : GameStep). StepsToGame (blocks_of c.args.library.now.blocks.items) c.args.game.now (g.F.Files.state c.args.files.now) (g.F.Files.state c.step_to_game.new.files) s)
    c.in-Accepted.is c.in_ok-tree.ensures.steps)
    c.in_ok-step_to_strategy-in-Accepted.ensures.steps

pub returns-in-Refused-clause-answers : goal.returns-in-Refused-clause-answers
returns-in-Refused-clause-answers g c =
    game_refused (blocks_of c.args.library.now.blocks.items) (record { game = c.args.game.now; strategy = c.args.strategy.now }) (g.F.Files.state c.args.files.now)
    (g.F.Files.state c.step_to_game.new.files) (g.F.Files.state c.step_to_game.new.files) c.in-Refused.answer
    (subst (λ (s : GameStep). StepsToGame (blocks_of c.args.library.now.blocks.items) c.args.game.now (g.F.Files.state c.args.files.now) (g.F.Files.state c.step_to_game.new.files) s)
    c.in-Refused.is c.in_ok-tree.ensures.steps)
