use Rattle.std.proofs.Common.{◌∙◌, sym, ap, subst}
use Rattle.og_typing.specs.Checked.{Walks}
use Rattle.og_wires.specs.Sites.{site_of}
use Rattle.og_wires.specs.Games.{rule_walk}
use Rattle.og_wires.proofs.Walked.{rule_decision}
use Rattle.og_wires.proofs.games.walk_atom.Goals as goal

pub returns-in-Decision : goal.returns-in-Decision
returns-in-Decision c =
    subst (λ walk. Walks walk c.walk_decision.result)
    (sym (ap (λ g. rule_walk g (site_of c.args.site.now) c.args.level) c.in-Decision.is
    ∙ rule_decision (site_of c.args.site.now) c.args.level c.in-Decision.at c.in-Decision.agent c.in-Decision.observes
    c.in-Decision.action c.in-Decision.among))
    c.walk_decision.ensures
