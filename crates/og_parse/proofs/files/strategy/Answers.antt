use Rattle.og_grammar.specs.Reading.{read}
use Rattle.og_language.specs.Language.{in_room}
use Rattle.og_language.specs.Grammar.{strategy, section}
use Rattle.og_parse.proofs.files.strategy.Goals as goal

pub returns : goal.returns
unfolding strategy section
returns c = c.many.ensures (read (in_room c.args.room) section) (λ alloc old new r is. is.1)
