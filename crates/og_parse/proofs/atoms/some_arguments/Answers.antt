use Rattle.og_grammar.specs.Reading.{read}
use Rattle.og_language.specs.Language.{in_room}
use Rattle.og_language.specs.Grammar.{some_arguments, argument}
use Rattle.og_parse.proofs.atoms.some_arguments.Goals as goal

pub returns : goal.returns
unfolding some_arguments
returns c = c.separated.ensures (read (in_room c.args.room) argument) (λ alloc old new r is. is.1)
