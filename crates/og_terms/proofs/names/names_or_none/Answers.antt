use Rattle.og_grammar.specs.Reading.{read}
use Rattle.og_language.specs.Language.{in_room}
use Rattle.og_language.specs.Grammar.{names_or_none, name_tree, variable}
use Rattle.og_terms.proofs.names.names_or_none.Goals as goal

pub returns : goal.returns
unfolding names_or_none name_tree variable
returns c = c.commas_or_none.ensures (read (in_room c.args.room) name_tree) (λ alloc old new r is. is.1)
