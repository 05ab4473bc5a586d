use Rattle.std.proofs.Common.{rules}
use Rattle.og_grammar.specs.Reading.{read}
use Rattle.og_language.specs.Language.{in_room}
use Rattle.og_language.specs.Grammar.{line_list, line, exprs_field, names_field, operation}
use Rattle.og_parse.proofs.inner.Inner.line_list.Goals as goal

pub returns : goal.returns
unfolding line_list line exprs_field names_field operation
returns g c = c.many.ensures (read (in_room c.args.self.now.room) (line c.args.self.now.branches)) (λ alloc old new r is. search rules)
