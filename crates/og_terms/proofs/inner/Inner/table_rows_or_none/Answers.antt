use Rattle.std.proofs.Common.{rules}
use Rattle.og_grammar.specs.Reading.{read}
use Rattle.og_language.specs.Language.{in_room}
use Rattle.og_language.specs.Grammar.{table_rows_or_none, table_row, table_key}
use Rattle.og_terms.proofs.inner.Inner.table_rows_or_none.Goals as goal

pub returns : goal.returns
unfolding table_rows_or_none table_row table_key
returns g c = c.many.ensures (read (in_room c.args.self.now.room) table_row) (λ alloc old new r is. search rules)
