use Rattle.std.proofs.Common.{rules}
use Rattle.og_grammar.specs.Reading.{read}
use Rattle.og_language.specs.Language.{in_room}
use Rattle.og_language.specs.Grammar.{some_results, result}
use Rattle.og_terms.proofs.inner.Inner.some_results.Goals as goal

pub returns : goal.returns
unfolding some_results
returns g c = c.separated.ensures (read (in_room c.args.self.now.room) result) (λ alloc old new r is. search rules)
