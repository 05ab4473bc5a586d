use Rattle.std.proofs.Common.{sym, ◌∙◌}
use Rattle.og_grammar.proofs.Repeating.{some_by, none_by}
use Rattle.og_grammar.proofs.repeat.commas_or_none.Goals as goal

pub returns-then-sees_any : goal.returns-then-sees_any
returns-then-sees_any g c = λ reading is.
    some_by c.args.terminals.now reading c.args.tokens.now _ c.separated.result (sym c.sees_any.ensures ∙ c.if-sees_any.true) (c.separated.ensures reading is)

pub returns-else-sees_any : goal.returns-else-sees_any
returns-else-sees_any g c = λ reading is.
    none_by c.args.terminals.now reading c.args.tokens.now _ (sym c.sees_any.ensures ∙ c.if-sees_any.false) c.new.ensures
