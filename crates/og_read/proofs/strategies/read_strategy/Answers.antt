use Rattle.og_grammar.proofs.Alone.{spelled_to_end, unspelled_fault, unspelled_rest}
use Rattle.og_grammar.specs.Lexeme.{lexemes_of}
use Rattle.og_read.specs.Grammar.{strategy}
use Rattle.og_read.specs.laws.Fine.{strategy_fine}
use Rattle.og_read.proofs.strategies.read_strategy.Goals as goal

pub returns-then-is_done : goal.returns-then-is_done
returns-then-is_done c =
    let done = c.is_done.ensures.0 c.if-is_done.true in
    spelled_to_end 0 strategy (lexemes_of c.args.text.now c.args.tokens.now) c.in-Ok.sections (rw (c.new-rest.ensures, done) at c.in-Ok.ensures)

pub returns-else-is_done : goal.returns-else-is_done
returns-else-is_done c =
    unspelled_rest 0 strategy strategy_fine (lexemes_of c.args.text.now c.args.tokens.now) c.strategy.new.tokens c.in-Ok.sections (rw c.new-rest.ensures at c.in-Ok.ensures)
    (λ none. let done = c.is_done.ensures.1 none in let left = c.if-is_done.false in cc)

pub returns-in-Err-Syntax : goal.returns-in-Err-Syntax
returns-in-Err-Syntax c =
    unspelled_fault 0 strategy strategy_fine (lexemes_of c.args.text.now c.args.tokens.now) _ (rw (c.in-Err-Syntax.field-0-is, c.new-rest.ensures) at c.in-Err-Syntax.ensures)
