use Rattle.og_lex.proofs.Outcomes.{exact_from, lexed_exact}
use Rattle.og_lex.proofs.Placed.{order_from, in_turn_from, each_from, few_from}
use Rattle.std.proofs.Common.{length}
use Rattle.og_lex.proofs.lexer.lex.Goals as goal

pub returns-clause-exact : goal.returns-clause-exact
returns-clause-exact c = exact_from c.args.text.now c.read.result c.read.ensures

pub returns-clause-lexed : goal.returns-clause-lexed
returns-clause-lexed c = lexed_exact c.args.text.now c.read.result (exact_from c.args.text.now c.read.result c.read.ensures)

pub returns-clause-order : goal.returns-clause-order
returns-clause-order c = order_from c.args.text.now c.read.result c.utf8.text (lexed_exact c.args.text.now c.read.result (exact_from c.args.text.now c.read.result c.read.ensures))

pub returns-clause-in_turn : goal.returns-clause-in_turn
returns-clause-in_turn c = in_turn_from c.args.text.now c.read.result c.utf8.text (lexed_exact c.args.text.now c.read.result (exact_from c.args.text.now c.read.result c.read.ensures))

pub returns-clause-each : goal.returns-clause-each
returns-clause-each c = each_from c.args.text.now c.read.result (in_turn_from c.args.text.now c.read.result c.utf8.text (lexed_exact c.args.text.now c.read.result (exact_from c.args.text.now c.read.result c.read.ensures)))

pub returns-clause-few : goal.returns-clause-few
returns-clause-few c = few_from (length c.args.text.now) c.read.result (order_from c.args.text.now c.read.result c.utf8.text (lexed_exact c.args.text.now c.read.result (exact_from c.args.text.now c.read.result c.read.ensures)))
