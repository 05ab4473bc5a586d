use Rattle.std.proofs.Common.{length}
use Rattle.og_grammar.proofs.tokens.Tokens.+sees_any.Given as goal

abbrev pub decreases-sees_any : goal.decreases-sees_any
decreases-sees_any l = length l.terminals.now
