use Rattle.og_grammar.proofs.Repeating.{onto_none}
use Rattle.og_grammar.proofs.repeat.separated.Goals as goal

pub returns : goal.returns
returns g c = λ reading is.
    onto_none c.args.between reading c.args.tokens.now _ c.separated_onto.result c.new.result c.new.ensures (c.separated_onto.ensures reading is)
