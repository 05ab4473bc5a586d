use Rattle.std.proofs.Common.{rules}
use Rattle.og_grammar.specs.Reading.{read}
use Rattle.og_language.specs.Language.{in_room}
use Rattle.og_language.specs.Grammar.{declarations, decl, type_decl, fn_decl, game_decl}
use Rattle.og_parse.proofs.files.declarations.Goals as goal

pub returns : goal.returns
unfolding declarations decl type_decl fn_decl game_decl
returns c = c.many.ensures (read (in_room c.args.room) (decl c.args.branches)) (λ alloc old new r is. search rules)
