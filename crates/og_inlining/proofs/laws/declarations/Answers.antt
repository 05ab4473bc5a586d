use Rattle.og_typing.specs.declared.meaning.Meaning.TheVariants as meanings
use Rattle.og_inlining.proofs.Declared.{nothing_known, known_with, enum_known, alias_known, function_kept}
use Rattle.og_inlining.proofs.laws.declarations.Goals as goal

pub returns-clause-nothing : goal.returns-clause-nothing
returns-clause-nothing c = nothing_known

pub returns-clause-enums : goal.returns-clause-enums
returns-clause-enums c = enum_known

pub returns-clause-aliases : goal.returns-clause-aliases
returns-clause-aliases c = alias_known

pub returns-clause-functions : goal.returns-clause-functions
returns-clause-functions c = function_kept

pub returns-clause-games : goal.returns-clause-games
returns-clause-games c name number declared bodies known = known_with declared bodies name (meanings.Game number) known tt
