-- What games and declarations take of the rules below them.
use Rattle.std.specs.Prelude.{flat_map}
use Rattle.std.specs.List.{AllZip}
use Rattle.og_grammar.specs.Rule.{Meaning}
use Rattle.og_language.specs.Symbols.{symbols}
use Rattle.og_language.specs.Grammar as g
use Rattle.og_canonical.specs.Tokens as c
use Rattle.og_canonical.specs.Types.{ty_text, tys_text, params_text}
use Rattle.og_canonical.specs.Values.{value_text, values_text, key_text, row_text}
use Rattle.og_canonical.specs.Expressions.{expr_text}
use Rattle.og_reread.proofs.Again.{Again}
use Rattle.og_reread.proofs.Tokens.{Equal}
use Rattle.og_reread.proofs.Sames.{SameTy, SameName, SameParam, SameValue, SameRow, SameExpr}

pub record Parts (m : Meaning symbols) : Type 0 where
  pub ty : Again m g.ty ty_text SameTy
  pub type_list : Again m g.type_list tys_text (AllZip SameTy)
  pub variable : Again m g.variable c.spaced Equal
  pub name_tree : Again m g.name_tree (λ n. c.spaced n.name) SameName
  pub placed_name : Again m g.placed_name (λ n. c.spaced n.name) SameName
  pub params : Again m g.params params_text (AllZip SameParam)
  pub value : Again m g.value_part value_text SameValue
  pub key : Again m g.key (λ v. key_text v.1) (λ v w. AllZip SameValue v.1 w.1)
  pub some_values : Again m g.some_values values_text (AllZip SameValue)
  pub rows : Again m g.rows (λ rs. c.in_braces (flat_map row_text rs)) (AllZip SameRow)
  pub expr : Again m g.expr expr_text SameExpr
