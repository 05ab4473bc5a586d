-- Expressions with their types, spelled again.
use Rattle.std.proofs.Common.{◌++◌, append_assoc, sym}
use Rattle.std.specs.List.{AllZip}
use Rattle.og_lex.specs.declared.token.Mark.TheVariants as marks
use Rattle.og_grammar.specs.Rule.{Meaning, seq}
use Rattle.og_grammar.specs.Combinators as rules
use Rattle.og_language.specs.Symbols.{symbols}
use Rattle.og_language.specs.Grammar as g
use Rattle.og_canonical.specs.Tokens as c
use Rattle.og_canonical.specs.Types.{ty_text}
use Rattle.og_canonical.specs.Expressions.{expr_text, result_text, results_text}
use Rattle.og_reread.proofs.Again.{Again, a_seq, a_map}
use Rattle.og_reread.proofs.Lists.{a_behind_mark, a_commas_or_none}
use Rattle.og_reread.proofs.Sames.{SameTy, SameExpr, SameResult}

module _ (m : Meaning symbols) (expr : Again m g.expr expr_text SameExpr) (types : Again m g.ty ty_text SameTy) where
  pub a_result : Again m g.result result_text SameResult
  unfolding g.result
  a_result =
      a_map m (λ v. record { expr = v.0; ty = v.1 }) (seq g.expr (rules.behind (rules.mark marks.Colon) g.ty)) (λ v. expr_text v.0 ++ (c.mark marks.Colon ++ ty_text v.1))
      (λ v w. SameExpr v.0 w.0 × SameTy v.1 w.1) result_text SameResult
      (λ v. sym (append_assoc (expr_text v.0) (c.mark marks.Colon) (ty_text v.1))) (λ v w s i. record { expr = s.0 i; ty = s.1 i })
      (a_seq m g.expr (rules.behind (rules.mark marks.Colon) g.ty) expr_text (λ t. c.mark marks.Colon ++ ty_text t) SameExpr SameTy expr
      (a_behind_mark m marks.Colon g.ty ty_text SameTy types))

  pub a_results : Again m g.results results_text (AllZip SameResult)
  unfolding g.results
  a_results = a_commas_or_none m g.result result_text SameResult a_result
