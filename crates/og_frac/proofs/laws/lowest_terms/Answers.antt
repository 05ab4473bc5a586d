use Rattle.std.proofs.Common.{refl, subst}
use Rattle.og_frac.specs.Fraction.{Fraction, SameNumber}
use Rattle.og_frac.proofs.LowestTerms.{in_lowest_terms_is}
use Rattle.og_frac.proofs.Rationals.{SameNumber-in_lowest_terms, same_from_SameNumber, in_lowest_terms_same}
use Rattle.og_frac.proofs.laws.lowest_terms.Goals as goal

pub returns-clause-lowest : goal.returns-clause-lowest
returns-clause-lowest c = in_lowest_terms_is

pub returns-clause-same : goal.returns-clause-same
returns-clause-same c = SameNumber-in_lowest_terms

pub returns-clause-one_form : goal.returns-clause-one_form
returns-clause-one_form c = λ a b p q. (λ e. let F : Fraction → Type 0 = λ x. SameNumber a x in subst F e refl, same_from_SameNumber a b p q)

pub returns-clause-by_number : goal.returns-clause-by_number
returns-clause-by_number c = in_lowest_terms_same
