use Rattle.og_frac.proofs.Differences.{from_zero_fits, difference_of_wholes, sum_of_wholes, product_of_wholes}
use Rattle.og_frac.proofs.laws.differences.Goals as goal

pub returns-clause-from_zero : goal.returns-clause-from_zero
returns-clause-from_zero c = from_zero_fits

pub returns-clause-wholes : goal.returns-clause-wholes
returns-clause-wholes c = difference_of_wholes

pub returns-clause-whole_sums : goal.returns-clause-whole_sums
returns-clause-whole_sums c = sum_of_wholes

pub returns-clause-whole_products : goal.returns-clause-whole_products
returns-clause-whole_products c = product_of_wholes
