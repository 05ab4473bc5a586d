use Rattle.std.proofs.Common.{◌≡◌, rules, sym, subst, ◌∙◌}
use Rattle.og_frac.specs.Fraction.{IsInLowestTerms, order}
use Rattle.og_frac.proofs.TotalOrder.{total_order_is}
use Rattle.og_frac.proofs.frac.FracOrd.cmp.Goals as goal

pub returns-clause-total : goal.returns-clause-total
returns-clause-total c =
    let value : c.cmp.result ≡ order c.args.self.now c.args.other.now = unfold order in search rules in
    let first = subst IsInLowestTerms c.self.view_is c.self.invariant.lowest in
    let second = subst IsInLowestTerms c.other.view_is c.other.invariant.lowest in
    value ∙ sym (total_order_is c.args.self.now c.args.other.now first second)
