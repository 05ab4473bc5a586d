use Rattle.og_native.specs.Ports.{are_inputs, are_both}
use Rattle.og_native.proofs.LawfulLaws.{law_is}
use Rattle.og_native.proofs.GivesLaws.{keeps, keeps_back, decides, decides_back}
use Rattle.og_native.proofs.stored.StoredLens.new.Goals as goal

pub invariant_of-result-clause-play_lawful : goal.invariant_of-result-clause-play_lawful
invariant_of-result-clause-play_lawful g c =
    ∣ (_, keeps (are_inputs c.args.ports) (g.L.Law.forward c.args._law) c.requires.play_tells) ∣₁

pub invariant_of-result-clause-play_decides : goal.invariant_of-result-clause-play_decides
invariant_of-result-clause-play_decides g c =
    decides (are_inputs c.args.ports) (g.L.Law.forward c.args._law) c.args.play.alloc c.requires.play_can_tell

pub invariant_of-result-clause-pay_lawful : goal.invariant_of-result-clause-pay_lawful
invariant_of-result-clause-pay_lawful g c =
    ∣ (_, keeps_back (are_both c.args.ports) (g.L.Law.backward c.args._law) c.requires.pay_tells) ∣₁

pub invariant_of-result-clause-pay_decides : goal.invariant_of-result-clause-pay_decides
invariant_of-result-clause-pay_decides g c =
    decides_back (are_both c.args.ports) (g.L.Law.backward c.args._law) c.args.pay.alloc c.requires.pay_can_tell

pub returns-clause-forward : goal.returns-clause-forward
returns-clause-forward g c = λ xs h. law_is _ _ _ _
    (keeps (are_inputs c.args.ports) (g.L.Law.forward c.args._law) c.requires.play_tells) xs h

pub returns-clause-backward : goal.returns-clause-backward
returns-clause-backward g c = λ xs rs h. law_is _ _ _ _
    (keeps_back (are_both c.args.ports) (g.L.Law.backward c.args._law) c.requires.pay_tells) (xs, rs) h
