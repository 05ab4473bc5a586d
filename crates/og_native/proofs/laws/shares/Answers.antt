use Rattle.og_native.proofs.Shares.{shares_add_up}
use Rattle.og_native.proofs.laws.shares.Goals as goal

pub returns : goal.returns
returns c = shares_add_up
