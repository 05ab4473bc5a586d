use Rattle.og_tool.specs.declared.status.Status.TheVariants.{Memory}
use Rattle.og.proofs.NothingRan.{nothing_ran}
use Rattle.og.proofs.told.run_told.Goals as goal

pub returns-in_default : goal.returns-in_default
returns-in_default g c = record { status = Memory; ran = nothing_ran _ _ _; code = c.exit_code_of.ensures }
