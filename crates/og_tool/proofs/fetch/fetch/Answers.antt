use Rattle.std.proofs.Common.{◌≡◌, ℕ, Result, Err, subst, ◌∙◌, ap}
use Rattle.std.specs.declared.alloc.Global.{Global}
use Rattle.std.specs.declared.vec.Vec.{Vec}
use Rattle.og_io.specs.declared.faults.LoadFault.{LoadFault}
use Rattle.og_io.specs.declared.faults.LoadFault.TheVariants.{Long}
use Rattle.og_io.specs.Outside.{CountsLoad, CountsFault, LoadsHeld}
use Rattle.og_texts.specs.Texts.{longest_text}
use Rattle.og_tool.proofs.HalvesMeet.{long_text}
use Rattle.og_tool.proofs.fetch.fetch.Goals as goal

pub returns-in-Err-Long-clause-fetches : goal.returns-in-Err-Long-clause-fetches
returns-in-Err-Long-clause-fetches g c =
    let before = g.F.Files.state c.args.files.now in
    let after = g.F.Files.state c.load.new.self in
    let is : c.load.result ≡ Err Long = c.in-Err-Long.is ∙ ap Err c.in-Err-Long.field-0-is in
    let counted = subst (λ (r : Result (Vec ℕ Global) LoadFault). CountsLoad c.args.file.now before after r) is c.load.ensures.counted in
    let fault = subst (λ (r : Result (Vec ℕ Global) LoadFault). CountsFault c.args.file.now before after r) is c.load.ensures.fault in
    let long = subst (λ (r : Result (Vec ℕ Global) LoadFault). LoadsHeld (before.held c.args.file.now) longest_text r) is c.load.ensures.bytes in
    (record { loads = counted; no_fault = fault }, long_text (before.held c.args.file.now) longest_text long)
