use Rattle.std.proofs.Common.{◌∙◌, sym, ap}
use Rattle.std.specs.Option.{option_copied}
use Rattle.std.specs.Prelude.{bytes_eq}
use Rattle.og_io.proofs.Latest.{bytes_under_more, bytes_under_same}
use Rattle.og_io.proofs.mem_files.find.Goals as goal
use Rattle.og_io.proofs.mem_files.find.Goals.{then-eq, else-eq}

pub files-preserved : goal.files-preserved
files-preserved c = elim c.if-eq.branch [
  | then-eq w ↦ ap option_copied w.found-is
      ∙ sym (bytes_under_more c.args.files.now c.files.file-index c.file-item.result c.args.name.now c.files-test.true c.file-item.is
      (w.if-eq.ensures ∙ ap (λ n. bytes_eq n c.args.name.now) c.as_str.ensures))
  | else-eq w ↦ ap option_copied w.found-is ∙ c.files.invariant
      ∙ sym (bytes_under_same c.args.files.now c.files.file-index c.file-item.result c.args.name.now c.files-test.true c.file-item.is
      (w.if-eq.ensures ∙ ap (λ n. bytes_eq n c.args.name.now) c.as_str.ensures))
]
