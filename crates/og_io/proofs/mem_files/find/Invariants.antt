use Rattle.std.proofs.Common.{◌≡◌, take}
use Rattle.std.specs.Option.{option_copied}
use Rattle.og_io.specs.Fakes.{bytes_under}
use Rattle.og_io.proofs.mem_files.find.Given as goal

abbrev pub invariant-files : goal.invariant-files
invariant-files l = option_copied l.found ≡ bytes_under (take l.file-index l.files) l.name
