use Rattle.std.specs.Prelude.{encode_utf8_all}
use Rattle.std.specs.Str.{chars}
use Rattle.og_lex.specs.Characters.{has, run}
use Rattle.og_lex.proofs.TextCuts.{seam_boundary}
use Rattle.og_lex.proofs.front.cut.Goals as goal

pub split_at-requires : goal.split_at-requires
split_at-requires c = seam_boundary c.args.text.now (encode_utf8_all (run (has c.args.class) (chars c.args.text.now))) c.after-rest.result.now c.after-rest.ensures.whole c.after-rest.utf8
