use Rattle.og_io.proofs.LoadsHeld.{read_limited}
use Rattle.og_io.proofs.streams.read_to_cap.Goals as goal

pub returns-in-Some : goal.returns-in-Some
returns-in-Some g c =
    let read = rw (c.take.ensures.limit, c.in-Some.ensures.1, c.take.ensures.inner, c.new-bytes.ensures.items)
    at c.read_to_end-read.ensures.bytes in
    read_limited (g.R.Read.remaining c.args.reader) c.args.cap c.read_to_end-read.result c.read_to_end-read.new.buf
    c.end_read.result read c.end_read.ensures
