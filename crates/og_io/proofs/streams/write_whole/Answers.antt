use Rattle.std.proofs.Common.{◌≡◌, ℕ, ◌-◌, List, length, take, drop, arith, take-add, length-drop}
use Rattle.std.proofs.lemmas.List.{take_all}
use Rattle.std.proofs.KnownBytes.{Appends-nil, Appends-trans}
use Rattle.og_io.proofs.streams.write_whole.Goals as goal

-- a piece to the end of the bytes
piece : (bytes : List ℕ) (start : ℕ) → take (length bytes - start) (drop start bytes) ≡ drop start bytes
piece bytes start = take_all (length bytes - start) (drop start bytes) (omega (arith, length-drop start bytes))

pub pieces-init : goal.pieces-init
pieces-init g c = (omega arith, Appends-nil _)

pub pieces-preserved : goal.pieces-preserved
pieces-preserved g c =
    let so_far = c.pieces.invariant in
    let all = c.args.bytes.now in
    let taken = c.pieces.taken in
    let more = rw (piece all taken) at c.in-Some.ensures in
    rw (take-add taken c.in-Some.count all)
    (omega (arith, so_far.0, more.0, length-drop taken all), Appends-trans _ _ _ _ _ so_far.1 more.1)
