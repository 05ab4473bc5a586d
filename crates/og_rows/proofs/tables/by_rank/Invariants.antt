use Rattle.std.proofs.Common.{◌≡◌, ◌-◌, []}
use Rattle.std.specs.List.{range_with_len}
use Rattle.og_inlining.specs.Steps.{each_of}
use Rattle.og_rows.specs.Rows.{row_of, weighed_if}
use Rattle.og_rows.proofs.tables.by_rank.Given as goal

abbrev pub invariant-observed : goal.invariant-observed
invariant-observed l =
    each_of (λ seen. weighed_if l.count (row_of l.rows seen)) l.all (range_with_len l.seen (l.observed - l.seen))
    ≡ each_of (λ seen. weighed_if l.count (row_of l.rows seen)) [] (range_with_len 0 l.observed)
