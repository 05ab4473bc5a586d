-- Denominators in lowest terms, and weights that add up to a scale, one after another.
use Rattle.std.proofs.Common.{◌≡◌, ◌∙◌, ℕ, ◌+◌, ◌-◌, ◌/◌, ◌<◌, ◌≤◌, arith, false, length, drop, get_or, List, ap, sym}
use Rattle.std.specs.Prelude.{◌==◌}
use Rattle.og_list.proofs.Drop.{drop_at}
use Rattle.og_frac.specs.Fraction.{greatest_common_divisor}
use Rattle.og_frac.proofs.Divisors.{quotient_positive, greatest_common_divisor_is, greatest_common_divisor_positive}
use Rattle.og_syntax.specs.declared.values.EntryTree.{EntryTree}
use Rattle.og_wires.specs.Rows.{parts_of, all_parts}

pub common_positive : (a b : ℕ) → 0 < b → 0 < greatest_common_divisor a b
common_positive = greatest_common_divisor_positive

pub lowest_positive : (num den : ℕ) → 0 < den → 0 < den / greatest_common_divisor num den
lowest_positive num den some =
    quotient_positive den (greatest_common_divisor num den) some (greatest_common_divisor_is num den).1

left_of : (w s left : ℕ) → w ≤ left → (w + s == left) ≡ (s == left - w)
left_of w s left h = grind (arith)

not_left : (w s left : ℕ) → left < w → (w + s == left) ≡ false
not_left w s left h = grind (arith)

pub parts_next : (scale left : ℕ) (entries : List EntryTree) (i : ℕ) (x : EntryTree) → i < length entries
    → x ≡ get_or entries i x → parts_of scale x ≤ left
    → (all_parts scale (drop (i + 1) entries) == left - parts_of scale x) ≡ (all_parts scale (drop i entries) == left)
parts_next scale left entries i x lt is fits =
    sym (ap (λ es. all_parts scale es == left) (drop_at entries i x lt is)
    ∙ left_of (parts_of scale x) (all_parts scale (drop (i + 1) entries)) left fits)

pub parts_more : (scale left : ℕ) (entries : List EntryTree) (i : ℕ) (x : EntryTree) → i < length entries
    → x ≡ get_or entries i x → left < parts_of scale x → false ≡ (all_parts scale (drop i entries) == left)
parts_more scale left entries i x lt is more =
    sym (ap (λ es. all_parts scale es == left) (drop_at entries i x lt is)
    ∙ not_left (parts_of scale x) (all_parts scale (drop (i + 1) entries)) left more)
