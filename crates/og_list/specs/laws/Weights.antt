-- The largest measure among the parts of a value, where each part's measure is one more. A type that
-- reaches itself through lists and boxes, and is seen through a model, shows by it that its size falls
-- from a value to its parts.
use mathlib.Core.Former.{Former, Count, none_left, one_more, Row, children}
use Rattle.std.proofs.Common.{ℕ, ◌+◌, ◌≤◌, arith}
use denote.Param.Nested.{deepest}
use denote.Param.Weighed.{Weighed, weight_is}

pub deepest_more : {X : Type 0} (μ : X → ℕ) (n : Count) (v : Row X n) → deepest (λ x. μ x + 1) n v ≤ deepest μ n v + 1
deepest_more μ none_left v = omega arith
deepest_more μ (one_more n) v = omega (arith, deepest_more μ n v.1)

pub weight_more : {f : Former {0}} (w : Weighed f) {X : Type 0} (μ : X → ℕ) (x : f.Of X)
    → w.weight X (λ y. μ y + 1) x ≤ w.weight X μ x + 1
weight_more {f} w {X} μ x =
    rw (weight_is f w (λ y. μ y + 1) x, weight_is f w μ x) (deepest_more μ _ (children f X x))
