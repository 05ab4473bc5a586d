-- Tokens in order stand within the text.
use Rattle.std.proofs.Common.{ℕ, ◌<◌, ◌≤◌, List, [], ◌∷◌, length, drop, get_or, arith, subst, drop-cons}
use Rattle.og_lex.specs.declared.token.Token.{Token}
use Rattle.og_lex.specs.Spelling.{AreInOrder}
use Prim.Native.Nat.{suc}

pub order_within : (place end : ℕ) (ts : List Token) → AreInOrder place end ts → place ≤ end
order_within place end [] within = within
order_within place end (t ∷ ts) order = omega (arith, order.0, order.1, order_within t.end end ts order.2)

module _ (place end : ℕ) (ts : List Token) (i : ℕ) (d : Token) (within : i < length ts) (order : AreInOrder place end (drop i ts)) where
  at : AreInOrder place end (get_or ts i d ∷ drop (suc i) ts)
  at = subst (λ (rest : List Token). AreInOrder place end rest) (drop-cons ts i d within) order

  pub gap_starts : place ≤ (get_or ts i d).start
  gap_starts = at.0

  pub gap_ends : (get_or ts i d).start ≤ end
  gap_ends = omega (arith, at.1, order_within (get_or ts i d).end end (drop (suc i) ts) at.2)
