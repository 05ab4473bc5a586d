-- Texts in a row, nested to the right as rules write them, and to the left as canonical texts do.
use Rattle.std.proofs.Common.{◌≡◌, ◌∙◌, ℕ, List, ◌++◌, sym, ap, append_assoc}

pub join3 : (a b c : List ℕ) → a ++ (b ++ c) ≡ a ++ b ++ c
join3 a b c = sym (append_assoc a b c)

pub join4 : (a b c d : List ℕ) → a ++ (b ++ (c ++ d)) ≡ a ++ b ++ c ++ d
join4 a b c d = join3 a b (c ++ d) ∙ join3 (a ++ b) c d

pub join5 : (a b c d e : List ℕ) → a ++ (b ++ (c ++ (d ++ e))) ≡ a ++ b ++ c ++ d ++ e
join5 a b c d e = join3 a b (c ++ (d ++ e)) ∙ join4 (a ++ b) c d e

pub join6 : (a b c d e f : List ℕ) → a ++ (b ++ (c ++ (d ++ (e ++ f)))) ≡ a ++ b ++ c ++ d ++ e ++ f
join6 a b c d e f = join3 a b (c ++ (d ++ (e ++ f))) ∙ join5 (a ++ b) c d e f

-- a part behind a second text, between two others
pub join_inner : (a b c d : List ℕ) → a ++ ((b ++ c) ++ d) ≡ a ++ b ++ c ++ d
join_inner a b c d = ap (λ l. a ++ l) (append_assoc b c d) ∙ join4 a b c d
