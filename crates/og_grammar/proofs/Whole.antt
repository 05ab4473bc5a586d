-- The laws of a rule that is fine.
use Rattle.std.proofs.Common.{◌≡◌, ℕ, true, false, List, [], ◌++◌, ◌⊎◌, Ok, Err, inl, inr, refl, sym, ◌∙◌, ap}
use Rattle.std.proofs.lemmas.List.{append-nil}
use Rattle.og_grammar.specs.Lexeme.{Lexeme}
use Rattle.og_grammar.specs.declared.terminal.Terminal.{Terminal}
use Rattle.og_grammar.specs.Rule.{Nonterminals, Rule, spells}
use Rattle.og_grammar.specs.Reading.{fine, first, more, sees_any, read}
use Rattle.og_grammar.specs.Levels.{Grammar, meaning, readers, IsFine}
use Rattle.og_grammar.specs.Laws.{IsSound, IsComplete, IsSingle, HasFronts}
use Rattle.og_grammar.proofs.TerminalSets.{sees_none}
use Rattle.og_grammar.proofs.Sound.{same_value, no_value, sound}
use Rattle.og_grammar.proofs.Complete.{complete}
use Rattle.og_grammar.proofs.Starts.{Starts, viable_starts}
use Rattle.og_grammar.proofs.Viable.{viable_nil, viable_spelled, viable_front}
use Rattle.og_grammar.proofs.EveryDepth.{unlimited, begins, right, whole, room_enough, right_in}

pub IsSound-rule : {N : Nonterminals} {A : Type 0} (g : Grammar N) → IsFine g → (rule : Rule N A) → IsSound g rule
IsSound-rule g e rule room ts rest a is = let r = sound (meaning g) (readers g room) (right_in g e room) rule ts a rest is in (r.front, r.cut, r.spelled)

complete_unlimited : {N : Nonterminals} {A : Type 0} (g : Grammar N) → IsFine g → (rule : Rule N A) → fine g.tables rule ≡ true → (front rest : List Lexeme) (a : A) → spells (meaning g) rule front a
    → sees_any (more g.tables rule) rest ≡ false → read (unlimited g) rule (front ++ rest) ≡ Ok (a, rest)
complete_unlimited g e rule f front rest a p s = complete (meaning g) (unlimited g) (begins g e) (whole g e) rule f front rest a p s

pub IsComplete-rule : {N : Nonterminals} {A : Type 0} (g : Grammar N) → IsFine g → (rule : Rule N A) → fine g.tables rule ≡ true → IsComplete g rule
IsComplete-rule g e rule f room front rest a less p s = room_enough g e rule room (front ++ rest) less ∙ complete_unlimited g e rule f front rest a p s

viable_first : (ks : List Terminal) (ts : List Lexeme) → Starts true ks ts → (ts ≡ []) ⊎ (sees_any ks ts ≡ true)
viable_first ks ts (inl p) = inl p.0
viable_first ks ts (inr seen) = inr (rw (append-nil ts) at (seen []))

pub HasFronts-rule : {N : Nonterminals} {A : Type 0} (g : Grammar N) → IsFine g → (rule : Rule N A) → HasFronts g rule
HasFronts-rule g e rule = record {
  empty = viable_nil (meaning g) (unlimited g) (begins g e) rule;
  whole = λ ts a p. viable_spelled (meaning g) (unlimited g) (begins g e) rule ts a p;
  fronts = λ front rest p. viable_front (meaning g) (unlimited g) (begins g e) rule (front ++ rest) front rest refl p;
  starts = λ ts p. viable_first (first g.tables rule) ts (viable_starts (meaning g) (unlimited g) (begins g e) rule ts p);
}

-- a whole list that is spelled is read to its end
pub read_to_end : {N : Nonterminals} {A : Type 0} (g : Grammar N) → IsFine g → (rule : Rule N A) → fine g.tables rule ≡ true → (ts : List Lexeme) (a : A) → spells (meaning g) rule ts a
    → read (unlimited g) rule ts ≡ Ok (a, [])
read_to_end g e rule f ts a p = ap (read (unlimited g) rule) (sym (append-nil ts)) ∙ complete_unlimited g e rule f ts [] a p (sees_none (more g.tables rule))

-- what is read to its end is spelled
pub spelled_to_end : {N : Nonterminals} {A : Type 0} (g : Grammar N) → IsFine g → (rule : Rule N A) (ts : List Lexeme) (a : A) → read (unlimited g) rule ts ≡ Ok (a, []) → spells (meaning g) rule ts a
spelled_to_end g e rule ts a is = let r = sound (meaning g) (unlimited g) (right g e) rule ts a [] is in rw (r.cut ∙ append-nil r.front) r.spelled

pub IsSingle-rule : {N : Nonterminals} {A : Type 0} (g : Grammar N) → IsFine g → (rule : Rule N A) → fine g.tables rule ≡ true → IsSingle g rule
IsSingle-rule g e rule f ts a b p q =
    (same_value (read (unlimited g) rule ts) a b [] [] (read_to_end g e rule f ts a p) (read_to_end g e rule f ts b q)).0

-- Where reading fails, or stops before the end, nothing is spelled.
pub unspelled_fault : {N : Nonterminals} {A : Type 0} (g : Grammar N) → IsFine g → (rule : Rule N A) → fine g.tables rule ≡ true → (ts : List Lexeme) (left : ℕ) → read (unlimited g) rule ts ≡ Err left
    → (a : A) → spells (meaning g) rule ts a → ⊥
unspelled_fault g e rule f ts left r a p = no_value (read (unlimited g) rule ts) left a [] r (read_to_end g e rule f ts a p)

pub unspelled_rest : {N : Nonterminals} {A : Type 0} (g : Grammar N) → IsFine g → (rule : Rule N A) → fine g.tables rule ≡ true → (ts rest : List Lexeme) (a : A)
    → read (unlimited g) rule ts ≡ Ok (a, rest) → (rest ≡ [] → ⊥) → (b : A) → spells (meaning g) rule ts b → ⊥
unspelled_rest g e rule f ts rest a r left b p =
    left (same_value (read (unlimited g) rule ts) a b rest [] r (read_to_end g e rule f ts b p)).1
