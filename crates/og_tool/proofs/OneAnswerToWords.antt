-- The words have at most one answer between two states of the files.
use Rattle.std.proofs.Common.{◌≡◌, ◌∙◌, ℕ, List, [], ◌∷◌, Option, Some, None, cond, refl, sym, ap, arith, subst}
use Rattle.std.specs.Prelude.{IsSome}
use Rattle.std.proofs.Common.{inl, inr}
use Rattle.std.proofs.lemmas.Slice.Eq.{bytes_eq-Decides}
use Rattle.og_io.specs.NameLists.{times}
use Rattle.og_io.specs.Outside.{FilesState, GrowsBy, IsUnmoved}
use Rattle.og_tool.specs.declared.answer.Answer.{Answer}
use Rattle.og_wires.specs.Sites.{Blocks}
use Rattle.og_tool.specs.Command.{Command}
use Rattle.og_tool.specs.Held.{MayHold}
use Rattle.og_tool.specs.Answer.{Answers, RefusesGame, AcceptsGame}
use Rattle.og_tool.specs.Ran.{AnswersWords, TellsTexts}
use Rattle.og_tool.proofs.OneAnswer.{same_refusal}

-- a name stands once in the list of itself
once : (name : List ℕ) → times (name ∷ []) name ≡ 1
once name = omega (arith, ap {B = ℕ} (λ b. cond b 1 0) ((bytes_eq-Decides name name).1 refl))

-- a count that rose for a name didn't stay
rose_or_stayed : (name : List ℕ) (before after : List ℕ → ℕ) → GrowsBy (name ∷ []) before after → IsUnmoved before after → ⊥
rose_or_stayed name before after rose stayed = absurd (omega (arith, rose name, stayed name, once name))

-- a count that rose for one name didn't rise for a second too
one_or_two : (first second : List ℕ) (before after : List ℕ → ℕ) → GrowsBy (first ∷ []) before after → GrowsBy (first ∷ second ∷ []) before after → ⊥
one_or_two first second before after one two = absurd (omega (arith, one second, two second, once second))

-- a text that is told is the one that is held
told_text : (held : Option (List ℕ)) (one other : List ℕ) → IsSome held → MayHold held one → MayHold held other → one ≡ other
told_text (Some told) one other is p q = p ∙ sym q
told_text None one other is p q = cc

module _ (blocks : Blocks) (one_answer : (game strategy : List ℕ) (one other : Answer) → Answers blocks game strategy one → Answers blocks game strategy other → one ≡ other)
    (command : Command) (before after : FilesState) (one other : Answer) where
  same_texts : (game strategy other_game other_strategy : List ℕ) → game ≡ other_game → strategy ≡ other_strategy
      → AcceptsGame blocks game strategy one → AcceptsGame blocks other_game other_strategy other → one ≡ other
  same_texts game strategy other_game other_strategy same_game same_strategy a b =
      one_answer game strategy one other (inr a)
      (inr (subst (λ (text : List ℕ). AcceptsGame blocks game text other) (sym same_strategy)
      (subst (λ (text : List ℕ). AcceptsGame blocks text other_strategy other) (sym same_game) b)))

  pub one_to_command : TellsTexts (Some command) before → AnswersWords blocks (Some command) before after one
      → AnswersWords blocks (Some command) before after other → one ≡ other
  one_to_command told (inl a) (inl b) = same_refusal _ _ one other a.refusal b.refusal
  one_to_command told (inl a) (inr (inl b)) = absurd (rose_or_stayed command.game before.faults after.faults a.fails.one_fault b.reads.no_fault)
  one_to_command told (inl a) (inr (inr (inl b))) = absurd (one_or_two command.game command.strategy before.loads after.loads a.fails.loads b.fails.loads)
  one_to_command told (inl a) (inr (inr (inr b))) = absurd (one_or_two command.game command.strategy before.loads after.loads a.fails.loads b.reads.loads)
  one_to_command told (inr (inl a)) (inl b) = absurd (rose_or_stayed command.game before.faults after.faults b.fails.one_fault a.reads.no_fault)
  one_to_command told (inr (inl a)) (inr (inl b)) =
      let same = told_text (before.held command.game) a.game b.game told.0 a.game_held b.game_held in
      one_answer a.game [] one other (inl a.refuses) (inl (subst (λ (text : List ℕ). RefusesGame blocks text other) (sym same) b.refuses))
  one_to_command told (inr (inl a)) (inr (inr (inl b))) = absurd (one_or_two command.game command.strategy before.loads after.loads a.reads.loads b.fails.loads)
  one_to_command told (inr (inl a)) (inr (inr (inr b))) = absurd (one_or_two command.game command.strategy before.loads after.loads a.reads.loads b.reads.loads)
  one_to_command told (inr (inr (inl a))) (inl b) = absurd (one_or_two command.game command.strategy before.loads after.loads b.fails.loads a.fails.loads)
  one_to_command told (inr (inr (inl a))) (inr (inl b)) = absurd (one_or_two command.game command.strategy before.loads after.loads b.reads.loads a.fails.loads)
  one_to_command told (inr (inr (inl a))) (inr (inr (inl b))) = same_refusal _ _ one other a.refusal b.refusal
  one_to_command told (inr (inr (inl a))) (inr (inr (inr b))) = absurd (rose_or_stayed command.strategy before.faults after.faults a.fails.one_fault b.reads.no_fault)
  one_to_command told (inr (inr (inr a))) (inl b) = absurd (one_or_two command.game command.strategy before.loads after.loads b.fails.loads a.reads.loads)
  one_to_command told (inr (inr (inr a))) (inr (inl b)) = absurd (one_or_two command.game command.strategy before.loads after.loads b.reads.loads a.reads.loads)
  one_to_command told (inr (inr (inr a))) (inr (inr (inl b))) = absurd (rose_or_stayed command.strategy before.faults after.faults b.fails.one_fault a.reads.no_fault)
  one_to_command told (inr (inr (inr a))) (inr (inr (inr b))) =
      same_texts a.game a.strategy b.game b.strategy
      (told_text (before.held command.game) a.game b.game told.0 a.game_held b.game_held)
      (told_text (before.held command.strategy) a.strategy b.strategy told.1 a.strategy_held b.strategy_held)
      a.answers b.answers

pub one_to_words : (blocks : Blocks) → ((game strategy : List ℕ) (one other : Answer) → Answers blocks game strategy one → Answers blocks game strategy other → one ≡ other)
    → (words : Option Command) (before after : FilesState) (one other : Answer) → TellsTexts words before
    → AnswersWords blocks words before after one → AnswersWords blocks words before after other → one ≡ other
one_to_words blocks one_answer None before after one other told a b = same_refusal _ _ one other a.refusal b.refusal
one_to_words blocks one_answer (Some command) before after one other told a b = one_to_command blocks one_answer command before after one other told a b
