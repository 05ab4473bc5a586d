-- Two texts have at most one answer.
use Rattle.std.proofs.Common.{◌≡◌, ◌∙◌, ℕ, List, Result, Ok, Err, sym, ap, subst, inl, inr}
use Rattle.std.specs.Prelude.{codes}
use Rattle.og_syntax.specs.declared.declarations.Program.{Program}
use Rattle.og_syntax.specs.declared.strategies.StrategyFile.{StrategyFile}
use Rattle.og_texts.specs.declared.fault.TextFault.{TextFault}
use Rattle.og_texts.specs.Texts.{IsProgramOrFault, IsStrategyOrFault}
use Rattle.og_small.specs.declared.tree.SmallGame.{SmallGame}
use Rattle.og_small.specs.declared.tree.Section.{Section}
use Rattle.og_small.specs.Meaning.{choices_of}
use Rattle.og_small.specs.Report.{report}
use Rattle.og_tool.specs.declared.status.Status.{Status}
use Rattle.og_tool.specs.declared.status.Status.TheVariants as ends
use Rattle.og_tool.specs.declared.answer.Answer.{Answer}
use Rattle.og_typing.specs.declared.fault.WireFault.{WireFault}
use Rattle.og_wires.specs.declared.programs.Declarations.{Declarations}
use Rattle.og_wires.specs.Sites.{Blocks}
use Rattle.og_wires.specs.Programs.{IsWired, Breaks, program_walk}
use Rattle.og_tool.specs.Texts.{IsGame, IsStrategy}
use Rattle.og_tool.specs.Answer.{Answers, AnswersStrategy, IsRefusal, RefusesGame, AcceptsGame, Reports, fault_at, wire_fault_at, verdict_of}

same_answer : (one other : Answer) → one.status ≡ other.status → one.bytes ≡ other.bytes → one ≡ other
same_answer one other status bytes = λ i. record { status = status i; bytes = bytes i }

pub same_refusal : (ends : Status) (why : List ℕ) (one other : Answer) → IsRefusal ends why one → IsRefusal ends why other → one ≡ other
same_refusal ends why one other a b = same_answer one other (a.status ∙ sym b.status) (a.bytes ∙ sym b.bytes)

-- the fault of a text refuses it by one line
same_fault : (end : Status) (which text : List ℕ) (fault more : TextFault) (one other : Answer) → fault ≡ more
    → IsRefusal end (fault_at which text fault) one → IsRefusal end (fault_at which text more) other → one ≡ other
same_fault end which text fault more one other same a b =
    same_refusal end (fault_at which text fault) one other a
    (subst (λ (f : TextFault). IsRefusal end (fault_at which text f) other) (sym same) b)

module _ (same_game : (text : List ℕ) (one other : SmallGame) → IsGame text one → IsGame text other → one ≡ other)
    (same_strategy : (text : List ℕ) (one other : List Section) → IsStrategy text one → IsStrategy text other → one ≡ other)
    (one_program : (text : List ℕ) (one other : Result Program TextFault) → IsProgramOrFault text one → IsProgramOrFault text other → one ≡ other)
    (one_file : (text : List ℕ) (one other : Result StrategyFile TextFault) → IsStrategyOrFault text one → IsStrategyOrFault text other → one ≡ other)
    (blocks : Blocks) (game strategy : List ℕ) (one other : Answer) where
  same_report : (tree : SmallGame) → Reports tree strategy one → Reports tree strategy other → one ≡ other
  same_report tree a b =
      let same : a.sections ≡ b.sections = same_strategy strategy a.sections b.sections a.is_strategy b.is_strategy in
      same_answer one other
      (a.status ∙ ap (verdict_of tree) same ∙ sym b.status)
      (a.bytes ∙ ap (λ sections. report tree (choices_of sections)) same ∙ sym b.bytes)

  no_file : (fault : TextFault) (file : StrategyFile) → IsStrategyOrFault strategy (Err fault) → IsStrategyOrFault strategy (Ok file) → ⊥
  no_file fault file a b = let same = one_file strategy (Err fault) (Ok file) a b in cc

  no_program : (fault : TextFault) (p : Program) → IsProgramOrFault game (Err fault) → IsProgramOrFault game (Ok p) → ⊥
  no_program fault p a b = let same = one_program game (Err fault) (Ok p) a b in cc

  -- behind one game
  behind : (tree : SmallGame) → AnswersStrategy tree strategy one → AnswersStrategy tree strategy other → one ≡ other
  behind tree (inl a) (inl b) =
      let verdict = one_file strategy (Err a.fault) (Err b.fault) a.cause b.cause in
      let same : a.fault ≡ b.fault = cc in
      same_fault ends.StrategyText (codes "strategy") strategy a.fault b.fault one other same a.refusal b.refusal
  behind tree (inl a) (inr (inl b)) = absurd (no_file a.fault b.file a.cause b.is_file)
  behind tree (inl a) (inr (inr b)) = absurd (no_file a.fault b.is_strategy.file a.cause b.is_strategy.is_file)
  behind tree (inr (inl a)) (inl b) = absurd (no_file b.fault a.file b.cause a.is_file)
  behind tree (inr (inl a)) (inr (inl b)) = same_refusal _ _ one other a.refusal b.refusal
  behind tree (inr (inl a)) (inr (inr b)) = absurd (a.cause b.sections b.is_strategy b.suits)
  behind tree (inr (inr a)) (inl b) = absurd (no_file b.fault a.is_strategy.file b.cause a.is_strategy.is_file)
  behind tree (inr (inr a)) (inr (inl b)) = absurd (b.cause a.sections a.is_strategy a.suits)
  behind tree (inr (inr a)) (inr (inr b)) = same_report tree a b

  same_program : (p q : Program) → IsProgramOrFault game (Ok p) → IsProgramOrFault game (Ok q) → p ≡ q
  same_program p q a b = let same = one_program game (Ok p) (Ok q) a b in cc

  broken_or_wired : (p q : Program) (fault : WireFault) → IsProgramOrFault game (Ok p) → IsProgramOrFault game (Ok q)
      → Breaks blocks p fault → IsWired blocks q → ⊥
  broken_or_wired p q fault a b broken wired =
      let same : program_walk blocks p ≡ program_walk blocks q = ap (program_walk blocks) (same_program p q a b) in
      let walks : program_walk blocks q ≡ Ok wired.known = wired.walks in
      let breaks : program_walk blocks p ≡ Err fault = broken in cc

  same_broken : (p q : Program) (fault more : WireFault) → IsProgramOrFault game (Ok p) → IsProgramOrFault game (Ok q)
      → Breaks blocks p fault → Breaks blocks q more → fault ≡ more
  same_broken p q fault more a b broken again =
      let same : program_walk blocks p ≡ program_walk blocks q = ap (program_walk blocks) (same_program p q a b) in
      let first : program_walk blocks p ≡ Err fault = broken in
      let second : program_walk blocks q ≡ Err more = again in cc

  refused_or_accepted : (a b : Answer) → RefusesGame blocks game a → AcceptsGame blocks game strategy b → ⊥
  refused_or_accepted a b (inl faulty) accepts =
      no_program faulty.fault accepts.is_game.is_game.program faulty.cause accepts.is_game.is_game.is_program
  refused_or_accepted a b (inr (inl miswired)) accepts =
      broken_or_wired miswired.cause.program accepts.is_game.is_game.program miswired.fault miswired.cause.is_program
      accepts.is_game.is_game.is_program miswired.cause.broken accepts.is_game.wired
  refused_or_accepted a b (inr (inr unbuilt)) accepts = unbuilt.cause.no_game.none accepts.tree accepts.is_game.is_game

  both_refused : RefusesGame blocks game one → RefusesGame blocks game other → one ≡ other
  both_refused (inl a) (inl b) =
      let verdict = one_program game (Err a.fault) (Err b.fault) a.cause b.cause in
      let same : a.fault ≡ b.fault = cc in
      same_fault ends.GameText (codes "game") game a.fault b.fault one other same a.refusal b.refusal
  both_refused (inl a) (inr (inl b)) = absurd (no_program a.fault b.cause.program a.cause b.cause.is_program)
  both_refused (inl a) (inr (inr b)) = absurd (no_program a.fault b.cause.no_game.program a.cause b.cause.no_game.is_program)
  both_refused (inr (inl a)) (inl b) = absurd (no_program b.fault a.cause.program b.cause a.cause.is_program)
  both_refused (inr (inl a)) (inr (inl b)) =
      same_refusal ends.GameText (wire_fault_at game a.fault) one other a.refusal
      (subst (λ (f : WireFault). IsRefusal ends.GameText (wire_fault_at game f) other)
      (sym (same_broken a.cause.program b.cause.program a.fault b.fault a.cause.is_program b.cause.is_program a.cause.broken b.cause.broken))
      b.refusal)
  both_refused (inr (inl a)) (inr (inr b)) =
      absurd (broken_or_wired a.cause.program b.cause.no_game.program a.fault a.cause.is_program b.cause.no_game.is_program
      a.cause.broken b.cause.wired)
  both_refused (inr (inr a)) (inl b) = absurd (no_program b.fault a.cause.no_game.program b.cause a.cause.no_game.is_program)
  both_refused (inr (inr a)) (inr (inl b)) =
      absurd (broken_or_wired b.cause.program a.cause.no_game.program b.fault b.cause.is_program a.cause.no_game.is_program
      b.cause.broken a.cause.wired)
  both_refused (inr (inr a)) (inr (inr b)) = same_refusal _ _ one other a.refusal b.refusal

  pub one_answer_of : Answers blocks game strategy one → Answers blocks game strategy other → one ≡ other
  one_answer_of (inl a) (inl b) = both_refused a b
  one_answer_of (inl a) (inr b) = absurd (refused_or_accepted one other a b)
  one_answer_of (inr a) (inl b) = absurd (refused_or_accepted other one b a)
  one_answer_of (inr a) (inr b) =
      behind a.tree a.answers (subst (λ (tree : SmallGame). AnswersStrategy tree strategy other)
      (same_game game b.tree a.tree b.is_game.is_game a.is_game.is_game) b.answers)
