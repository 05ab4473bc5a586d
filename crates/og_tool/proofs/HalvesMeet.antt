-- How the two halves of a run on a command come together, over plain variables.
use Rattle.std.proofs.Common.{ℕ, ◌+◌, ◌<◌, ◌∙◌, subst, length, List, [], ◌∷◌, Option, Some, None, refl, arith, inl, inr}
use Rattle.std.specs.Prelude.{IfSome, replicate}
use Rattle.std.proofs.lemmas.List.{length-replicate}
use Rattle.og_io.specs.Outside.{FilesState, KeepsHeld, GrowsBy, GrowsAtMost, OnlyLoads}
use Rattle.og_small.specs.declared.tree.SmallGame.{SmallGame}
use Rattle.og_tool.specs.declared.answer.Answer.{Answer}
use Rattle.og_tool.specs.declared.answer.GameStep.TheVariants.{Accepted, Refused}
use Rattle.og_wires.specs.Sites.{Blocks}
use Rattle.og_tool.specs.Command.{Command}
use Rattle.og_tool.specs.Ran.{ReadsAll, AnswersWords}
use Rattle.og_tool.specs.Held.{MayHold, HeldHas}
use Rattle.og_tool.specs.Halves.{StepsToGame, StepsToStrategy}

-- A text that is told has what is said of it, and where none is told there is a text of any length.
pub long_text : (held : Option (List ℕ)) (most : ℕ) → IfSome held (λ told. most < length told) → HeldHas held (λ (text : List ℕ). most < length text)
long_text (Some told) most long = (told, refl, long)
long_text None most long = (replicate (most + 1) 64, tt, omega (arith, length-replicate {A = ℕ} (most + 1) 64))

-- ---- counts

grown_twice : (a b : List ℕ) (before middle after : List ℕ → ℕ) → GrowsBy (a ∷ []) before middle → GrowsBy (b ∷ []) middle after → GrowsBy (a ∷ b ∷ []) before after
grown_twice a b before middle after first second name = omega (arith, first name, second name)

at_most_twice : (a b : List ℕ) (before middle after : List ℕ → ℕ) → GrowsAtMost (a ∷ []) before middle → GrowsAtMost (b ∷ []) middle after
    → GrowsAtMost (a ∷ b ∷ []) before after
at_most_twice a b before middle after first second = record {
  never_falls = λ name. omega (arith, first.never_falls name, second.never_falls name);
  at_most = λ name. omega (arith, first.at_most name, second.at_most name);
}

at_most_once : (a b : List ℕ) (before after : List ℕ → ℕ) → GrowsAtMost (a ∷ []) before after → GrowsAtMost (a ∷ b ∷ []) before after
at_most_once a b before after grows = record { never_falls = grows.never_falls; at_most = λ name. omega (arith, grows.at_most name) }

-- Files that were loaded one after the other.
pub loads_twice : (a b : List ℕ) (before middle after : FilesState) → OnlyLoads (a ∷ []) before middle → OnlyLoads (b ∷ []) middle after → OnlyLoads (a ∷ b ∷ []) before after
loads_twice a b before middle after first second = record {
  held = λ name. second.held name ∙ first.held name;
  loads = at_most_twice a b before.loads middle.loads after.loads first.loads second.loads;
  faults = at_most_twice a b before.faults middle.faults after.faults first.faults second.faults;
}

pub loads_once : (a b : List ℕ) (before after : FilesState) → OnlyLoads (a ∷ []) before after → OnlyLoads (a ∷ b ∷ []) before after
loads_once a b before after first = record {
  held = first.held;
  loads = at_most_once a b before.loads after.loads first.loads;
  faults = at_most_once a b before.faults after.faults first.faults;
}

pub loads_none : (before : FilesState) → OnlyLoads [] before before
loads_none before = record {
  held = λ name. refl;
  loads = record { never_falls = λ name. omega arith; at_most = λ name. omega arith };
  faults = record { never_falls = λ name. omega arith; at_most = λ name. omega arith };
}

pub reads_none : (before : FilesState) → ReadsAll [] before before
reads_none before = record { loads = λ name. omega arith; no_fault = λ name. refl }

-- ---- answers

module _ (blocks : Blocks) (command : Command) (before middle after : FilesState) (answer : Answer) where
  pub game_refused : StepsToGame blocks command.game before after (Refused answer) → AnswersWords blocks (Some command) before after answer
  game_refused (inl misses) = inl misses
  game_refused (inr stops) = inr (inl stops)

  pub game_accepted : (tree : SmallGame) → KeepsHeld before middle → StepsToGame blocks command.game before middle (Accepted tree)
      → StepsToStrategy tree command.strategy middle after answer → AnswersWords blocks (Some command) before after answer
  game_accepted tree kept (reads, (game, game_held, is_game)) (inl (fails, refusal)) =
      inr (inr (inl (record {
        fails = record {
          loads = grown_twice command.game command.strategy before.loads middle.loads after.loads reads.loads fails.loads;
          one_fault = λ name. omega (arith, fails.one_fault name, reads.no_fault name);
        };
        game = game;
        game_held = game_held;
        tree = tree;
        is_game = is_game;
        refusal = refusal;
      })))
  game_accepted tree kept (reads, (game, game_held, is_game)) (inr (more, (strategy, strategy_held, answers))) =
      inr (inr (inr (record {
        reads = record {
          loads = grown_twice command.game command.strategy before.loads middle.loads after.loads reads.loads more.loads;
          no_fault = λ name. more.no_fault name ∙ reads.no_fault name;
        };
        game = game;
        game_held = game_held;
        strategy = strategy;
        strategy_held = subst (λ (h : Option (List ℕ)). MayHold h strategy) (kept command.strategy) strategy_held;
        answers = record { tree = tree; is_game = is_game; answers = answers };
      })))
