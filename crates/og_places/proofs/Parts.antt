-- Parts of an accepted game are accepted where they stand.
use Rattle.std.proofs.Common.{◌≡◌, ◌∙◌, ℕ, zero, suc, ◌+◌, ◌-◌, ◌≤◌, ◌^◌, List, [], ◌∷◌, length, map, refl, ap, sym, arith}
use Rattle.std.specs.Prelude.{Option, Some, None, Ok, ◌==◌, if◌then◌else◌, Bool, true, false, nat_le, option_map, option_and_then, slice_get}
use Rattle.og_syntax.specs.declared.games.GameTree.{GameTree}
use Rattle.og_syntax.specs.declared.games.GameTree.TheOpen.{GameTree-F}
use Rattle.og_syntax.specs.declared.games.GameTree.TheOpen as forms
use Rattle.og_syntax.specs.declared.games.GameTree.TheViews.{out-GameTree}
use Rattle.og_syntax.specs.declared.games.LineTree.{LineTree}
use Rattle.og_expr.specs.Counts.{capped}
use Rattle.og_typing.specs.declared.fault.WireFault.TheVariants.{TooBig}
use Rattle.og_typing.specs.Checked.{Checked, ◌>>=◌, rule}
use Rattle.og_typing.specs.Types.{Table}
use Rattle.og_typing.specs.Sizes.{plus}
use Rattle.og_typing.proofs.Steps.{bind_ok}
use Rattle.og_wires.specs.declared.kind.Level.{Level}
use Rattle.og_wires.specs.declared.kind.GameKind.{GameKind}
use Rattle.og_wires.specs.declared.block.Lines.{Lines}
use Rattle.og_wires.specs.Sites.{Site, below}
use Rattle.og_wires.specs.Levels.{form_with, line_with, block_with}
use Rattle.og_wires.specs.Games.{game_rule, part_of, seq_kind, par_kind, inputs_handed, line_named, line_walk, lines_walk, block_start, block_rest, game_place, game_walk, rule_walk}
use Rattle.og_wires.proofs.Walked.{walk_out}
use Rattle.og_places.specs.declared.places.Step.{Step}
use Rattle.og_places.specs.declared.places.Step.TheVariants as steps
use Rattle.og_places.specs.Expressions.{level_at}
use Rattle.og_places.specs.Places.{part_of_form, part_at, subtree}

-- what is there behind two steps was there behind the first
pub both_there : {A B : Type 0} (o : Option A) (f : A → Option B) (b : B) → option_and_then f o ≡ Some b
    → (a : A) × (o ≡ Some a) × (f a ≡ Some b)
both_there (Some a) f b is = (a, refl, is)
both_there None f b is = cc

-- The walk finds something of the game where it stands.
abbrev pub Accepts : Site → Level → GameTree → Type 0
Accepts site level g = (kind : GameKind) × (game_walk g site level ≡ Ok kind)

accepts_same : (site : Site) (level : Level) (g h : GameTree) → g ≡ h → Accepts site level g → Accepts site level h
accepts_same site level g h same accepts = (accepts.0, ap (λ game. game_walk game site level) (sym same) ∙ accepts.1)

-- the walks of one game and then of the next
two_walked : (site : Site) (level : Level) (left right : GameTree) (rest : GameKind → GameKind → Checked GameKind)
    (kind : GameKind)
    → (game_walk left site level >>= (λ l. game_walk right site level >>= (λ r. rest l r))) ≡ Ok kind
    → Accepts site level left × Accepts site level right
two_walked site level left right rest kind is =
    let first = bind_ok (game_walk left site level) (λ l. game_walk right site level >>= (λ r. rest l r)) kind is in
    let second = bind_ok (game_walk right site level) (λ r. rest first.0 r) kind first.2 in
    ((first.0, first.1), (second.0, second.1))

module _ (site : Site) (level : Level) where
  -- a line's operation
  operation_walked : (hidden : Table (Unit {0})) (k : ℕ) (before after : Lines) (line : LineTree GameTree)
      → line_walk site level hidden k before (line_with part_of line) ≡ Ok after
      → Accepts site (below level) line.operation
  operation_walked hidden k before after line is =
      let handed = bind_ok (inputs_handed site hidden k before line.inputs)
      (λ handed. game_walk line.operation site (below level)
      >>= (λ found. line_named site k before handed found (line_with part_of line)))
      after is in
      let found = bind_ok (game_walk line.operation site (below level))
      (λ found. line_named site k before handed.0 found (line_with part_of line)) after handed.2 in
      (found.0, found.1)

  -- the operation of each line
  line_walked : (hidden : Table (Unit {0})) (lines : List (LineTree GameTree)) (j k : ℕ) (before after : Lines) (part : GameTree)
      → lines_walk site level hidden k before (map (line_with part_of) lines) ≡ Ok after
      → option_map (λ line. line.operation) (slice_get lines j) ≡ Some part → Accepts site (below level) part
  line_walked hidden [] j k before after part walks is = cc
  line_walked hidden (line ∷ lines) zero k before after part walks is =
      let next = bind_ok (line_walk site level hidden k before (line_with part_of line))
      (λ next. lines_walk site level hidden (k + 1) next (map (line_with part_of) lines)) after walks in
      let same : line.operation ≡ part = cc is in
      accepts_same site (below level) line.operation part same (operation_walked hidden k before next.0 line next.1)
  line_walked hidden (line ∷ lines) (suc j) k before after part walks is =
      let next = bind_ok (line_walk site level hidden k before (line_with part_of line))
      (λ next. lines_walk site level hidden (k + 1) next (map (line_with part_of) lines)) after walks in
      line_walked hidden lines j (k + 1) next.0 after part next.2 is

  line_found : (lines : List (LineTree GameTree)) (k : ℕ) (b : Bool) (part : GameTree)
      → (if b then None else option_map (λ line. line.operation) (slice_get lines (k - 1))) ≡ Some part
      → option_map (λ line. line.operation) (slice_get lines (k - 1)) ≡ Some part
  line_found lines k true part is = cc
  line_found lines k false part is = is

  -- each part of a form
  form_walked : (form : GameTree-F GameTree) (step : Step) (part : GameTree) (kind : GameKind)
      → game_rule (form_with part_of form) site level ≡ Ok kind → part_of_form form step ≡ Some part
      → Accepts site (below level) part
  unfolding game_rule
  form_walked (forms.Seq left right) steps.Left part kind walks is =
      let same : left ≡ part = cc is in
      accepts_same site (below level) left part same
      (two_walked site (below level) left right (seq_kind (game_place right) level) kind walks).0
  form_walked (forms.Seq left right) steps.Right part kind walks is =
      let same : right ≡ part = cc is in
      accepts_same site (below level) right part same
      (two_walked site (below level) left right (seq_kind (game_place right) level) kind walks).1
  form_walked (forms.Par left right) steps.Left part kind walks is =
      let same : left ≡ part = cc is in
      accepts_same site (below level) left part same
      (two_walked site (below level) left right (λ l r. Ok (par_kind level l r)) kind walks).0
  form_walked (forms.Par left right) steps.Right part kind walks is =
      let same : right ≡ part = cc is in
      accepts_same site (below level) right part same
      (two_walked site (below level) left right (λ l r. Ok (par_kind level l r)) kind walks).1
  form_walked (forms.Block at block) (steps.Line k) part kind walks is =
      let start = bind_ok (block_start site level (block_with part_of block))
      (λ start. lines_walk site level start.hidden 0 start.lines (map (line_with part_of) block.lines)
      >>= (λ lines. block_rest site start.hidden start.inputs lines (block_with part_of block))) kind walks in
      let lines = bind_ok (lines_walk site level start.0.hidden 0 start.0.lines (map (line_with part_of) block.lines))
      (λ lines. block_rest site start.0.hidden start.0.inputs lines (block_with part_of block)) kind start.2 in
      line_walked start.0.hidden block.lines (k - 1) 0 start.0.lines lines.0 part lines.1
      (line_found block.lines k (k == 0) part is)
  form_walked form step part kind walks is = cc

  -- each part of a game
  pub part_walked : (g : GameTree) (step : Step) (part : GameTree) → Accepts site level g → part_at g step ≡ Some part
      → Accepts site (below level) part
  part_walked g step part accepts is =
      let ruled = bind_ok (rule (nat_le level.depth 48) (TooBig (game_place g))) (λ _. rule_walk g site level) accepts.0
      (sym (walk_out g site level) ∙ accepts.1) in
      form_walked (out-GameTree g) step part accepts.0 ruled.2 is

-- ---- many steps

-- one deeper for each step
abbrev level_under : Level → List Step → Level
level_under level [] = level
level_under level (step ∷ more) = level_under (below level) more

part_under : (site : Site) (steps : List Step) (level : Level) (g part : GameTree) → Accepts site level g
    → subtree steps g ≡ Some part → Accepts site (level_under level steps) part
part_under site [] level g part accepts is = let same : g ≡ part = cc is in accepts_same site level g part same accepts
part_under site (step ∷ more) level g part accepts is =
    let next = both_there (part_at g step) (subtree more) part is in
    part_under site more (below level) next.0 part (part_walked site level g step next.0 accepts next.1) next.2

no_deeper : (depth : ℕ) → depth ≤ 2 ^ 32 - 1 → depth ≡ plus depth (capped 0)
no_deeper depth small = omega (arith, small)

one_deeper : (depth n : ℕ) → plus (plus depth 1) (capped n) ≡ plus depth (capped (suc n))
one_deeper depth n = omega arith

capped_small : (n : ℕ) → capped n ≤ 2 ^ 32 - 1
capped_small n = omega arith

under : (steps : List Step) (depth inside : ℕ) → depth ≤ 2 ^ 32 - 1
    → level_under (record { depth = depth; inside = inside }) steps
    ≡ record { depth = plus depth (capped (length steps)); inside = inside }
under [] depth inside small = ap (λ n. record { depth = n; inside = inside }) (no_deeper depth small)
under (step ∷ more) depth inside small =
    under more (plus depth 1) inside (capped_small (depth + 1))
    ∙ ap (λ n. record { depth = n; inside = inside }) (one_deeper depth (length more))

-- the expression to which steps lead from an accepted body
pub expression_walked : (site : Site) (steps : List Step) (body expression : GameTree)
    → Accepts site (record { depth = 1; inside = 0 }) body → subtree steps body ≡ Some expression
    → Accepts site (level_at steps) expression
expression_walked site steps body expression accepts is =
    let found = part_under site steps (record { depth = 1; inside = 0 }) body expression accepts is in
    (found.0, ap (λ level. game_walk expression site level) (sym (under steps 1 0 (omega arith))) ∙ found.1)
