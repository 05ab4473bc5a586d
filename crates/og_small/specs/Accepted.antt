-- The rules of the language of small games, one by one.
use Rattle.std.specs.Prelude.{◌≡◌, ◌≢◌, ℕ, ◌^◌, ◌<◌, ◌≤◌, List, length, codes, All, AllPairs, Any, Contains, IsSomeAnd}
use Rattle.std.specs.List.{AllZip}
use Rattle.og_small.specs.declared.tree.SmallGame.{SmallGame}
use Rattle.og_small.specs.declared.tree.Key.{Key}
use Rattle.og_small.specs.declared.tree.Line.{Line}
use Rattle.og_small.specs.declared.tree.Section.{Section}
use Rattle.og_small.specs.Rules.{cases_of, given_names, rows_at}

-- a type of that name is declared
abbrev pub IsDeclared : SmallGame → List ℕ → Type 0
IsDeclared g name = Any (λ t. t.name ≡ name) g.types

-- the name is a case of the type that has the other name
abbrev pub IsCaseOf : SmallGame → List ℕ → List ℕ → Type 0
IsCaseOf g action name = IsSomeAnd (cases_of g.types action) (λ cases. Contains cases name)

-- the key is the output of some line, with that line's type
abbrev pub IsOutput : SmallGame → Key → Type 0
IsOutput g key = Any (λ line. (line.output ≡ key.output) × (line.action ≡ key.action)) g.lines

-- for each key a case of its type
abbrev pub IsJointKey : SmallGame → List Key → List (List ℕ) → Type 0
IsJointKey g keys names = AllZip (λ key. IsCaseOf g key.action) keys names

-- What a small game has to be beyond its form.
pub record IsAccepted (g : SmallGame) : Type 0 where
  -- There are at most four lines, eight cases a type and four columns a table.
  pub few_lines : length g.lines ≤ 4
  pub few_cases : All (λ t. length t.cases ≤ 8) g.types
  pub few_columns : All (λ line. length line.keys ≤ 4) g.lines
  -- The names that the game gives all differ, and none of them is `main`.
  pub names_differ : AllPairs (λ name later. name ≢ later) (given_names g)
  pub none_is_main : All (λ name. name ≢ codes "main") (given_names g)
  -- Each line's type is declared.
  pub lines_typed : All (λ line. IsDeclared g line.action) g.lines
  -- Each column is of a declared type, and is the output of some line with that line's type.
  pub columns_typed : All (λ line. All (λ key. IsDeclared g key.action) line.keys) g.lines
  pub columns_are_outputs : All (λ line. All (IsOutput g) line.keys) g.lines
  -- Each row pays below 2^63.
  pub pays_fit : All (λ line. All (λ row. row.pay < 2 ^ 63) line.rows) g.lines
  -- Each table has exactly one row for each joint key, and no other row.
  pub one_row : All (λ line. (names : List (List ℕ)) → IsJointKey g line.keys names
      → rows_at line.rows names ≡ 1) g.lines
  pub no_other_row : All (λ line. All (λ row. IsJointKey g line.keys row.cases) line.rows) g.lines

-- The section names the line's agent, and a case of its type.
pub record Suits (g : SmallGame) (line : Line) (section : Section) : Type 0 where
  pub same_agent : line.agent ≡ section.agent
  pub is_case : IsCaseOf g line.action section.choice

-- There is one section for each line, in order, and each suits its line.
abbrev pub Fits : SmallGame → List Section → Type 0
Fits g sections = AllZip (Suits g) g.lines sections
