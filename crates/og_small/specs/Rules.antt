-- Which small games are accepted, and which strategies fit them.
use Rattle.std.specs.Prelude.{ℕ, ◌^◌, ◌==◌, nat_lt, nat_le, List, [], ◌∷◌, ◌++◌, map, flat_map, length, count_by, Bool, true, false, not, ◌&&◌, Option, is_some, codes, bytes_eq, find}
use Rattle.std.specs.List.{list_any, list_all}
use Rattle.std.specs.Option.{option_map, option_map_or}
use Rattle.std.specs.Cmp.Lexicographic.{pointwise}
use Rattle.og_small.specs.declared.tree.SmallGame.{SmallGame}
use Rattle.og_small.specs.declared.tree.TypeDecl.{TypeDecl}
use Rattle.og_small.specs.declared.tree.Line.{Line}
use Rattle.og_small.specs.declared.tree.Key.{Key}
use Rattle.og_small.specs.declared.tree.Row.{Row}
use Rattle.og_small.specs.declared.tree.Section.{Section}

-- two lists of names are the same
abbrev pub same_names : List (List ℕ) → List (List ℕ) → Bool
same_names = pointwise bytes_eq

-- the name stands in the list
abbrev pub has_name : List (List ℕ) → List ℕ → Bool
has_name names name = list_any (λ other. bytes_eq other name) names

-- no name stands twice in the list
abbrev pub all_differ : List (List ℕ) → Bool
all_differ [] = true
all_differ (name ∷ names) = not (has_name names name) && all_differ names

-- all names that the game gives: its types, their cases, and the outputs of its lines
abbrev pub given_names : SmallGame → List (List ℕ)
given_names g = flat_map (λ t. t.name ∷ t.cases) g.types ++ map (λ l. l.output) g.lines

-- the cases of the type that has the name
abbrev pub cases_of : List TypeDecl → List ℕ → Option (List (List ℕ))
cases_of types name = option_map (λ t. t.cases) (find (λ t. bytes_eq t.name name) types)

-- the key is the output of some line, with that line's type
abbrev pub is_output : List Line → Key → Bool
is_output lines key = list_any (λ l. bytes_eq l.output key.output && bytes_eq l.action key.action) lines

-- every way to take one name of each list, the first list slowest
abbrev pub joint : List (List (List ℕ)) → List (List (List ℕ))
joint [] = [] ∷ []
joint (column ∷ columns) = flat_map (λ name. map (λ names. name ∷ names) (joint columns)) column

-- the lists of cases of these keys, one for each key, none where a type isn't declared
abbrev pub columns_of : List TypeDecl → List Key → List (List (List ℕ))
columns_of types keys = map (λ key. option_map_or (λ cases. cases) (cases_of types key.action) []) keys

-- how many rows there are for a joint key
abbrev pub rows_at : List Row → List (List ℕ) → ℕ
rows_at rows key = count_by (λ row. same_names row.cases key) rows

-- one row for each joint key, and no other row
abbrev pub is_complete : List (List (List ℕ)) → List Row → Bool
is_complete keys rows =
    list_all (λ key. rows_at rows key == 1) keys
    && list_all (λ row. list_any (λ key. same_names row.cases key) keys) rows

-- every key is of a declared type, and is the output of some line, with that line's type
abbrev pub are_keys_good : SmallGame → List Key → Bool
are_keys_good g keys = list_all (λ key. is_some (cases_of g.types key.action) && is_output g.lines key) keys

-- the line's type is declared, and its table is good
abbrev pub is_line_accepted : SmallGame → Line → Bool
is_line_accepted g line =
    is_some (cases_of g.types line.action)
    && nat_le (length line.keys) 4
    && are_keys_good g line.keys
    && list_all (λ row. nat_lt row.pay (2 ^ 63)) line.rows
    && is_complete (joint (columns_of g.types line.keys)) line.rows

-- the game gives each name once, and none of them is `main`
abbrev pub are_names_good : SmallGame → Bool
are_names_good g = all_differ (given_names g) && not (has_name (given_names g) (codes "main"))

-- what a small game has to be beyond its form
abbrev pub is_accepted : SmallGame → Bool
is_accepted g =
    nat_le (length g.lines) 4
    && list_all (λ t. nat_le (length t.cases) 8) g.types
    && are_names_good g
    && list_all (is_line_accepted g) g.lines

-- the section names the line's agent, and a case of its type
abbrev pub suits : List TypeDecl → Line → Section → Bool
suits types line section =
    bytes_eq line.agent section.agent
    && option_map_or (λ cases. has_name cases section.choice) (cases_of types line.action) false

-- one section for each line
abbrev pub fits : SmallGame → List Section → Bool
fits g sections = pointwise (suits g.types) g.lines sections
