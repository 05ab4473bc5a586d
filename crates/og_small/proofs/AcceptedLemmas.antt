-- The tests of a small game and of a strategy answer true exactly where the rules hold.
use Rattle.std.proofs.Common.{◌≡◌, ◌≢◌, ℕ, zero, suc, ◌^◌, ◌<◌, ◌≤◌, List, [], ◌∷◌, map, length, Bool, true, false, not, ◌&&◌, ◌||◌, cond, refl, sym, ap, ◌∙◌, subst, arith}
use Rattle.std.specs.Prelude.{flat_map, nat_lt, nat_le, bytes_eq, codes, find, is_some, Option, Some, None, All, AllPairs, Any, Contains, ◌==◌, ◌↔◌, IsSomeAnd}
use Rattle.std.specs.Bool.{Decides}
use Rattle.std.specs.Option.{option_map, option_map_or}
use Rattle.std.specs.List.{list_all, list_any, AllZip}
use Rattle.std.specs.Cmp.Lexicographic.{pointwise}
use Rattle.std.proofs.lemmas.Bool.{leb-true, le-leb}
use Rattle.std.proofs.lemmas.Bool.Decides.{Decides-and, Decides-at, Decides-eqb, Decides-like, Decides-ltb, Decides-not}
use Rattle.std.proofs.lemmas.List.Elements.{All-weaker, All-contains, All-contains_itself, All-append, All-map, All-nil, All-cons, All-head, All-tail, Contains-append_left, Contains-append_right, Contains-get_or}
use Rattle.std.proofs.lemmas.List.Sums.{AllPass-from_list_all, list_all-from_AllPass}
use Rattle.std.proofs.lemmas.List.Folds.{Any-from_list_any, list_any-from_Any}
use Rattle.std.proofs.lemmas.List.Kept.{AllPairs-cons}
use Rattle.std.proofs.lemmas.Slice.Eq.{bytes_eq-Decides, slice_eq-Decides}
use Rattle.og_small.specs.declared.tree.SmallGame.{SmallGame}
use Rattle.og_small.specs.declared.tree.TypeDecl.{TypeDecl}
use Rattle.og_small.specs.declared.tree.Line.{Line}
use Rattle.og_small.specs.declared.tree.Key.{Key}
use Rattle.og_small.specs.declared.tree.Section.{Section}
use Rattle.og_small.specs.Rules.{same_names, has_name, all_differ, given_names, cases_of, is_output, joint, columns_of, rows_at, is_complete, are_keys_good, is_line_accepted, are_names_good, is_accepted, suits, fits}
use Rattle.og_small.specs.Accepted.{IsDeclared, IsCaseOf, IsOutput, IsJointKey, IsAccepted, Suits, Fits}

-- ---- tests of a list

module _ {X : Type 0} (p : X → Bool) (P : X → Type 0) (each : (x : X) → Decides (p x) (P x)) where
  Decides-list_all : (xs : List X) → Decides (list_all p xs) (All P xs)
  Decides-list_all xs = (
    (λ e. All-weaker (λ x. p x ≡ true) P (λ x. (each x).0) xs (AllPass-from_list_all p xs e)),
    (λ a. list_all-from_AllPass p xs (All-weaker P (λ x. p x ≡ true) (λ x. (each x).1) xs a)),
  )

  Decides-list_any : (xs : List X) → Decides (list_any p xs) (Any P xs)
  Decides-list_any xs = (
    (λ e. let a = Any-from_list_any p xs e in (a.0, a.1, a.2, a.3, (each a.1).0 a.4)),
    (λ a. list_any-from_Any p xs (a.0, a.1, a.2, a.3, (each a.1).1 a.4)),
  )

Decides-pointwise : {X Y : Type 0} (E : X → Y → Bool) (R : X → Y → Type 0) → ((x : X) (y : Y) → Decides (E x y) (R x y)) → (xs : List X) (ys : List Y) → Decides (pointwise E xs ys) (AllZip R xs ys)
Decides-pointwise E R each [] [] = ((λ e. tt), (λ t. refl))
Decides-pointwise E R each [] (y ∷ ys) = ((λ e. cc), (λ none. absurd none))
Decides-pointwise E R each (x ∷ xs) [] = ((λ e. cc), (λ none. absurd none))
Decides-pointwise E R each (x ∷ xs) (y ∷ ys) = Decides-and (E x y) (pointwise E xs ys) (each x y) (Decides-pointwise E R each xs ys)

Decides-nat_le : (a b : ℕ) → Decides (nat_le a b) (a ≤ b)
Decides-nat_le a b = (leb-true a b, le-leb a b)

-- ---- names

Decides-has_name : (names : List (List ℕ)) (name : List ℕ) → Decides (has_name names name) (Contains names name)
Decides-has_name names name = Decides-like (has_name names name)
    (λ a. subst (Contains names) (a.3 ∙ a.4) (Contains-get_or names a.0 a.1 a.2))
    (λ c. (c.0, name, c.1, c.2, refl))
    (Decides-list_any (λ other. bytes_eq other name) (λ other. other ≡ name) (λ other. bytes_eq-Decides other name) names)

Decides-all_differ : (names : List (List ℕ)) → Decides (all_differ names) (AllPairs (λ name later. name ≢ later) names)
Decides-all_differ [] = ((λ e i j d l m. absurd (omega arith)), (λ a. refl))
Decides-all_differ (name ∷ names) = Decides-like (not (has_name names name) && all_differ names)
    (λ h. AllPairs-cons (λ one later. one ≢ later) name names (λ k d l e. h.0 (subst (Contains names) (sym e) (Contains-get_or names k d l))) h.1)
    (λ a. ((λ c. a 0 (suc c.0) name (omega arith) (omega (arith, c.1)) (sym c.2)), (λ i j d l m. a (suc i) (suc j) d (omega arith) (omega arith))))
    (Decides-and (not (has_name names name)) (all_differ names) (Decides-not (has_name names name) (Decides-has_name names name)) (Decides-all_differ names))

Decides-has_not : (names : List (List ℕ)) (name : List ℕ) → Decides (not (has_name names name)) (All (λ other. other ≢ name) names)
Decides-has_not names name = Decides-like (not (has_name names name))
    (λ none k d l e. none (subst (Contains names) e (Contains-get_or names k d l)))
    (λ all c. All-contains (λ other. other ≢ name) names name all c refl)
    (Decides-not (has_name names name) (Decides-has_name names name))

Decides-same_names : (these those : List (List ℕ)) → Decides (same_names these those) (these ≡ those)
Decides-same_names these those = slice_eq-Decides bytes_eq-Decides these those (same_names these those) refl

-- ---- types and cases

found_or : (b : Bool) (t : TypeDecl) (found : Option TypeDecl) (rest : Bool) → is_some (option_map (λ x. x.cases) found) ≡ rest → is_some (option_map (λ x. x.cases) (cond b (Some t) found)) ≡ (b || rest)
found_or true t found rest e = refl
found_or false t found rest e = e

is_some-cases_of : (types : List TypeDecl) (name : List ℕ) → is_some (cases_of types name) ≡ list_any (λ t. bytes_eq t.name name) types
is_some-cases_of [] name = refl
is_some-cases_of (t ∷ types) name =
    found_or (bytes_eq t.name name) t (find (λ x. bytes_eq x.name name) types) (list_any (λ x. bytes_eq x.name name) types) (is_some-cases_of types name)

Decides-declared : (g : SmallGame) (name : List ℕ) → Decides (is_some (cases_of g.types name)) (IsDeclared g name)
Decides-declared g name = Decides-at (is_some (cases_of g.types name)) (list_any (λ t. bytes_eq t.name name) g.types) (is_some-cases_of g.types name)
    (Decides-list_any (λ t. bytes_eq t.name name) (λ t. t.name ≡ name) (λ t. bytes_eq-Decides t.name name) g.types)

Decides-is_output : (g : SmallGame) (key : Key) → Decides (is_output g.lines key) (IsOutput g key)
Decides-is_output g key =
    Decides-list_any (λ l. bytes_eq l.output key.output && bytes_eq l.action key.action) (λ l. (l.output ≡ key.output) × (l.action ≡ key.action))
    (λ l. Decides-and (bytes_eq l.output key.output) (bytes_eq l.action key.action) (bytes_eq-Decides l.output key.output) (bytes_eq-Decides l.action key.action)) g.lines

Decides-case : (found : Option (List (List ℕ))) (name : List ℕ) → Decides (option_map_or (λ cases. has_name cases name) found false) (IsSomeAnd found (λ cases. Contains cases name))
Decides-case None name = ((λ e. cc), (λ none. absurd none))
Decides-case (Some cases) name = Decides-has_name cases name

-- ---- joint keys

in_cases : (found : Option (List (List ℕ))) (name : List ℕ) → Contains (option_map_or (λ cases. cases) found []) name → IsSomeAnd found (λ cases. Contains cases name)
in_cases None name c = absurd (omega (arith, c.1))
in_cases (Some cases) name c = c

in_column : (found : Option (List (List ℕ))) (name : List ℕ) → IsSomeAnd found (λ cases. Contains cases name) → Contains (option_map_or (λ cases. cases) found []) name
in_column None name none = absurd none
in_column (Some cases) name c = c

Contains-map : {X Y : Type 0} (f : X → Y) (xs : List X) (x : X) → Contains xs x → Contains (map f xs) (f x)
Contains-map f [] x c = absurd (omega (arith, c.1))
Contains-map f (y ∷ xs) x (zero, l, at) = (zero, omega arith, ap f at)
Contains-map f (y ∷ xs) x (suc k, l, at) = let m = Contains-map f xs x (k, omega arith, at) in (suc m.0, omega (arith, m.1), m.2)

-- each name of a column before each of the lists
abbrev cross : List (List (List ℕ)) → List (List ℕ) → List (List (List ℕ))
cross rest column = flat_map (λ name. map (λ names. name ∷ names) rest) column

All-cross : (P : List ℕ → Type 0) (Q R : List (List ℕ) → Type 0) → ((name : List ℕ) (names : List (List ℕ)) → P name → Q names → R (name ∷ names))
    → (rest : List (List (List ℕ))) → All Q rest → (column : List (List ℕ)) → All P column → All R (cross rest column)
All-cross P Q R joins rest each [] p = All-nil R
All-cross P Q R joins rest each (name ∷ column) p =
    All-append R (map (λ names. name ∷ names) rest) (cross rest column)
    (All-map R (λ names. name ∷ names) rest (All-weaker Q (λ names. R (name ∷ names)) (λ names q. joins name names (All-head P name column p) q) rest each))
    (All-cross P Q R joins rest each column (All-tail P name column p))

Contains-cross : (name : List ℕ) (names : List (List ℕ)) (rest : List (List (List ℕ))) → Contains rest names → (column : List (List ℕ)) → Contains column name → Contains (cross rest column) (name ∷ names)
Contains-cross name names rest has [] c = absurd (omega (arith, c.1))
Contains-cross name names rest has (first ∷ column) (zero, l, at) =
    Contains-append_left (map (λ more. first ∷ more) rest) (cross rest column) (name ∷ names)
    (subst (λ n. Contains (map (λ more. first ∷ more) rest) (n ∷ names)) at (Contains-map (λ more. first ∷ more) rest names has))
Contains-cross name names rest has (first ∷ column) (suc k, l, at) =
    Contains-append_right (map (λ more. first ∷ more) rest) (cross rest column) (name ∷ names) (Contains-cross name names rest has column (k, omega arith, at))

All-joint : (g : SmallGame) (keys : List Key) → All (IsJointKey g keys) (joint (columns_of g.types keys))
All-joint g [] = All-cons (IsJointKey g []) [] [] tt (All-nil (IsJointKey g []))
All-joint g (key ∷ keys) =
    let column : List (List ℕ) = option_map_or (λ cases. cases) (cases_of g.types key.action) [] in
    All-cross (IsCaseOf g key.action) (IsJointKey g keys) (IsJointKey g (key ∷ keys)) (λ name names p q. (p, q))
    (joint (columns_of g.types keys)) (All-joint g keys) column
    (All-weaker (Contains column) (IsCaseOf g key.action) (λ name c. in_cases (cases_of g.types key.action) name c) column (All-contains_itself column))

Contains-joint : (g : SmallGame) (keys : List Key) (names : List (List ℕ)) → IsJointKey g keys names → Contains (joint (columns_of g.types keys)) names
Contains-joint g [] [] j = (zero, omega arith, refl)
Contains-joint g [] (name ∷ names) j = absurd j
Contains-joint g (key ∷ keys) [] j = absurd j
Contains-joint g (key ∷ keys) (name ∷ names) (here, more) =
    Contains-cross name names (joint (columns_of g.types keys)) (Contains-joint g keys names more)
    (option_map_or (λ cases. cases) (cases_of g.types key.action) []) (in_column (cases_of g.types key.action) name here)

-- ---- tables, lines and games

record IsComplete (g : SmallGame) (line : Line) : Type 0 where
  one : (names : List (List ℕ)) → IsJointKey g line.keys names → rows_at line.rows names ≡ 1
  other : All (λ row. IsJointKey g line.keys row.cases) line.rows

Decides-one : (g : SmallGame) (line : Line) → Decides (list_all (λ key. rows_at line.rows key == 1) (joint (columns_of g.types line.keys))) ((names : List (List ℕ)) → IsJointKey g line.keys names → rows_at line.rows names ≡ 1)
Decides-one g line =
    let all : List (List (List ℕ)) = joint (columns_of g.types line.keys) in
    Decides-like (list_all (λ key. rows_at line.rows key == 1) all)
    (λ a names j. All-contains (λ key. rows_at line.rows key ≡ 1) all names a (Contains-joint g line.keys names j))
    (λ h. All-weaker (IsJointKey g line.keys) (λ key. rows_at line.rows key ≡ 1) h all (All-joint g line.keys))
    (Decides-list_all (λ key. rows_at line.rows key == 1) (λ key. rows_at line.rows key ≡ 1) (λ key. Decides-eqb (rows_at line.rows key) 1) all)

Decides-joint_key : (g : SmallGame) (keys : List Key) (names : List (List ℕ)) → Decides (list_any (λ key. same_names names key) (joint (columns_of g.types keys))) (IsJointKey g keys names)
Decides-joint_key g keys names =
    let all : List (List (List ℕ)) = joint (columns_of g.types keys) in
    Decides-like (list_any (λ key. same_names names key) all)
    (λ a. subst (IsJointKey g keys) (a.3 ∙ sym a.4) (All-joint g keys a.0 a.1 a.2))
    (λ j. let c = Contains-joint g keys names j in (c.0, names, c.1, c.2, refl))
    (Decides-list_any (λ key. same_names names key) (λ key. names ≡ key) (λ key. Decides-same_names names key) all)

Decides-is_complete : (g : SmallGame) (line : Line) → Decides (is_complete (joint (columns_of g.types line.keys)) line.rows) (IsComplete g line)
Decides-is_complete g line =
    let all : List (List (List ℕ)) = joint (columns_of g.types line.keys) in
    let one = list_all (λ key. rows_at line.rows key == 1) all in
    let other = list_all (λ row. list_any (λ key. same_names row.cases key) all) line.rows in
    Decides-like (one && other) (λ h. record { one = h.0; other = h.1 }) (λ c. (c.one, c.other))
    (Decides-and one other (Decides-one g line)
    (Decides-list_all (λ row. list_any (λ key. same_names row.cases key) all) (λ row. IsJointKey g line.keys row.cases) (λ row. Decides-joint_key g line.keys row.cases) line.rows))

record IsGoodKey (g : SmallGame) (key : Key) : Type 0 where
  typed : IsDeclared g key.action
  output : IsOutput g key

Decides-keys : (g : SmallGame) (keys : List Key) → Decides (are_keys_good g keys) (All (IsGoodKey g) keys)
Decides-keys g keys =
    Decides-list_all (λ key. is_some (cases_of g.types key.action) && is_output g.lines key) (IsGoodKey g)
    (λ key. Decides-like (is_some (cases_of g.types key.action) && is_output g.lines key) (λ h. record { typed = h.0; output = h.1 }) (λ k. (k.typed, k.output))
    (Decides-and (is_some (cases_of g.types key.action)) (is_output g.lines key) (Decides-declared g key.action) (Decides-is_output g key))) keys

record IsGoodLine (g : SmallGame) (line : Line) : Type 0 where
  typed : IsDeclared g line.action
  few : length line.keys ≤ 4
  keys : All (IsGoodKey g) line.keys
  pays : All (λ row. row.pay < 2 ^ 63) line.rows
  complete : IsComplete g line

Decides-line : (g : SmallGame) (line : Line) → Decides (is_line_accepted g line) (IsGoodLine g line)
Decides-line g line =
    let typed = is_some (cases_of g.types line.action) in
    let few = nat_le (length line.keys) 4 in
    let keys = are_keys_good g line.keys in
    let pays = list_all (λ row. nat_lt row.pay (2 ^ 63)) line.rows in
    let complete = is_complete (joint (columns_of g.types line.keys)) line.rows in
    Decides-like ((((typed && few) && keys) && pays) && complete)
    (λ h. record { typed = h.0.0.0.0; few = h.0.0.0.1; keys = h.0.0.1; pays = h.0.1; complete = h.1 })
    (λ l. ((((l.typed, l.few), l.keys), l.pays), l.complete))
    (Decides-and (((typed && few) && keys) && pays) complete
    (Decides-and ((typed && few) && keys) pays
    (Decides-and (typed && few) keys
    (Decides-and typed few (Decides-declared g line.action) (Decides-nat_le (length line.keys) 4))
    (Decides-keys g line.keys))
    (Decides-list_all (λ row. nat_lt row.pay (2 ^ 63)) (λ row. row.pay < 2 ^ 63) (λ row. Decides-ltb row.pay (2 ^ 63)) line.rows))
    (Decides-is_complete g line))

record AreGoodNames (g : SmallGame) : Type 0 where
  differ : AllPairs (λ name later. name ≢ later) (given_names g)
  none_is_main : All (λ name. name ≢ codes "main") (given_names g)

Decides-names : (g : SmallGame) → Decides (are_names_good g) (AreGoodNames g)
Decides-names g =
    let differ = all_differ (given_names g) in
    let other = not (has_name (given_names g) (codes "main")) in
    Decides-like (differ && other) (λ h. record { differ = h.0; none_is_main = h.1 }) (λ n. (n.differ, n.none_is_main))
    (Decides-and differ other (Decides-all_differ (given_names g)) (Decides-has_not (given_names g) (codes "main")))

Decides-is_accepted : (g : SmallGame) → Decides (is_accepted g) (IsAccepted g)
Decides-is_accepted g =
    let few = nat_le (length g.lines) 4 in
    let cases = list_all (λ t. nat_le (length t.cases) 8) g.types in
    let names = are_names_good g in
    let lines = list_all (is_line_accepted g) g.lines in
    Decides-like (((few && cases) && names) && lines)
    (λ h. record {
      few_lines = h.0.0.0;
      few_cases = h.0.0.1;
      few_columns = λ k d l. (h.1 k d l).few;
      names_differ = h.0.1.differ;
      none_is_main = h.0.1.none_is_main;
      lines_typed = λ k d l. (h.1 k d l).typed;
      columns_typed = λ k d l i e m. ((h.1 k d l).keys i e m).typed;
      columns_are_outputs = λ k d l i e m. ((h.1 k d l).keys i e m).output;
      pays_fit = λ k d l. (h.1 k d l).pays;
      one_row = λ k d l. (h.1 k d l).complete.one;
      no_other_row = λ k d l. (h.1 k d l).complete.other;
    })
    (λ a. (
      ((a.few_lines, a.few_cases), record { differ = a.names_differ; none_is_main = a.none_is_main }),
      λ k d l. record {
        typed = a.lines_typed k d l;
        few = a.few_columns k d l;
        keys = λ i e m. record { typed = a.columns_typed k d l i e m; output = a.columns_are_outputs k d l i e m };
        pays = a.pays_fit k d l;
        complete = record { one = a.one_row k d l; other = a.no_other_row k d l };
      },
    ))
    (Decides-and ((few && cases) && names) lines
    (Decides-and (few && cases) names
    (Decides-and few cases (Decides-nat_le (length g.lines) 4)
    (Decides-list_all (λ t. nat_le (length t.cases) 8) (λ t. length t.cases ≤ 8) (λ t. Decides-nat_le (length t.cases) 8) g.types))
    (Decides-names g))
    (Decides-list_all (is_line_accepted g) (IsGoodLine g) (Decides-line g) g.lines))

-- what the test of a game answers
pub IsAccepted-from_test : (g : SmallGame) (answer : Bool) → answer ≡ is_accepted g → (answer ≡ true) ↔ IsAccepted g
IsAccepted-from_test g answer e =
    let d = Decides-is_accepted g in
    ((λ t. d.0 (sym e ∙ t)), (λ a. e ∙ d.1 a))

-- ---- strategies

Decides-suits : (g : SmallGame) (line : Line) (section : Section) → Decides (suits g.types line section) (Suits g line section)
Decides-suits g line section =
    let same = bytes_eq line.agent section.agent in
    let case = option_map_or (λ cases. has_name cases section.choice) (cases_of g.types line.action) false in
    Decides-like (same && case) (λ h. record { same_agent = h.0; is_case = h.1 }) (λ s. (s.same_agent, s.is_case))
    (Decides-and same case (bytes_eq-Decides line.agent section.agent) (Decides-case (cases_of g.types line.action) section.choice))

pub Decides-fits : (g : SmallGame) (sections : List Section) → Decides (fits g sections) (Fits g sections)
Decides-fits g sections = Decides-pointwise (suits g.types) (Suits g) (Decides-suits g) g.lines sections
