-- What accepted declarations keep of the names.
use Rattle.std.proofs.Common.{◌≡◌, ◌∙◌, ℕ, zero, suc, ◌+◌, ◌<◌, ◌≤◌, ◌⊎◌, inl, inr, cond, Bool, true, false, List, [], ◌∷◌, ◌++◌, map, length, refl, ap, sym, subst, true≢false, arith}
use Rattle.std.specs.Prelude.{Option, Some, None, is_some, not, option_and_then, nat_lt, nat_le, ◌-◌, ◌^◌, slice_get, Contains, IsSomeAnd, Ok}
use Rattle.std.specs.List.{list_all}
use Rattle.std.proofs.lemmas.Bool.{lt-ltb, ltb-true, leb-true, and_parts, and_from}
use Rattle.std.proofs.lemmas.List.{map-append, length-append}
use Rattle.std.proofs.lemmas.List.Folds.{list_all-append}
use Rattle.std.proofs.lemmas.Option.{same_Some, none-some}
use Rattle.std.proofs.lemmas.Slice.Eq.{bytes_eq-Decides}
use Rattle.og_types.specs.declared.ty.Ty.{Ty}
use Rattle.og_types.specs.declared.ty.Ty.TheVariants as ty
use Rattle.og_types.specs.Ty.{fits, same, bounds_fit}
use Rattle.og_types.specs.laws.TyEquality as types
use Rattle.og_types.proofs.TyLevels.{bounds_fit_enum}
use Rattle.og_expr.specs.declared.node.Term.{Term}
use Rattle.og_expr.specs.Counts.{capped}
use Rattle.og_expr.specs.Types.{type_of}
use Rattle.og_expr.specs.Variables.{variables_of, all_variables}
use Rattle.og_expr.specs.Variables as exprs
use Rattle.og_expr.proofs.Occurrences.{all_is}
use Rattle.og_game.specs.declared.scope.Variable.{Variable}
use Rattle.og_game.specs.declared.scope.Origin.{Origin}
use Rattle.og_game.specs.declared.scope.Origin.TheVariants.{Input}
use Rattle.og_game.specs.Scopes.{is_of, of_params}
use Rattle.og_syntax.specs.Places.{expr_place}
use Rattle.og_syntax.specs.declared.types.NameTree.{NameTree}
use Rattle.og_syntax.specs.declared.types.ParamTree.{ParamTree}
use Rattle.og_syntax.specs.declared.types.TyTree.{TyTree}
use Rattle.og_syntax.specs.declared.expressions.ExprTree.{ExprTree}
use Rattle.og_names.specs.Names.{lookup, same_name, has_name}
use Rattle.og_typing.specs.declared.fault.WireFault.TheVariants.{Twice, WrongType, TooManyValues, TooBig}
use Rattle.og_typing.specs.declared.meaning.Function.{Function}
use Rattle.og_typing.specs.declared.meaning.Meaning.{Meaning}
use Rattle.og_typing.specs.declared.meaning.Meaning.TheVariants as meanings
use Rattle.og_typing.specs.declared.meaning.Params.{Params}
use Rattle.og_typing.specs.Checked.{◌>>=◌, ◌>>◌, rule}
use Rattle.og_typing.specs.Types.{Table, type_walk}
use Rattle.og_typing.specs.Sizes.{plus, nodes_in}
use Rattle.og_typing.specs.Expressions.{expr_walk}
use Rattle.og_typing.specs.Variables.{Around, whole_walk, is_free, variable_walk, with_param, param_walk, params_walk, name_free, with_meaning, cases_walk, enum_walk, alias_walk, body_names, body_walk, function_of, function_with, function_walk, function_declared}
use Rattle.og_typing.proofs.Steps.{bind_ok, rule_holds}
use Rattle.og_inlining.specs.Steps.{provided, given_by}
use Rattle.og_inlining.specs.Trees.{tree_in}
use Rattle.og_inlining.specs.Sound.{IsBody, Fits, Known}
use Rattle.og_inlining.specs.Bodies.{no_params, round_function, seen_inside, body_tree, with_body}
use Rattle.og_inlining.proofs.Accepted.{one_answer, weaker, fitting_tree}
use Rattle.og_inlining.proofs.Types.{type_bounded}
use Rattle.og_inlining.proofs.Named.{before, placed_at}
use Rattle.og_inlining.proofs.Sound.{expression_sound}
use Rattle.og_inlining.proofs.Inside.{tree_passes}

-- ---- names behind others

module _ {A : Type 0} (name n : List ℕ) (v : A) where
  abbrev more : List (List ℕ × A) → List (List ℕ × A)
  more es = es ++ (n, v) ∷ []

  added_cases : (es : List (List ℕ × A)) (o : A) → lookup name (more es) ≡ Some o
      → (lookup name es ≡ Some o) ⊎ ((same_name name n ≡ true) × (v ≡ o))
  added_cases [] o is = last (same_name name n) refl is
    where
      last : (b : Bool) → same_name name n ≡ b → cond b (Some v) None ≡ Some o
          → (None ≡ Some o) ⊎ ((same_name name n ≡ true) × (v ≡ o))
      last true e is = inr (e, same_Some v o is)
      last false e is = absurd (none-some o is)
  added_cases (e ∷ es) o is = first (same_name name e.0) is (added_cases es o)
    where
      first : (b : Bool) → cond b (Some e.1) (lookup name (more es)) ≡ Some o
          → (lookup name (more es) ≡ Some o → (lookup name es ≡ Some o) ⊎ ((same_name name n ≡ true) × (v ≡ o)))
          → (cond b (Some e.1) (lookup name es) ≡ Some o) ⊎ ((same_name name n ≡ true) × (v ≡ o))
      first true is further = inl is
      first false is further = further is

  added_keeps : (es : List (List ℕ × A)) (o : A) → lookup name es ≡ Some o → lookup name (more es) ≡ Some o
  added_keeps [] o is = absurd (none-some o is)
  added_keeps (e ∷ es) o is = first (same_name name e.0) is (added_keeps es o)
    where
      first : (b : Bool) → cond b (Some e.1) (lookup name es) ≡ Some o → (lookup name es ≡ Some o → lookup name (more es) ≡ Some o)
          → cond b (Some e.1) (lookup name (more es)) ≡ Some o
      first true is further = is
      first false is further = further is

  added_new : (es : List (List ℕ × A)) → lookup name es ≡ None → same_name name n ≡ true → lookup name (more es) ≡ Some v
  added_new [] none is = ap (λ b. cond b (Some v) None) is
  added_new (e ∷ es) none is = first (same_name name e.0) none (λ none. added_new es none is)
    where
      first : (b : Bool) → cond b (Some e.1) (lookup name es) ≡ None → (lookup name es ≡ None → lookup name (more es) ≡ Some v)
          → cond b (Some e.1) (lookup name (more es)) ≡ Some v
      first true none further = absurd (none-some e.1 (sym none))
      first false none further = further none

  has_more : (es : List (List ℕ × A)) → has_name name es ≡ true → has_name name (more es) ≡ true
  has_more es has = found (lookup name es) refl has
    where
      found : (o : Option A) → lookup name es ≡ o → is_some o ≡ true → has_name name (more es) ≡ true
      found None there has = absurd (true≢false (sym has))
      found (Some o) there has = ap is_some (added_keeps es o there)

has_none : {A : Type 0} (name : List ℕ) (es : List (List ℕ × A)) → has_name name es ≡ false → lookup name es ≡ None
has_none {A} name es has = found (lookup name es) refl has
  where
    found : (o : Option A) → lookup name es ≡ o → is_some o ≡ false → lookup name es ≡ None
    found None there has = there
    found (Some o) there has = absurd (true≢false has)

not_true : (b : Bool) → not b ≡ true → b ≡ false
not_true true is = absurd (true≢false (sym is))
not_true false is = refl

same_is : (name n : List ℕ) → same_name name n ≡ true → name ≡ n
same_is name n is = (bytes_eq-Decides name n).0 is

-- ---- names that are no functions

-- as a declaration makes it
abbrev Plain : Meaning → Type 0
Plain (meanings.Type t) = bounds_fit t ≡ true
Plain (meanings.Case family cases index) = nat_lt index cases ≡ true
Plain (meanings.Function f) = ⊥
Plain (meanings.Game number) = Unit {0}

pub known_with : (declared : Table Meaning) (bodies : Table Term) (n : List ℕ) (m : Meaning) → Known declared bodies → Plain m
    → Known (with_meaning declared n m) bodies
known_with declared bodies n m known plain = record {
  types = λ name t is. type_is name t (added_cases name n m declared (meanings.Type t) is);
  cases = λ name family cases index is. case_is name family cases index (added_cases name n m declared (meanings.Case family cases index) is);
  functions = λ name f is. function_is name f (added_cases name n m declared (meanings.Function f) is);
  names = λ name has. has_more name n m declared (known.names name has);
}
  where
    type_is : (name : List ℕ) (t : Ty)
        → (lookup name declared ≡ Some (meanings.Type t)) ⊎ ((same_name name n ≡ true) × (m ≡ meanings.Type t)) → bounds_fit t ≡ true
    type_is name t (inl old) = known.types name t old
    type_is name t (inr new) = subst Plain new.1 plain

    case_is : (name : List ℕ) (family cases index : ℕ)
        → (lookup name declared ≡ Some (meanings.Case family cases index)) ⊎ ((same_name name n ≡ true) × (m ≡ meanings.Case family cases index))
        → nat_lt index cases ≡ true
    case_is name family cases index (inl old) = known.cases name family cases index old
    case_is name family cases index (inr new) = subst Plain new.1 plain

    function_is : (name : List ℕ) (f : Function)
        → (lookup name declared ≡ Some (meanings.Function f)) ⊎ ((same_name name n ≡ true) × (m ≡ meanings.Function f))
        → IsSomeAnd (lookup name bodies) (IsBody f)
    function_is name f (inl old) = known.functions name f old
    function_is name f (inr new) = absurd (subst Plain new.1 plain)

pub nothing_known : Known [] []
nothing_known = record {
  types = λ name t is. absurd (none-some (meanings.Type t) is);
  cases = λ name family cases index is. absurd (none-some (meanings.Case family cases index) is);
  functions = λ name f is. absurd (none-some (meanings.Function f) is);
  names = λ name has. has;
}

-- ---- enums and names of types

cases_known : (family count index : ℕ) (declared made : Table Meaning) (bodies : Table Term) (cases : List NameTree)
    → Known declared bodies → index + length cases ≤ count → count < 2 ^ 32
    → cases_walk family count index declared cases ≡ Ok made → Known made bodies
cases_known family count index declared made bodies [] known room few is =
    subst (λ table. Known table bodies) (one_answer (Ok declared) declared made refl is) known
cases_known family count index declared made bodies (case ∷ more) known room few is =
    let free = bind_ok (name_free declared case.at case.name)
    (λ _. cases_walk family count (plus index 1) (with_meaning declared case.name (meanings.Case family count index)) more) made is in
    cases_known family count (plus index 1) (with_meaning declared case.name (meanings.Case family count index)) made bodies more
    (known_with declared bodies case.name (meanings.Case family count index) known (lt-ltb index count (omega (arith, room))))
    (omega (arith, room, few)) few free.2

pub enum_known : (family at : ℕ) (name : List ℕ) (declared made : Table Meaning) (bodies : Table Term) (cases : List NameTree)
    → Known declared bodies → enum_walk family at name declared cases ≡ Ok made → Known made bodies
enum_known family at name declared made bodies cases known is =
    let count = capped (length cases) in
    let start = with_meaning declared name (meanings.Type (ty.Enum family count)) in
    let free = bind_ok (name_free declared at name)
    (λ _. cases_walk family count 0 start cases >>= (λ all. rule (nat_le (length cases) 4096) (TooManyValues at) >> Ok all)) made is in
    let walked = bind_ok (cases_walk family count 0 start cases) (λ all. rule (nat_le (length cases) 4096) (TooManyValues at) >> Ok all) made free.2 in
    let few = bind_ok (rule (nat_le (length cases) 4096) (TooManyValues at)) (λ _. Ok walked.0) made walked.2 in
    let small = rule_holds (nat_le (length cases) 4096) (TooManyValues at) few.0 few.1 in
    subst (λ table. Known table bodies) (one_answer (Ok walked.0) walked.0 made refl few.2)
    (cases_known family count 0 start walked.0 bodies cases
    (known_with declared bodies name (meanings.Type (ty.Enum family count)) known (bounds_fit_enum family count)) (omega (arith, leb-true (length cases) 4096 small)) (omega (arith, leb-true (length cases) 4096 small)) walked.1)

pub alias_known : (at : ℕ) (name : List ℕ) (declared made : Table Meaning) (bodies : Table Term) (written : TyTree)
    → Known declared bodies → alias_walk at name declared written ≡ Ok made → Known made bodies
alias_known at name declared made bodies written known is =
    let free = bind_ok (name_free declared at name)
    (λ _. type_walk written declared >>= (λ t. Ok (with_meaning declared name (meanings.Type t)))) made is in
    let t = bind_ok (type_walk written declared) (λ t. Ok (with_meaning declared name (meanings.Type t))) made free.2 in
    subst (λ table. Known table bodies)
    (one_answer (Ok (with_meaning declared name (meanings.Type t.0))) (with_meaning declared name (meanings.Type t.0)) made refl t.2)
    (known_with declared bodies name (meanings.Type t.0) known (type_bounded declared known.types written t.0 t.1))

-- ---- parameters

-- The types stand beside the variables, and their bounds fit.
pub record AreParams (found : Params) : Type 0 where
  pub few : nat_lt (length found.variables) (2 ^ 32) ≡ true
  pub types : map (λ e. e.1.ty) found.variables ≡ found.types
  pub bounded : list_all bounds_fit found.types ≡ true

params_kept : (declared : Table Meaning)
    → ((name : List ℕ) (t : Ty) → lookup name declared ≡ Some (meanings.Type t) → bounds_fit t ≡ true)
    → (around : Around) → around.declared ≡ declared → (origin : Origin) (before after : Params) (params : List ParamTree)
    → AreParams before → params_walk around origin before params ≡ Ok after → AreParams after
params_kept declared known around same origin before after [] are is =
    subst AreParams (one_answer (Ok before) before after refl is) are
params_kept declared known around same origin before after (param ∷ more) are is =
    let step = bind_ok (param_walk around origin before param) (λ next. params_walk around origin next more) after is in
    let free = bind_ok (variable_walk around before.variables param.at param.name)
    (λ _. type_walk param.ty around.declared >>= (λ t. Ok (with_param before param.name origin t))) step.0 step.1 in
    let named = bind_ok (rule (is_free around before.variables param.name) (Twice param.at))
    (λ _. rule (nat_lt (length before.variables) (2 ^ 32 - 1)) (TooBig param.at)) free.0 free.1 in
    let room = rule_holds (nat_lt (length before.variables) (2 ^ 32 - 1)) (TooBig param.at) free.0 named.2 in
    let t = bind_ok (type_walk param.ty around.declared) (λ t. Ok (with_param before param.name origin t)) step.0 free.2 in
    params_kept declared known around same origin step.0 after more
    (subst AreParams (one_answer (Ok (with_param before param.name origin t.0)) (with_param before param.name origin t.0) step.0 refl t.2)
    (record {
      few = lt-ltb (length (with_param before param.name origin t.0).variables) (2 ^ 32) (omega (
        arith,
        ltb-true (length before.variables) (2 ^ 32 - 1) room,
        length-append before.variables ((param.name, record { ty = t.0; origin = origin }) ∷ []),
      ));
      types = map-append (λ e. e.1.ty) before.variables ((param.name, record { ty = t.0; origin = origin }) ∷ []) ∙ ap (λ ts. ts ++ t.0 ∷ []) are.types;
      bounded = list_all-append bounds_fit before.types (t.0 ∷ [])
          ∙ and_from (list_all bounds_fit before.types) (list_all bounds_fit (t.0 ∷ [])) are.bounded
          (and_from (bounds_fit t.0) true (type_bounded declared known param.ty t.0 (ap (type_walk param.ty) (sym same) ∙ t.1)) refl);
    }))
    step.2

one_more : (n : ℕ) → 1 + n ≡ suc n
one_more n = omega arith

-- the type of the variable whose name it is stands at the name's place
typed_place : (name : List ℕ) (variables : Table Variable) (v : Variable) → lookup name variables ≡ Some v
    → slice_get (map (λ e. e.1.ty) variables) (before name variables) ≡ Some v.ty
typed_place name [] v is = absurd (none-some v is)
typed_place name (e ∷ es) v is = first (same_name name e.0) is (typed_place name es v)
  where
    first : (b : Bool) → cond b (Some e.1) (lookup name es) ≡ Some v
        → (lookup name es ≡ Some v → slice_get (map (λ e. e.1.ty) es) (before name es) ≡ Some v.ty)
        → slice_get (e.1.ty ∷ map (λ e. e.1.ty) es) (cond (not b) (1 + before name es) 0) ≡ Some v.ty
    first true is further = ap (λ o. option_and_then (λ v. Some v.ty) o) is
    first false is further =
        ap (slice_get (e.1.ty ∷ map (λ e. e.1.ty) es)) (one_more (before name es)) ∙ further is

bounded_there : (ts : List Ty) (k : ℕ) (t : Ty) → list_all bounds_fit ts ≡ true → slice_get ts k ≡ Some t → bounds_fit t ≡ true
bounded_there [] k t all is = absurd (none-some t is)
bounded_there (u ∷ ts) zero t all is =
    ap bounds_fit (sym (same_Some u t is)) ∙ (and_parts (bounds_fit u) (list_all bounds_fit ts) all).0
bounded_there (u ∷ ts) (suc k) t all is =
    bounded_there ts k t (and_parts (bounds_fit u) (list_all bounds_fit ts) all).1 is

pub type_there : (found : Params) → AreParams found → (name : List ℕ) (v : Variable) → lookup name found.variables ≡ Some v
    → slice_get found.types (before name found.variables) ≡ Some v.ty
type_there found are name v is =
    ap (λ ts. slice_get ts (before name found.variables)) (sym are.types) ∙ typed_place name found.variables v is

-- ---- functions

-- A function's expression sees what fits.
body_fits : (declared : Table Meaning) (bodies : Table Term) (found : Params) → Known declared bodies → AreParams found
    → Fits (body_names declared found.variables) [] bodies
body_fits declared bodies found known are = record {
  few = are.few;
  variables = λ name v is. bounded_there found.types (before name found.variables) v.ty are.bounded (type_there found are name v is);
  values = λ name t is. absurd (none-some _ is);
  others = λ name is. refl;
  types = known.types;
  cases = known.cases;
  functions = known.functions;
}

is_there : (o : Option Ty) (t : Ty) → is_of o t ≡ true → o ≡ Some t
is_there None t is = absurd (true≢false (sym is))
is_there (Some u) t is = ap Some ((types.same_decides u t).0 is)

same_itself : (t : Ty) → same t t ≡ true
same_itself t = (types.same_decides t t).1 refl

-- The variables of a body's tree are the parameters.
body_params : (declared : Table Meaning) (bodies : Table Term) (found : Params) → AreParams found → (body : ExprTree) (tree : Term)
    → tree_in body (seen_inside declared found.variables bodies) ≡ Some tree
    → (v : exprs.Variable) → Contains (variables_of tree) v → slice_get found.types v.0 ≡ Some v.1
body_params declared bodies found are body tree is v there =
    is_there (slice_get found.types v.0) v.1
    ((all_is (of_params found.types) tree).0
    (tree_passes (of_params found.types) (seen_inside declared found.variables bodies)
    (λ name k w at looked.
    ap (λ k. is_of (slice_get found.types k) w.ty) (same_Some k (before name found.variables) (sym at ∙ placed_at name found.variables w looked))
    ∙ ap (λ o. is_of o w.ty) (type_there found are name w looked) ∙ same_itself w.ty)
    (λ name t looked. absurd (none-some t looked))
    body tree is)
    v there)

function_known : (declared : Table Meaning) (bodies : Table Term) (name : List ℕ) (f : Function) (tree : Term)
    → Known declared bodies → has_name name declared ≡ false → IsBody f tree
    → Known (with_meaning declared name (meanings.Function f)) (bodies ++ (name, tree) ∷ [])
function_known declared bodies n f tree known free is_body = record {
  types = λ name t is. type_is name t (added_cases name n (meanings.Function f) declared (meanings.Type t) is);
  cases = λ name family cases index is. case_is name family cases index (added_cases name n (meanings.Function f) declared (meanings.Case family cases index) is);
  functions = λ name g is. function_is name g (added_cases name n (meanings.Function f) declared (meanings.Function g) is);
  names = λ name has. name_is name (lookup name (bodies ++ (n, tree) ∷ [])) refl has;
}
  where
    type_is : (name : List ℕ) (t : Ty)
        → (lookup name declared ≡ Some (meanings.Type t)) ⊎ ((same_name name n ≡ true) × (meanings.Function f ≡ meanings.Type t)) → bounds_fit t ≡ true
    type_is name t (inl old) = known.types name t old
    type_is name t (inr new) = cc

    case_is : (name : List ℕ) (family cases index : ℕ)
        → (lookup name declared ≡ Some (meanings.Case family cases index)) ⊎ ((same_name name n ≡ true) × (meanings.Function f ≡ meanings.Case family cases index))
        → nat_lt index cases ≡ true
    case_is name family cases index (inl old) = known.cases name family cases index old
    case_is name family cases index (inr new) = cc

    kept : (name : List ℕ) (g : Function) (o : Option Term) → lookup name bodies ≡ o → IsSomeAnd o (IsBody g)
        → IsSomeAnd (lookup name (bodies ++ (n, tree) ∷ [])) (IsBody g)
    kept name g None there is = absurd is
    kept name g (Some e) there is = subst (λ o. IsSomeAnd o (IsBody g)) (sym (added_keeps name n tree bodies e there)) is

    no_body : (b : Bool) → has_name n bodies ≡ b → has_name n bodies ≡ false
    no_body true has = absurd (true≢false (sym (known.names n has) ∙ free))
    no_body false has = has

    new_body : (name : List ℕ) (g : Function) → name ≡ n → same_name name n ≡ true → f ≡ g
        → IsSomeAnd (lookup name (bodies ++ (n, tree) ∷ [])) (IsBody g)
    new_body name g is same this =
        subst (λ o. IsSomeAnd o (IsBody g))
        (sym (added_new name n tree bodies (ap (λ m. lookup m bodies) is ∙ has_none n bodies (no_body (has_name n bodies) refl)) same))
        (subst (λ g. IsBody g tree) this is_body)

    function_is : (name : List ℕ) (g : Function)
        → (lookup name declared ≡ Some (meanings.Function g)) ⊎ ((same_name name n ≡ true) × (meanings.Function f ≡ meanings.Function g))
        → IsSomeAnd (lookup name (bodies ++ (n, tree) ∷ [])) (IsBody g)
    function_is name g (inl old) = kept name g (lookup name bodies) refl (known.functions name g old)
    function_is name g (inr new) = new_body name g (same_is name n new.0) new.0 cc

    name_new : (name : List ℕ) (e : Term) → (lookup name bodies ≡ Some e) ⊎ ((same_name name n ≡ true) × (tree ≡ e))
        → has_name name (with_meaning declared n (meanings.Function f)) ≡ true
    name_new name e (inl old) = has_more name n (meanings.Function f) declared (known.names name (ap is_some old))
    name_new name e (inr new) =
        ap is_some (added_new name n (meanings.Function f) declared
        (ap (λ m. lookup m declared) (same_is name n new.0) ∙ has_none n declared free) new.0)

    name_is : (name : List ℕ) (o : Option Term) → lookup name (bodies ++ (n, tree) ∷ []) ≡ o → is_some o ≡ true
        → has_name name (with_meaning declared n (meanings.Function f)) ≡ true
    name_is name None there has = absurd (true≢false (sym has))
    name_is name (Some e) there has = name_new name e (added_cases name n tree bodies e there)

-- what an accepted function keeps
pub function_kept : (number at : ℕ) (name : List ℕ) (declared made : Table Meaning) (bodies : Table Term) (params : List ParamTree)
    (written : TyTree) (body : ExprTree) → Known declared bodies
    → function_declared number at name declared params written body ≡ Ok made
    → IsSomeAnd (with_body name params body declared bodies) (Known made)
function_kept number at name declared made bodies params written body known is =
    let free = bind_ok (name_free declared at name)
    (λ _. function_walk number name declared params written body >>= (λ f. Ok (with_meaning declared name (meanings.Function f)))) made is in
    let unnamed = not_true (has_name name declared) (rule_holds (not (has_name name declared)) (Twice at) free.0 free.1) in
    let function = bind_ok (function_walk number name declared params written body) (λ f. Ok (with_meaning declared name (meanings.Function f))) made free.2 in
    let found = bind_ok (params_walk (round_function declared name) Input no_params params)
    (λ found. type_walk written declared >>= (λ answer. function_with number found.types answer body (body_names declared found.variables)))
    function.0 function.1 in
    let answer = bind_ok (type_walk written declared) (λ answer. function_with number found.0.types answer body (body_names declared found.0.variables))
    function.0 found.2 in
    let names = body_names declared found.0.variables in
    let height = bind_ok (body_walk body answer.0 names) (λ height. Ok (function_of number found.0.types answer.0 height body names)) function.0 answer.2 in
    let whole = bind_ok (whole_walk body names) (λ k. rule (fits k.ty answer.0) (WrongType (expr_place body)) >> Ok k.deep) height.0 height.1 in
    let goes = bind_ok (rule (fits whole.0.ty answer.0) (WrongType (expr_place body))) (λ _. Ok whole.0.deep) height.0 whole.2 in
    let inner = bind_ok (expr_walk body names 1) (λ k. rule (nat_le (nodes_in body names) 65536) (TooBig (expr_place body)) >> Ok k) whole.0 whole.1 in
    let light = bind_ok (rule (nat_le (nodes_in body names) 65536) (TooBig (expr_place body))) (λ _. Ok inner.0) whole.0 inner.2 in
    let are = params_kept declared known.types (round_function declared name) refl Input no_params found.0 params
    (record { few = refl; types = refl; bounded = refl }) found.1 in
    let tree = fitting_tree inner.0.ty (tree_in body (seen_inside declared found.0.variables bodies))
    (expression_sound names [] bodies (body_fits declared bodies found.0 known are) body 1 inner.0 inner.1) in
    let f = function_of number found.0.types answer.0 height.0 body names in
    let is_body : IsBody f tree.tree = record {
      answer = weaker inner.0.ty answer.0 (type_of tree.tree) tree.goes
          (ap (λ k. fits k.ty answer.0) (one_answer (Ok inner.0) inner.0 whole.0 refl light.2)
          ∙ rule_holds (fits whole.0.ty answer.0) (WrongType (expr_place body)) goes.0 goes.1);
      params = body_params declared bodies found.0 are body tree.tree tree.is;
    } in
    kept_in found.0 tree.tree f unnamed found.1 tree.is
    (subst (λ table. Known table (bodies ++ (name, tree.tree) ∷ []))
    (ap (λ f. with_meaning declared name (meanings.Function f)) (one_answer (Ok f) f function.0 refl height.2)
    ∙ one_answer (Ok (with_meaning declared name (meanings.Function function.0))) (with_meaning declared name (meanings.Function function.0)) made refl function.2)
    (function_known declared bodies name f tree.tree known unnamed is_body))
  where
    no_body : (b : Bool) → has_name name bodies ≡ b → has_name name declared ≡ false → not (has_name name bodies) ≡ true
    no_body true has unnamed = absurd (true≢false (sym (known.names name has) ∙ unnamed))
    no_body false has unnamed = ap not has

    kept_in : (found : Params) (tree : Term) (f : Function) → has_name name declared ≡ false
        → params_walk (round_function declared name) Input no_params params ≡ Ok found
        → tree_in body (seen_inside declared found.variables bodies) ≡ Some tree
        → Known made (bodies ++ (name, tree) ∷ []) → IsSomeAnd (with_body name params body declared bodies) (Known made)
    kept_in found tree f unnamed walked is after =
        subst (λ o. IsSomeAnd o (Known made))
        (sym (ap (λ b. option_and_then (λ _. option_and_then (λ tree. Some (bodies ++ (name, tree) ∷ [])) (body_tree name params body declared bodies)) (provided b))
        (no_body (has_name name bodies) refl unnamed)
        ∙ ap (λ w. option_and_then (λ tree. Some (bodies ++ (name, tree) ∷ []))
        (option_and_then (λ found. tree_in body (seen_inside declared found.variables bodies)) (given_by w))) walked
        ∙ ap (option_and_then (λ tree. Some (bodies ++ (name, tree) ∷ []))) is))
        after
