-- What is known of the trees that names stand for, and what an expression's tree then is.
use Rattle.std.specs.Prelude.{◌≡◌, ℕ, ◌^◌, nat_lt, true, List, length, Some, None, slice_get, Contains, IsSomeAnd}
use Rattle.og_types.specs.declared.ty.Ty.{Ty}
use Rattle.og_types.specs.Ty.{bounds_fit}
use Rattle.og_expr.specs.declared.node.Term.{Term}
use Rattle.og_expr.specs.Types.{type_of, goes_as}
use Rattle.og_expr.specs.Variables.{variables_of}
use Rattle.og_expr.specs.Variables as exprs
use Rattle.og_game.specs.declared.scope.Variable.{Variable}
use Rattle.og_names.specs.Names.{lookup, place, has_name}
use Rattle.og_typing.specs.declared.meaning.Function.{Function}
use Rattle.og_typing.specs.declared.meaning.Given.TheVariants as givens
use Rattle.og_typing.specs.declared.meaning.Meaning.{Meaning}
use Rattle.og_typing.specs.declared.meaning.Meaning.TheVariants as meanings
use Rattle.og_typing.specs.Types.{Table}
use Rattle.og_typing.specs.Scopes.{Names}
use Rattle.og_inlining.specs.Seen.{Seen}
use Rattle.og_inlining.specs.Trees.{tree_goes}

-- the names with the trees of the game's parameters and of the functions' bodies
abbrev pub seen_with : Names → Table Term → Table Term → Seen
seen_with names given bodies =
    record { declared = names.declared; variables = names.variables; given = given; bodies = bodies }

-- The body's type goes as the function's, and its variables are the parameters, by their places.
pub record IsBody (f : Function) (body : Term) : Type 0 where
  pub answer : goes_as f.answer (type_of body) ≡ true
  pub params : (v : exprs.Variable) → Contains (variables_of body) v → slice_get f.params v.0 ≡ Some v.1

-- What names stand for as trees goes as what they stand for in the walk.
pub record Fits (names : Names) (given bodies : Table Term) : Type 0 where
  pub few : nat_lt (length names.variables) (2 ^ 32) ≡ true
  pub variables : (name : List ℕ) (v : Variable) → lookup name names.variables ≡ Some v → bounds_fit v.ty ≡ true
  pub values : (name : List ℕ) (t : Ty) → lookup name names.given ≡ Some (givens.Value t) → tree_goes t (lookup name given) ≡ true
  pub others : (name : List ℕ) → lookup name names.given ≡ None → lookup name given ≡ None
  pub types : (name : List ℕ) (t : Ty) → lookup name names.declared ≡ Some (meanings.Type t) → bounds_fit t ≡ true
  pub cases : (name : List ℕ) (family cases index : ℕ)
      → lookup name names.declared ≡ Some (meanings.Case family cases index) → nat_lt index cases ≡ true
  pub functions : (name : List ℕ) (f : Function) → lookup name names.declared ≡ Some (meanings.Function f)
      → IsSomeAnd (lookup name bodies) (IsBody f)

-- The bodies are those of the declared functions, and the declared types and cases are as they are made.
pub record Known (declared : Table Meaning) (bodies : Table Term) : Type 0 where
  pub types : (name : List ℕ) (t : Ty) → lookup name declared ≡ Some (meanings.Type t) → bounds_fit t ≡ true
  pub cases : (name : List ℕ) (family cases index : ℕ)
      → lookup name declared ≡ Some (meanings.Case family cases index) → nat_lt index cases ≡ true
  pub functions : (name : List ℕ) (f : Function) → lookup name declared ≡ Some (meanings.Function f)
      → IsSomeAnd (lookup name bodies) (IsBody f)
  pub names : (name : List ℕ) → has_name name bodies ≡ true → has_name name declared ≡ true

-- Each name stands for the same in the second as in the first, where it stands for something in the first.
pub record Extends (seen more : Seen) : Type 0 where
  pub places : (name : List ℕ) (k : ℕ) → place name seen.variables ≡ Some k → place name more.variables ≡ Some k
  pub variables : (name : List ℕ) (v : Variable) → lookup name seen.variables ≡ Some v → lookup name more.variables ≡ Some v
  pub new : (name : List ℕ) (k : ℕ) → place name seen.variables ≡ None → place name more.variables ≡ Some k
      → (lookup name seen.given ≡ None) × (lookup name seen.declared ≡ None)
  pub given : (name : List ℕ) → lookup name more.given ≡ lookup name seen.given
  pub declared : (name : List ℕ) (m : Meaning) → lookup name seen.declared ≡ Some m → lookup name more.declared ≡ Some m
  pub bodies : (name : List ℕ) (body : Term) → lookup name seen.bodies ≡ Some body → lookup name more.bodies ≡ Some body
