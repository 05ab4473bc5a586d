-- In an accepted program there are ports wherever there is a game expression.
use Rattle.std.proofs.Common.{◌≡◌, ◌∙◌, ℕ, suc, ◌+◌, ◌^◌, List, [], ◌∷◌, length, take, refl, ap, sym, subst, arith}
use Rattle.std.proofs.lemmas.Slice.Eq.{bytes_eq-Decides}
use Rattle.std.specs.Prelude.{Option, Some, None, Ok, Err, Bool, true, false, if◌then◌else◌, nat_le, nat_lt, is_some, option_and_then, IsSome, ◌↔◌, Result, IfOk}
use Rattle.og_native.specs.declared.ports.Ports.{Ports}
use Rattle.og_names.specs.Names.{same_name}
use Rattle.og_syntax.specs.declared.games.GameTree.{GameTree}
use Rattle.og_syntax.specs.declared.declarations.Decl.{Decl}
use Rattle.og_syntax.specs.declared.declarations.Decl.TheVariants as decls
use Rattle.og_syntax.specs.declared.declarations.GameParam.{GameParam}
use Rattle.og_syntax.specs.declared.declarations.Program.{Program}
use Rattle.og_typing.specs.declared.fault.WireFault.TheVariants.{TooBig}
use Rattle.og_typing.specs.Checked.{◌>>=◌, ◌>>◌, rule}
use Rattle.og_typing.specs.Sizes.{plus}
use Rattle.og_typing.specs.Variables.{name_free}
use Rattle.og_typing.proofs.Steps.{bind_ok}
use Rattle.og_wires.specs.declared.programs.GameParams.{GameParams}
use Rattle.og_wires.specs.declared.programs.Declarations.{Declarations}
use Rattle.og_wires.specs.Sites.{Blocks}
use Rattle.og_wires.specs.Games.{game_place, game_walk}
use Rattle.og_wires.specs.Programs.{no_names, game_params_walk, body_walk, site_of, game_kept, with_game, game_declared, decl_walk, decls_walk, end_walk, all_walk, IsWired}
use Rattle.og_places.specs.declared.places.Step.{Step}
use Rattle.og_places.specs.declared.places.Place.{Place}
use Rattle.og_places.specs.Expressions.{level_at, expression_walk}
use Rattle.og_places.specs.Places.{Declared, subtree, game_from, game_named, expression_at, ports_given, ports_within, ports_named, ports_there}
use Rattle.og_places.proofs.Parts.{Accepts, expression_walked}

-- The declarations before a game, its parameters and its body are accepted, from what is known.
record Kept (blocks : Blocks) (name : List ℕ) (number : ℕ) (start : Declarations) (before : List Decl) (game : Declared)
    : Type 0 where
  known : Declarations
  walked : decls_walk blocks number start before ≡ Ok known
  found : GameParams
  given : game_params_walk known.declared name game.params ≡ Ok found
  body : Accepts (site_of known name found.given blocks) (record { depth = 1; inside = 0 }) game.body

module _ (blocks : Blocks) (name : List ℕ) where
  -- a game whose declaration is accepted
  game_first : (at number from : ℕ) (known next : Declarations) (params : List GameParam) (body : GameTree)
      → game_declared blocks number at name known params body ≡ Ok next
      → Kept blocks name number known [] (record { number = from; params = params; body = body })
  game_first at number from known next params body is =
      let free = bind_ok (name_free known.declared at name)
      (λ _. game_kept blocks number at name known params body >>= (λ game. Ok (with_game known name game))) next is in
      let kept = bind_ok (game_kept blocks number at name known params body) (λ game. Ok (with_game known name game))
      next free.2 in
      let found = bind_ok (game_params_walk known.declared name params)
      (λ found. body_walk (site_of known name found.given blocks) body
      >>= (λ kind. Ok (record { number = number; at = at; params = found.kinds; kind = kind }))) kept.0 kept.1 in
      let inside = bind_ok (body_walk (site_of known name found.0.given blocks) body)
      (λ kind. Ok (record { number = number; at = at; params = found.0.kinds; kind = kind })) kept.0 found.2 in
      let walked = bind_ok (game_walk body (site_of known name found.0.given blocks) (record { depth = 1; inside = 0 }))
      (λ kind. rule (nat_le kind.size.nodes 65536) (TooBig (game_place body)) >> Ok kind) inside.0 inside.1 in
      record { known = known; walked = refl; found = found.0; given = found.1; body = (walked.0, walked.1) }

  -- with an accepted declaration in front
  kept_behind : (number : ℕ) (known next : Declarations) (decl : Decl) (before : List Decl) (game : Declared)
      → decl_walk blocks number known decl ≡ Ok next → Kept blocks name (plus number 1) next before game
      → Kept blocks name number known (decl ∷ before) game
  kept_behind number known next decl before game is kept = record {
    known = kept.known;
    walked = ap (λ walk. walk >>= (λ more. decls_walk blocks (plus number 1) more before)) is ∙ kept.walked;
    found = kept.found;
    given = kept.given;
    body = kept.body;
  }

  -- The game stands behind so many of the declarations, and is kept with these.
  record Behind (number from : ℕ) (known : Declarations) (decls : List Decl) (game : Declared) : Type 0 where
    count : ℕ
    numbered : game.number ≡ from + count
    kept : Kept blocks name number known (take count decls) game

  behind_more : (number from : ℕ) (known next : Declarations) (decl : Decl) (more : List Decl) (game : Declared)
      → decl_walk blocks number known decl ≡ Ok next → Behind (plus number 1) (from + 1) next more game
      → Behind number from known (decl ∷ more) game
  behind_more number from known next decl more game is behind = record {
    count = suc behind.count;
    numbered = omega (arith, behind.numbered);
    kept = kept_behind number known next decl (take behind.count more) game is behind.kept;
  }

  -- a game's declaration is the one that is looked for, or the game stands behind it
  game_case : (number from at : ℕ) (other : List ℕ) (known next : Declarations) (params : List GameParam) (body : GameTree)
      (more : List Decl) (game : Declared) (b : Bool)
      → decl_walk blocks number known (decls.Game at other params body) ≡ Ok next
      → (game_from (from + 1) name more ≡ Some game → Behind (plus number 1) (from + 1) next more game) → same_name other name ≡ b
      → (if b then Some (record { number = from; params = params; body = body }) else game_from (from + 1) name more) ≡ Some game
      → Behind number from known (decls.Game at other params body ∷ more) game
  game_case number from at other known next params body more game true declared behind same is =
      let named : other ≡ name = (bytes_eq-Decides other name).0 same in
      let found : record { number = from; params = params; body = body } ≡ game = cc is in
      let walked = ap (λ n. game_declared blocks number at n known params body) (sym named) ∙ declared in
      subst (Behind number from known (decls.Game at other params body ∷ more)) found (record {
        count = 0;
        numbered = omega arith;
        kept = game_first at number from known next params body walked;
      })
  game_case number from at other known next params body more game false declared behind same is =
      behind_more number from known next (decls.Game at other params body) more game declared (behind is)

  -- each game among accepted declarations
  game_found : (number from : ℕ) (known last : Declarations) (decls : List Decl) (game : Declared)
      → decls_walk blocks number known decls ≡ Ok last → game_from from name decls ≡ Some game
      → Behind number from known decls game
  game_found number from known last [] game walks is = cc
  game_found number from known last (decls.Game at other params body ∷ more) game walks is =
      let next = bind_ok (decl_walk blocks number known (decls.Game at other params body))
      (λ next. decls_walk blocks (plus number 1) next more) last walks in
      game_case number from at other known next.0 params body more game (same_name other name) next.1
      (game_found (plus number 1) (from + 1) next.0 last more game next.2) refl is
  game_found number from known last (decls.Enum at other cases ∷ more) game walks is =
      let next = bind_ok (decl_walk blocks number known (decls.Enum at other cases))
      (λ next. decls_walk blocks (plus number 1) next more) last walks in
      behind_more number from known next.0 (decls.Enum at other cases) more game next.1
      (game_found (plus number 1) (from + 1) next.0 last more game next.2 is)
  game_found number from known last (decls.Alias at other t ∷ more) game walks is =
      let next = bind_ok (decl_walk blocks number known (decls.Alias at other t))
      (λ next. decls_walk blocks (plus number 1) next more) last walks in
      behind_more number from known next.0 (decls.Alias at other t) more game next.1
      (game_found (plus number 1) (from + 1) next.0 last more game next.2 is)
  game_found number from known last (decls.Fn at other params answer body ∷ more) game walks is =
      let next = bind_ok (decl_walk blocks number known (decls.Fn at other params answer body))
      (λ next. decls_walk blocks (plus number 1) next more) last walks in
      behind_more number from known next.0 (decls.Fn at other params answer body) more game next.1
      (game_found (plus number 1) (from + 1) next.0 last more game next.2 is)

-- what the walk of an accepted expression gives
walk_there : (blocks : Blocks) (name : List ℕ) (before : List Decl) (game : Declared) (steps : List Step) (expression : GameTree)
    → Kept blocks name 0 no_names before game → subtree steps game.body ≡ Some expression
    → is_some (ports_given (expression_walk blocks before name game.params (level_at steps) expression)) ≡ true
walk_there blocks name before game steps expression kept is =
    let known = kept.known in
    let accepted = expression_walked (site_of known name kept.found.given blocks) steps game.body expression kept.body is in
    let declared = ap (λ walk. walk >>= (λ known. game_params_walk known.declared name game.params >>= (λ found.
    game_walk expression (site_of known name found.given blocks) (level_at steps)))) kept.walked in
    let given = ap (λ walk. walk >>= (λ found.
    game_walk expression (site_of known name found.given blocks) (level_at steps))) kept.given in
    ap (λ walk. is_some (ports_given walk)) (declared ∙ given ∙ accepted.1)

module _ (blocks : Blocks) (p : Program) (place : Place) (wired : IsWired blocks p) where
  all_declared : (known : Declarations) × (decls_walk blocks 0 no_names p.decls ≡ Ok known)
  all_declared =
      let counted = bind_ok (rule (nat_lt (length p.decls) (2 ^ 32)) (TooBig p.at)) (λ _. all_walk blocks p)
      wired.known wired.walks in
      let declared = bind_ok (decls_walk blocks 0 no_names p.decls) (λ known. end_walk p.at known >> Ok known)
      wired.known counted.2 in
      (declared.0, declared.1)

  game_kept_there : (game : Declared) → game_named place.game p.decls ≡ Some game
      → Kept blocks place.game 0 no_names (take game.number p.decls) game
  game_kept_there game is =
      let all = all_declared in
      let behind = game_found blocks place.game 0 0 no_names all.0 p.decls game all.1 is in
      let same : behind.count ≡ game.number = omega (arith, behind.numbered) in
      subst (λ n. Kept blocks place.game 0 no_names (take n p.decls) game) same behind.kept

  same_within : (game : Declared) (expression : Option GameTree) → game_named place.game p.decls ≡ Some game
      → subtree place.steps game.body ≡ expression
      → is_some (option_and_then (λ g. ports_given (expression_walk blocks (take game.number p.decls) place.game game.params
      (level_at place.steps) g)) expression) ≡ is_some expression
  same_within game (Some expression) named is =
      walk_there blocks place.game (take game.number p.decls) game place.steps expression (game_kept_there game named) is
  same_within game None named is = refl

  same_there : (game : Option Declared) → game_named place.game p.decls ≡ game
      → is_some (option_and_then (ports_within blocks p.decls place) game)
      ≡ is_some (option_and_then (λ g. subtree place.steps g.body) game)
  same_there (Some game) is = same_within game (subtree place.steps game.body) is refl
  same_there None is = refl

  pub there : IsSome (ports_there blocks p place) ↔ IsSome (expression_at p place)
  there =
      let same = same_there (game_named place.game p.decls) refl in
      ((λ is. sym same ∙ is), (λ is. same ∙ is))

-- what a call has answered that found the ports
pub answered : {E : Type 0} (blocks known : Blocks) (p : Program) (place : Place) (result : Result (Option Ports) E)
    → IsWired blocks p → known ≡ blocks → IfOk result (λ found. found ≡ ports_named known p.decls place)
    → IfOk result (λ found. IsSome found ↔ IsSome (expression_at p place))
answered blocks known p place (Ok found) wired same is =
    let equal : found ≡ ports_there blocks p place = is ∙ ap (λ b. ports_named b p.decls place) same in
    subst (λ ports. IsSome ports ↔ IsSome (expression_at p place)) (sym equal) (there blocks p place wired)
answered blocks known p place (Err fault) wired same is = tt
