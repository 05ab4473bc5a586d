-- What definitions on written types and values give at tuples.
use Rattle.std.proofs.Common.{◌≡◌, ◌∙◌, ℕ, List, [], ◌∷◌, map, refl, ap, sym}
use Rattle.og_types.specs.declared.ty.Ty.{Ty}
use Rattle.og_syntax.specs.declared.types.TyTree.{TyTree}
use Rattle.og_syntax.specs.declared.types.TyTree.TheOpen as one
use Rattle.og_syntax.specs.declared.types.TyTree.TheFolds.{fold-roll-TyTree}
use Rattle.og_syntax.specs.declared.types.TyTree.TheVariants as trees
use Rattle.og_typing.specs.declared.meaning.Meaning.{Meaning}
use Rattle.og_typing.specs.Checked.{Checked, ◌>>=◌, in_turn}
use Rattle.og_typing.specs.Types.{Table, with_type, tuple_type, type_rule, type_walk, types_walk}

-- in turn over parts that something was made of
pub in_turn-map : {X Y A : Type 0} (step : A → Y → Checked A) (f : X → Y) (found : A) (xs : List X)
    → in_turn step found (map f xs) ≡ in_turn (λ a x. step a (f x)) found xs
in_turn-map step f found [] = refl
in_turn-map step f found (x ∷ xs) = ap (λ k. step found (f x) >>= k) (λ i next. in_turn-map step f next xs i)

pub tuple_walk : (at : ℕ) (parts : List TyTree) (declared : Table Meaning)
    → type_walk (trees.Tuple at parts) declared
    ≡ (types_walk declared [] parts >>= (λ types. tuple_type at types))
tuple_walk at parts declared =
    (λ i. type_walk (sym (trees.rolls-Tuple at parts) i) declared)
    ∙ (λ i. fold-roll-TyTree (Table Meaning → Checked Ty) type_rule (one.Tuple at parts) i declared)
    ∙ ap (λ walk. walk >>= (λ types. tuple_type at types)) (in_turn-map (with_type declared) type_walk [] parts)
