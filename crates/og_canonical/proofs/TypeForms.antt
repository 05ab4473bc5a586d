-- What the canonical text is at a tuple of types.
use Rattle.std.proofs.Common.{◌≡◌, ℕ, List, map, ap, sym, ◌∙◌}
use Rattle.og_syntax.specs.declared.types.TyTree.{TyTree}
use Rattle.og_syntax.specs.declared.types.TyTree.TheOpen as ty_level
use Rattle.og_syntax.specs.declared.types.TyTree.TheFolds.{fold-roll-TyTree}
use Rattle.og_syntax.specs.declared.types.TyTree.TheVariants as tys
use Rattle.og_canonical.specs.Tokens.{commas, in_parens}
use Rattle.og_canonical.specs.Types.{ty_text, ty_step}

pub tuple_text : (at : ℕ) (ts : List TyTree) → ty_text (tys.Tuple at ts) ≡ in_parens (commas (map ty_text ts))
tuple_text at ts = ap ty_text (sym (tys.rolls-Tuple at ts)) ∙ fold-roll-TyTree (List ℕ) ty_step (ty_level.Tuple at ts)
