-- The canonical text of types, of variables with their types, and of names. The `step` is the rule for one form,
-- whose parts are already texts.
use Rattle.std.specs.Prelude.{ℕ, List, ◌++◌, map}
use Rattle.og_lex.specs.declared.token.Word.TheVariants as words
use Rattle.og_lex.specs.declared.token.Mark.TheVariants as marks
use Rattle.og_syntax.specs.declared.types.NameTree.{NameTree}
use Rattle.og_syntax.specs.declared.types.ParamTree.{ParamTree}
use Rattle.og_syntax.specs.declared.types.TyTree.{TyTree}
use Rattle.og_syntax.specs.declared.types.TyTree.TheOpen.{TyTree-F}
use Rattle.og_syntax.specs.declared.types.TyTree.TheOpen as ty_level
use Rattle.og_syntax.specs.declared.types.TyTree.TheFolds.{fold-TyTree}
use Rattle.og_canonical.specs.Tokens.{spaced, mark, word, whole, commas, in_parens, in_brackets}
use Rattle.std.specs.Prelude.{ℤ}

-- from one bound to another
unfoldable pub range_text : ℤ → ℤ → List ℕ
range_text low high = whole low ++ mark marks.DotDot ++ whole high

abbrev pub ty_step : TyTree-F (List ℕ) → List ℕ
ty_step (ty_level.Name at name) = spaced name
ty_step (ty_level.Bool at) = word words.Bool
ty_step (ty_level.Number at) = word words.Number
ty_step (ty_level.Range at low high) = range_text low high
ty_step (ty_level.Tuple at parts) = in_parens (commas parts)

abbrev pub ty_text : TyTree → List ℕ
ty_text = fold-TyTree (List ℕ) ty_step

-- types in square brackets
abbrev pub tys_text : List TyTree → List ℕ
tys_text tys = in_brackets (commas (map ty_text tys))

unfoldable pub param_text : ParamTree → List ℕ
param_text param = spaced param.name ++ mark marks.Colon ++ ty_text param.ty

abbrev pub params_text : List ParamTree → List ℕ
params_text params = commas (map param_text params)

abbrev pub names_text : List NameTree → List ℕ
names_text names = commas (map (λ each. spaced each.name) names)
