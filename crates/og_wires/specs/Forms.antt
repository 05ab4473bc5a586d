-- Which games have no parts.
use Rattle.std.specs.Prelude.{Bool, true, false}
use Rattle.og_syntax.specs.declared.games.GameTree.{GameTree}
use Rattle.og_syntax.specs.declared.games.GameTree.TheOpen.{GameTree-F}
use Rattle.og_syntax.specs.declared.games.GameTree.TheOpen as forms
use Rattle.og_syntax.specs.declared.games.GameTree.TheViews.{out-GameTree}

abbrev pub is_atom_form : {A : Type 0} → GameTree-F A → Bool
is_atom_form (forms.Seq left right) = false
is_atom_form (forms.Par left right) = false
is_atom_form (forms.Block at block) = false
is_atom_form (forms.Branch at selector arms) = false
is_atom_form _ = true

-- neither a composition nor a block nor a branch
abbrev pub is_atom : GameTree → Bool
is_atom g = is_atom_form (out-GameTree g)
