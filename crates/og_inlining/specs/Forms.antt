-- Operations on numbers by their forms.
use Rattle.std.specs.Prelude.{Bool, true, false}
use Rattle.og_syntax.specs.declared.expressions.ExprTree.{ExprTree}
use Rattle.og_syntax.specs.declared.expressions.ExprTree.TheOpen.{ExprTree-F}
use Rattle.og_syntax.specs.declared.expressions.ExprTree.TheOpen as forms
use Rattle.og_syntax.specs.declared.expressions.ExprTree.TheViews.{out-ExprTree}

abbrev pub is_chain_form : {A : Type 0} → ExprTree-F A → Bool
is_chain_form (forms.Sum at first rest) = true
is_chain_form (forms.Product at first rest) = true
is_chain_form _ = false

-- a chain of operations
abbrev pub is_chain : ExprTree → Bool
is_chain e = is_chain_form (out-ExprTree e)

abbrev pub is_quotient_form : {A : Type 0} → ExprTree-F A → Bool
is_quotient_form (forms.Ratio at x y otherwise) = true
is_quotient_form _ = false

-- a quotient
abbrev pub is_quotient : ExprTree → Bool
is_quotient e = is_quotient_form (out-ExprTree e)

abbrev pub is_pick_form : {A : Type 0} → ExprTree-F A → Bool
is_pick_form (forms.Min at first second) = true
is_pick_form (forms.Max at first second) = true
is_pick_form _ = false

-- the lesser or the greater of two
abbrev pub is_pick : ExprTree → Bool
is_pick e = is_pick_form (out-ExprTree e)
