-- Parts of accepted expressions: their trees, and how the types of these go.
use Rattle.std.proofs.Common.{◌≡◌, ◌∙◌, ℕ, Bool, true, false, suc, List, [], ◌∷◌, ◌++◌, map, length, refl, ap, sym, subst, true≢false}
use Rattle.std.specs.Option.{option_map}
use Rattle.std.proofs.lemmas.Option.{same_Some}
use Rattle.std.specs.Prelude.{Option, Some, None, option_and_then, nat_lt, ◌^◌, ◌&&◌, max, Ok}
use Rattle.std.specs.Cmp.Lexicographic.{pointwise}
use Rattle.std.specs.List.{list_all, AllByRecursion}
use Rattle.std.proofs.lemmas.Bool.{and_from}
use Rattle.std.proofs.lemmas.List.{append_assoc, append-nil}
use Rattle.og_types.specs.declared.ty.Ty.{Ty}
use Rattle.og_types.specs.declared.ty.Ty.TheVariants as ty
use Rattle.og_types.specs.Ty.{fits, join}
use Rattle.og_types.proofs.FitsLaws.{fits_itself, fits_along}
use Rattle.og_types.proofs.JoinLaws.{join_fits}
use Rattle.og_expr.specs.declared.node.Addend.{Addend}
use Rattle.og_expr.specs.declared.node.Addend.TheVariants as addends
use Rattle.og_expr.specs.declared.node.Factor.{Factor}
use Rattle.og_expr.specs.declared.node.Factor.TheVariants as factors
use Rattle.og_expr.specs.declared.node.Choice.{Choice}
use Rattle.og_expr.specs.declared.node.Term.{Term}
use Rattle.og_expr.specs.Levels.{addend_with, factor_with, choice_with}
use Rattle.og_expr.specs.Types.{goes_as, addend_fits, factor_fits, each_of as each_type, type_of}
use Rattle.og_syntax.specs.declared.expressions.ExprTree.{ExprTree}
use Rattle.og_syntax.specs.declared.expressions.SumPart.{SumPart}
use Rattle.og_syntax.specs.declared.expressions.SumPart.TheVariants as sums
use Rattle.og_syntax.specs.declared.expressions.ProductPart.{ProductPart}
use Rattle.og_syntax.specs.declared.expressions.ProductPart.TheVariants as products
use Rattle.og_syntax.specs.declared.expressions.IfArm.{IfArm}
use Rattle.og_typing.specs.declared.fault.WireFault.TheVariants.{WrongType}
use Rattle.og_typing.specs.declared.kind.Kind.{Kind}
use Rattle.og_typing.specs.declared.kind.Kinds.{Kinds}
use Rattle.og_typing.specs.declared.kind.Joined.{Joined}
use Rattle.og_typing.specs.Checked.{rule, in_turn}
use Rattle.og_typing.specs.Levels.{sum_with, product_with, arm_with}
use Rattle.og_typing.specs.Scopes.{Names}
use Rattle.og_typing.specs.Expressions.{part_of, expr_walk, goes, fitting, all_fitting, join_found, joined_type, joining, joined, sum_fitting, product_fitting, with_kind, beside, arm_walk}
use Rattle.og_typing.proofs.Steps.{bind_ok, rule_holds}
use Rattle.og_inlining.specs.Seen.{Seen}
use Rattle.og_inlining.specs.Trees.{tree_in, part_tree, addend_tree, factor_tree, arm_tree, tree_goes}
use Rattle.og_inlining.proofs.Induction.{OfSum, OfProduct, OfArm}
use Rattle.og_inlining.proofs.Accepted.{one_answer, weaker, Fitting, fitting_tree, Each, each_nil, each_cons}

-- An accepted expression has a tree, whose type goes as the one that was found.
abbrev pub Sound : Names → Seen → ExprTree → Type 0
Sound names seen e = (depth : ℕ) (k : Kind) → expr_walk e names depth ≡ Ok k → tree_goes k.ty (tree_in e seen) ≡ true

-- ---- parts of a wanted type

pub goes_fits : (at : ℕ) (wanted : Ty) (deep : ℕ) (found : Kind) (d : ℕ) → goes at wanted deep found ≡ Ok d
    → fits found.ty wanted ≡ true
goes_fits at wanted deep found d is =
    let held = bind_ok (rule (fits found.ty wanted) (WrongType at)) (λ _. Ok (max deep found.deep)) d is in
    rule_holds (fits found.ty wanted) (WrongType at) held.0 held.1

pub part_fits : (names : Names) (seen : Seen) (depth deep d : ℕ) (wanted : Ty) (e : ExprTree) → Sound names seen e
    → fitting names depth wanted deep (part_of e) ≡ Ok d → Fitting wanted (tree_in e seen)
part_fits names seen depth deep d wanted e sound is =
    let walked = bind_ok (expr_walk e names depth) (goes (part_of e).at wanted deep) d is in
    let there = fitting_tree walked.0.ty (tree_in e seen) (sound depth walked.0 walked.1) in
    record {
      tree = there.tree;
      is = there.is;
      goes = weaker walked.0.ty wanted (type_of there.tree) there.goes (goes_fits (part_of e).at wanted deep walked.0 d walked.2);
    }

pub record AllFit (seen : Seen) (wanted : Ty) (es : List ExprTree) : Type 0 where
  pub trees : List Term
  pub are : Each (part_tree seen) (map tree_in es) trees
  pub go : list_all (goes_as wanted) (map type_of trees) ≡ true
  pub count : length trees ≡ length es

pub parts_fit : (names : Names) (seen : Seen) (depth deep d : ℕ) (wanted : Ty) (es : List ExprTree)
    → AllByRecursion (Sound names seen) es → all_fitting names depth wanted deep (map part_of es) ≡ Ok d
    → AllFit seen wanted es
parts_fit names seen depth deep d wanted [] sound is =
    record { trees = []; are = each_nil (part_tree seen); go = refl; count = refl }
parts_fit names seen depth deep d wanted (e ∷ es) sound is =
    let walked = bind_ok (fitting names depth wanted deep (part_of e))
    (λ next. all_fitting names depth wanted next (map part_of es)) d is in
    let first = part_fits names seen depth deep walked.0 wanted e sound.0 walked.1 in
    let rest = parts_fit names seen depth walked.0 d wanted es sound.1 walked.2 in
    record {
      trees = first.tree ∷ rest.trees;
      are = each_cons (part_tree seen) (tree_in e) (map tree_in es) first.tree rest.trees first.is rest.are;
      go = and_from (goes_as wanted (type_of first.tree)) (list_all (goes_as wanted) (map type_of rest.trees)) first.goes rest.go;
      count = ap suc rest.count;
    }

-- ---- chains

pub record SumsFit (seen : Seen) (rest : List (SumPart ExprTree)) : Type 0 where
  pub trees : List (Addend Term)
  pub are : Each (addend_tree seen) (map (sum_with tree_in) rest) trees
  pub go : list_all addend_fits (map (addend_with type_of) trees) ≡ true
  pub count : length trees ≡ length rest

abbrev SumFits : Seen → SumPart ExprTree → Type 0
SumFits seen part =
    (tree : Addend Term) × (addend_tree seen (sum_with tree_in part) ≡ Some tree) × (addend_fits (addend_with type_of tree) ≡ true)

sum_fits : (names : Names) (seen : Seen) (depth deep d : ℕ) (part : SumPart ExprTree) → OfSum (Sound names seen) part
    → sum_fitting names depth deep (sum_with part_of part) ≡ Ok d → SumFits seen part
sum_fits names seen depth deep d (sums.Plus e) sound is =
    let there = part_fits names seen depth deep d ty.Number e sound is in
    (addends.Plus there.tree, ap (option_and_then (λ e. Some (addends.Plus e))) there.is, there.goes)
sum_fits names seen depth deep d (sums.Minus e) sound is =
    let there = part_fits names seen depth deep d ty.Number e sound is in
    (addends.Minus there.tree, ap (option_and_then (λ e. Some (addends.Minus e))) there.is, there.goes)

pub sums_fit : (names : Names) (seen : Seen) (depth deep d : ℕ) (rest : List (SumPart ExprTree))
    → AllByRecursion (OfSum (Sound names seen)) rest
    → in_turn (sum_fitting names depth) deep (map (sum_with part_of) rest) ≡ Ok d → SumsFit seen rest
sums_fit names seen depth deep d [] sound is =
    record { trees = []; are = each_nil (addend_tree seen); go = refl; count = refl }
sums_fit names seen depth deep d (part ∷ rest) sound is =
    let walked = bind_ok (sum_fitting names depth deep (sum_with part_of part))
    (λ next. in_turn (sum_fitting names depth) next (map (sum_with part_of) rest)) d is in
    let first = sum_fits names seen depth deep walked.0 part sound.0 walked.1 in
    let more = sums_fit names seen depth walked.0 d rest sound.1 walked.2 in
    record {
      trees = first.0 ∷ more.trees;
      are = each_cons (addend_tree seen) (sum_with tree_in part) (map (sum_with tree_in) rest) first.0 more.trees first.1 more.are;
      go = and_from (addend_fits (addend_with type_of first.0)) (list_all addend_fits (map (addend_with type_of) more.trees)) first.2 more.go;
      count = ap suc more.count;
    }

pub record ProductsFit (seen : Seen) (rest : List (ProductPart ExprTree)) : Type 0 where
  pub trees : List (Factor Term)
  pub are : Each (factor_tree seen) (map (product_with tree_in) rest) trees
  pub go : list_all factor_fits (map (factor_with type_of) trees) ≡ true
  pub count : length trees ≡ length rest

abbrev ProductFits : Seen → ProductPart ExprTree → Type 0
ProductFits seen part =
    (tree : Factor Term) × (factor_tree seen (product_with tree_in part) ≡ Some tree) × (factor_fits (factor_with type_of tree) ≡ true)

product_fits : (at : ℕ) (names : Names) (seen : Seen) (depth deep d : ℕ) (part : ProductPart ExprTree)
    → OfProduct (Sound names seen) part
    → product_fitting at names depth deep (product_with part_of part) ≡ Ok d → ProductFits seen part
product_fits at names seen depth deep d (products.Times e) sound is =
    let there = part_fits names seen depth deep d ty.Number e sound is in
    (factors.Times there.tree, ap (option_and_then (λ e. Some (factors.Times e))) there.is, there.goes)
product_fits at names seen depth deep d (products.Over n) sound is =
    let held = bind_ok (rule (nat_lt 0 n && nat_lt n (2 ^ 63)) (WrongType at)) (λ _. Ok deep) d is in
    (factors.Over n, refl, rule_holds (nat_lt 0 n && nat_lt n (2 ^ 63)) (WrongType at) held.0 held.1)

pub products_fit : (at : ℕ) (names : Names) (seen : Seen) (depth deep d : ℕ) (rest : List (ProductPart ExprTree))
    → AllByRecursion (OfProduct (Sound names seen)) rest
    → in_turn (product_fitting at names depth) deep (map (product_with part_of) rest) ≡ Ok d → ProductsFit seen rest
products_fit at names seen depth deep d [] sound is =
    record { trees = []; are = each_nil (factor_tree seen); go = refl; count = refl }
products_fit at names seen depth deep d (part ∷ rest) sound is =
    let walked = bind_ok (product_fitting at names depth deep (product_with part_of part))
    (λ next. in_turn (product_fitting at names depth) next (map (product_with part_of) rest)) d is in
    let first = product_fits at names seen depth deep walked.0 part sound.0 walked.1 in
    let more = products_fit at names seen depth walked.0 d rest sound.1 walked.2 in
    record {
      trees = first.0 ∷ more.trees;
      are = each_cons (factor_tree seen) (product_with tree_in part) (map (product_with tree_in) rest) first.0 more.trees first.1 more.are;
      go = and_from (factor_fits (factor_with type_of first.0)) (list_all factor_fits (map (factor_with type_of) more.trees)) first.2 more.go;
      count = ap suc more.count;
    }

-- ---- parts beside each other

-- The types go as these, place by place.
abbrev pub go_as : List Ty → Option (List Ty) → Bool
go_as ts None = false
go_as ts (Some us) = pointwise fits us ts

pub record Beside (seen : Seen) (before after : List Ty) (es : List ExprTree) : Type 0 where
  pub trees : List Term
  pub types : List Ty
  pub are : Each (part_tree seen) (map tree_in es) trees
  pub behind : after ≡ before ++ types
  pub go : go_as types (each_type (map type_of trees)) ≡ true
  pub count : length trees ≡ length es

first_goes : (t : Ty) (ts : List Ty) (o : Option Ty) (os : Option (List Ty)) → goes_as t o ≡ true → go_as ts os ≡ true
    → go_as (t ∷ ts) (option_and_then (λ a. option_map (λ as'. a ∷ as') os) o) ≡ true
first_goes t ts None os first rest = absurd (true≢false (sym first))
first_goes t ts (Some u) None first rest = absurd (true≢false (sym rest))
first_goes t ts (Some u) (Some us) first rest = and_from (fits u t) (pointwise fits us ts) first rest

pub beside_fit : (names : Names) (seen : Seen) (depth : ℕ) (before after : Kinds) (es : List ExprTree)
    → AllByRecursion (Sound names seen) es → in_turn (beside names depth) before (map part_of es) ≡ Ok after
    → Beside seen before.types after.types es
beside_fit names seen depth before after [] sound is =
    record {
      trees = [];
      types = [];
      are = each_nil (part_tree seen);
      behind = sym (ap (λ k. k.types) (one_answer (Ok before) before after refl is)) ∙ sym (append-nil before.types);
      go = refl;
      count = refl;
    }
beside_fit names seen depth before after (e ∷ es) sound is =
    let walked = bind_ok (beside names depth before (part_of e)) (λ next. in_turn (beside names depth) next (map part_of es)) after is in
    let found = bind_ok (expr_walk e names depth) (λ found. Ok (with_kind before found.ty found.deep)) walked.0 walked.1 in
    let first = fitting_tree found.0.ty (tree_in e seen) (sound.0 depth found.0 found.1) in
    let rest = beside_fit names seen depth walked.0 after es sound.1 walked.2 in
    let next = ap (λ k. k.types)
    (one_answer (Ok (with_kind before found.0.ty found.0.deep)) (with_kind before found.0.ty found.0.deep) walked.0 refl found.2) in
    record {
      trees = first.tree ∷ rest.trees;
      types = found.0.ty ∷ rest.types;
      are = each_cons (part_tree seen) (tree_in e) (map tree_in es) first.tree rest.trees first.is rest.are;
      behind = rest.behind ∙ ap (λ ts. ts ++ rest.types) (sym next) ∙ append_assoc before.types (found.0.ty ∷ []) rest.types;
      go = first_goes found.0.ty rest.types (type_of first.tree) (each_type (map type_of rest.trees)) first.goes rest.go;
      count = ap suc rest.count;
    }

-- ---- parts that give one value

-- The type, where there is one, fits that.
abbrev pub Under : Option Ty → Ty → Type 0
Under o w = (s : Ty) → o ≡ Some s → fits s w ≡ true

pub found_join : (at : ℕ) (o : Option Ty) (t : Ty) → join_found at o ≡ Ok t → o ≡ Some t
found_join at None t is = cc
found_join at (Some u) t is = cc

pub record JoinedFit (seen : Seen) (before after : Option Ty) (e : ExprTree) : Type 0 where
  pub ty : Ty
  pub is : after ≡ Some ty
  pub there : Fitting ty (tree_in e seen)
  pub under : Under before ty

typed_join : (at : ℕ) (before : Option Ty) (found t : Ty) → joined_type at before found ≡ Ok t
    → (fits found t ≡ true) × Under before t
typed_join at None found t is =
    (subst (λ u. fits found u ≡ true) (one_answer (Ok found) found t refl is) (fits_itself found), λ s none. cc)
typed_join at (Some u) found t is =
    let both = join_fits u found t (found_join at (join u found) t is) in
    (both.1, λ s some. subst (λ v. fits v t ≡ true) (same_Some u s some) both.0)

pub joined_fits : (names : Names) (seen : Seen) (depth : ℕ) (before after : Joined) (e : ExprTree) → Sound names seen e
    → joined names depth before (part_of e) ≡ Ok after → JoinedFit seen before.ty after.ty e
joined_fits names seen depth before after e sound is =
    let walked = bind_ok (expr_walk e names depth) (joining (part_of e).at before) after is in
    let types = bind_ok (joined_type (part_of e).at before.ty walked.0.ty)
    (λ t. Ok (record { ty = Some t; deep = max before.deep walked.0.deep })) after walked.2 in
    let fit = typed_join (part_of e).at before.ty walked.0.ty types.0 types.1 in
    let there = fitting_tree walked.0.ty (tree_in e seen) (sound depth walked.0 walked.1) in
    record {
      ty = types.0;
      is = sym (ap (λ j. j.ty) (one_answer (Ok (record { ty = Some types.0; deep = max before.deep walked.0.deep }))
          (record { ty = Some types.0; deep = max before.deep walked.0.deep }) after refl types.2));
      there = record {
        tree = there.tree;
        is = there.is;
        goes = weaker walked.0.ty types.0 (type_of there.tree) there.goes fit.0;
      };
      under = fit.1;
    }

pub record ArmsFit (seen : Seen) (w : Ty) (before : Option Ty) (arms : List (IfArm ExprTree)) : Type 0 where
  pub trees : List (Choice Term)
  pub are : Each (arm_tree seen) (map (arm_with tree_in) arms) trees
  pub conditions : list_all (λ c. goes_as ty.Bool c.cond) (map (choice_with type_of) trees) ≡ true
  pub go : list_all (goes_as w) (map (λ c. c.body) (map (choice_with type_of) trees)) ≡ true
  pub count : length trees ≡ length arms
  pub under : Under before w

arm_there : (seen : Seen) (arm : IfArm ExprTree) (c e : Term) → tree_in arm.cond seen ≡ Some c → tree_in arm.body seen ≡ Some e
    → arm_tree seen (arm_with tree_in arm) ≡ Some (record { cond = c; body = e })
arm_there seen arm c e p q =
    ap (option_and_then (λ c. option_and_then (λ e. Some (record { cond = c; body = e })) (tree_in arm.body seen))) p
    ∙ ap (option_and_then (λ e. Some (record { cond = c; body = e }))) q

pub arms_fit : (names : Names) (seen : Seen) (depth : ℕ) (before after : Joined) (w : Ty) (arms : List (IfArm ExprTree))
    → AllByRecursion (OfArm (Sound names seen)) arms → in_turn (arm_walk names depth) before (map (arm_with part_of) arms) ≡ Ok after
    → Under after.ty w → ArmsFit seen w before.ty arms
arms_fit names seen depth before after w [] sound is under =
    record {
      trees = [];
      are = each_nil (arm_tree seen);
      conditions = refl;
      go = refl;
      count = refl;
      under = subst (λ j. Under j.ty w) (sym (one_answer (Ok before) before after refl is)) under;
    }
arms_fit names seen depth before after w (arm ∷ arms) sound is under =
    let walked = bind_ok (arm_walk names depth before (arm_with part_of arm))
    (λ next. in_turn (arm_walk names depth) next (map (arm_with part_of) arms)) after is in
    let cond = bind_ok (fitting names depth ty.Bool before.deep (part_of arm.cond))
    (λ deep. joined names depth (record { ty = before.ty; deep = deep }) (part_of arm.body)) walked.0 walked.1 in
    let c = part_fits names seen depth before.deep cond.0 ty.Bool arm.cond sound.0.0 cond.1 in
    let b = joined_fits names seen depth (record { ty = before.ty; deep = cond.0 }) walked.0 arm.body sound.0.1 cond.2 in
    let rest = arms_fit names seen depth walked.0 after w arms sound.1 walked.2 under in
    let into = rest.under b.ty b.is in
    record {
      trees = record { cond = c.tree; body = b.there.tree } ∷ rest.trees;
      are = each_cons (arm_tree seen) (arm_with tree_in arm) (map (arm_with tree_in) arms)
          (record { cond = c.tree; body = b.there.tree }) rest.trees
          (arm_there seen arm c.tree b.there.tree c.is b.there.is) rest.are;
      conditions = and_from (goes_as ty.Bool (type_of c.tree))
          (list_all (λ c. goes_as ty.Bool c.cond) (map (choice_with type_of) rest.trees)) c.goes rest.conditions;
      go = and_from (goes_as w (type_of b.there.tree))
          (list_all (goes_as w) (map (λ c. c.body) (map (choice_with type_of) rest.trees)))
          (weaker b.ty w (type_of b.there.tree) b.there.goes into) rest.go;
      count = ap suc rest.count;
      under = λ s is. fits_along s b.ty w (b.under s is) into;
    }
