-- The first decision with a number, among those of a game, and what it allows.
use Rattle.std.proofs.Common.{◌≡◌, ◌∙◌, ℕ, ◌+◌, ◌<◌, ◌≤◌, arith, true, length, drop, get_or, List, [], ◌++◌, refl, ap, sym}
use Rattle.std.specs.Prelude.{Option, Some, None, flat_map, nat_le, ◌&&◌, ◌==◌}
use Rattle.std.specs.Option.{option_map, option_or}
use Rattle.std.specs.List.{list_all}
use Rattle.std.proofs.lemmas.Bool.{and_parts}
use Rattle.std.proofs.lemmas.List.Folds.{find-append, flat_map-map}
use Rattle.std.proofs.lemmas.List.{append-nil}
use Rattle.og_list.proofs.Drop.{drop_at}
use Rattle.og_types.specs.declared.ty.Ty.{Ty}
use Rattle.og_types.specs.Ty.{is_finite}
use Rattle.og_types.specs.Values.{joint_values_of, capped_count}
use Rattle.og_native.specs.declared.ports.Ports.{Ports}
use Rattle.og_game.specs.declared.node.GameNodeOf.{GameNodeOf}
use Rattle.og_game.specs.declared.node.GameNodeOf.TheVariants as nodes
use Rattle.og_game.specs.declared.node.BlockOf.{BlockOf}
use Rattle.og_game.specs.declared.node.ArmOf.{ArmOf}
use Rattle.og_game.specs.declared.node.Plan.{Plan}
use Rattle.og_game.specs.Plans.{plan_of}
use Rattle.og_game.specs.Levels.{node_with, fold_of_node}
use Rattle.og_game.specs.Choices.{Choice, choices_rule, choices_of, numbered, allowed_at, all_rule, all_of}
use Rattle.og_game.specs.Wired.{ports_of, ports_if, observations, values, are_wires, are_observed, is_chosen, is_decision, decision_ports, number_if}
use Rattle.og_game.specs.Rows.{are_allowed}
use Rattle.og_game.proofs.Forms.{ports_of_node}
use Rattle.og_game.proofs.Mapped.{operations_with, games_with}

-- ---- in several games

mapped_or : {A B : Type 0} (f : A → B) (a b : Option A) → option_map f (option_or a b) ≡ option_or (option_map f a) (option_map f b)
mapped_or f None b = refl
mapped_or f (Some a) b = refl

abbrev found : ℕ → ℕ → List Choice → Option (Option (List ℕ))
found d seen choices = option_map (allowed_at seen) (numbered d choices)

found_both : (d seen : ℕ) (xs ys : List Choice) → found d seen (xs ++ ys) ≡ option_or (found d seen xs) (found d seen ys)
found_both d seen xs ys =
    ap (option_map (allowed_at seen)) (find-append (λ choice. choice.number == d) xs ys)
    ∙ mapped_or (allowed_at seen) (numbered d xs) (numbered d ys)

split : {A : Type 0} (d seen : ℕ) (f : A → List Choice) (xs : List A) (i : ℕ) (x : A) → i < length xs → x ≡ get_or xs i x
    → found d seen (flat_map f (drop i xs)) ≡ option_or (found d seen (f x)) (found d seen (flat_map f (drop (i + 1) xs)))
split d seen f xs i x lt is =
    ap (λ ys. found d seen (flat_map f ys)) (drop_at xs i x lt is) ∙ found_both d seen (f x) (flat_map f (drop (i + 1) xs))

pub found_later : {A : Type 0} (d seen : ℕ) (f : A → List Choice) (xs : List A) (i : ℕ) (x : A)
    → i < length xs → x ≡ get_or xs i x → option_map (allowed_at seen) (numbered d (f x)) ≡ None
    → option_map (allowed_at seen) (numbered d (flat_map f (drop (i + 1) xs)))
    ≡ option_map (allowed_at seen) (numbered d (flat_map f (drop i xs)))
found_later d seen f xs i x lt is none =
    sym (split d seen f xs i x lt is ∙ ap (λ o. option_or o (found d seen (flat_map f (drop (i + 1) xs)))) none)

pub found_here : {A : Type 0} (d seen : ℕ) (f : A → List Choice) (xs : List A) (i : ℕ) (x : A) (answer : Option (List ℕ))
    → i < length xs → x ≡ get_or xs i x → option_map (allowed_at seen) (numbered d (f x)) ≡ Some answer
    → option_map (allowed_at seen) (numbered d (flat_map f (drop i xs))) ≡ Some answer
found_here d seen f xs i x answer lt is some =
    split d seen f xs i x lt is ∙ ap (λ o. option_or o (found d seen (flat_map f (drop (i + 1) xs)))) some

-- ---- in a game of each form

choices_of_node : (n : GameNodeOf Plan) → choices_of (plan_of n) ≡ choices_rule (node_with choices_of n)
choices_of_node n = fold_of_node choices_rule n

pub found_in_node : (d seen : ℕ) (n : GameNodeOf Plan) → option_map (allowed_at seen) (numbered d (choices_of (plan_of n)))
    ≡ option_map (allowed_at seen) (numbered d (choices_rule (node_with choices_of n)))
found_in_node d seen n = ap (found d seen) (choices_of_node n)

both : (d seen : ℕ) (xs ys : List Choice) → found d seen (xs ++ (ys ++ [])) ≡ option_or (found d seen xs) (found d seen ys)
both d seen xs ys = ap (λ zs. found d seen (xs ++ zs)) (append-nil ys) ∙ found_both d seen xs ys

pub found_in_seq : (d seen : ℕ) (left right : Plan)
    → option_map (allowed_at seen) (numbered d (choices_of (plan_of (nodes.Seq left right))))
    ≡ option_or (option_map (allowed_at seen) (numbered d (choices_of left)))
    (option_map (allowed_at seen) (numbered d (choices_of right)))
found_in_seq d seen left right = found_in_node d seen (nodes.Seq left right) ∙ both d seen (choices_of left) (choices_of right)

pub found_in_par : (d seen : ℕ) (left right : Plan)
    → option_map (allowed_at seen) (numbered d (choices_of (plan_of (nodes.Par left right))))
    ≡ option_or (option_map (allowed_at seen) (numbered d (choices_of left)))
    (option_map (allowed_at seen) (numbered d (choices_of right)))
found_in_par d seen left right = found_in_node d seen (nodes.Par left right) ∙ both d seen (choices_of left) (choices_of right)

pub choices_of_block : (block : BlockOf Plan)
    → choices_of (plan_of (nodes.Block block)) ≡ flat_map (λ line. choices_of line.operation) block.lines
choices_of_block block =
    choices_of_node (nodes.Block block) ∙ ap (flat_map (λ choices. choices)) (operations_with choices_of block.lines)
    ∙ flat_map-map (λ choices. choices) (λ line. choices_of line.operation) block.lines

pub choices_of_branch : (selector : Ty) (arms : List (ArmOf Plan))
    → choices_of (plan_of (nodes.Branch selector arms)) ≡ flat_map (λ arm. choices_of arm.game) arms
choices_of_branch selector arms =
    choices_of_node (nodes.Branch selector arms) ∙ ap (flat_map (λ choices. choices)) (games_with choices_of arms)
    ∙ flat_map-map (λ choices. choices) (λ arm. choices_of arm.game) arms

-- ---- a decision's

holds_if : (b : _) (q p : Ports) → ports_if b q ≡ Some p → b ≡ true
holds_if true q p is = refl
holds_if _ q p is = absurd (cc)

pub decision_holds : (number agent : ℕ) (observes : List Ty) (action : Ty) (allowed : Option (List (List ℕ))) (p : Ports)
    → ports_of (plan_of (nodes.Decision number agent observes action allowed)) ≡ Some p
    → is_decision observes action allowed ≡ true
decision_holds number agent observes action allowed p is =
    holds_if (is_decision observes action allowed) (decision_ports observes action) p
    (sym (ports_of_node (nodes.Decision number agent observes action allowed)) ∙ is)

few : (n : ℕ) → nat_le n 4096 ≡ true → n ≤ 4096
few n h = grind (arith)

counted_if : (finite : _) (n : ℕ) → finite ≡ true → n ≤ 4096 → capped_count finite n ≡ Some n
counted_if finite n is h = ap (λ b. capped_count b n) is ∙ ap Some (omega arith)

pub is_counted : (number agent : ℕ) (observes : List Ty) (action : Ty) (allowed : Option (List (List ℕ))) (p : Ports)
    → ports_of (plan_of (nodes.Decision number agent observes action allowed)) ≡ Some p
    → capped_count (list_all is_finite observes) (length (joint_values_of observes)) ≡ Some (observations observes)
is_counted number agent observes action allowed p is =
    let holds = decision_holds number agent observes action allowed p is in
    let types = and_parts (are_observed observes && is_chosen action) (are_allowed (observations observes) (values action) allowed) holds in
    let observed = and_parts (are_observed observes) (is_chosen action) types.0 in
    let parts = and_parts (are_wires observes) (list_all is_finite observes && nat_le (observations observes) 4096) observed.0 in
    let both = and_parts (list_all is_finite observes) (nat_le (observations observes) 4096) parts.1 in
    counted_if (list_all is_finite observes) (observations observes) both.0 (few (observations observes) both.1)

pub all_of_node : (n : GameNodeOf Plan) → all_of (plan_of n) ≡ all_rule (node_with all_of n)
all_of_node n = fold_of_node all_rule n

pub is_listed : (number agent : ℕ) (observes : List Ty) (action : Ty) (allowed : Option (List (List ℕ))) (p : Ports)
    → ports_of (plan_of (nodes.Decision number agent observes action allowed)) ≡ Some p
    → number_if (is_chosen action) (values action) ≡ Some (values action)
is_listed number agent observes action allowed p is =
    let holds = decision_holds number agent observes action allowed p is in
    let types = and_parts (are_observed observes && is_chosen action) (are_allowed (observations observes) (values action) allowed) holds in
    let chosen = and_parts (are_observed observes) (is_chosen action) types.0 in
    ap (λ b. number_if b (values action)) chosen.1
