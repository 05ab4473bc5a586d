-- The ports of a block, and the values that go through them.
use Rattle.std.specs.Prelude.{ℕ, ◌+◌, ◌^◌, pos, Bool, true, false, ◌&&◌, nat_le, nat_lt, int_le, max, List, [], ◌∷◌, length, sum_by, unsigned_abs, if◌then◌else◌}
use Rattle.std.specs.List.{list_all}
use Rattle.std.specs.Cmp.Lexicographic.{pointwise}
use Rattle.og_types.specs.declared.value.Value.{Value}
use Rattle.og_types.specs.declared.ty.Ty.{Ty}
use Rattle.og_types.specs.declared.ty.Ty.TheOpen.{Ty-F}
use Rattle.og_types.specs.declared.ty.Ty.TheOpen as one
use Rattle.og_types.specs.declared.ty.Ty.TheFolds.{fold-Ty}
use Rattle.og_types.specs.declared.ty.Ty.TheVariants as ty
use Rattle.og_types.specs.Ty.{same, holds, is_finite}
use Rattle.og_types.specs.Values.{values_of}
use Rattle.og_native.specs.declared.ports.Ports.{Ports}

-- ---- values at ports

abbrev pub are_inputs : Ports → List Value → Bool
are_inputs ports = pointwise holds ports.inputs

abbrev pub are_outputs : Ports → List Value → Bool
are_outputs ports = pointwise holds ports.outputs

abbrev pub are_returns : Ports → List Value → Bool
are_returns ports = pointwise holds ports.returns

abbrev pub are_feedback : Ports → List Value → Bool
are_feedback ports = pointwise holds ports.feedback

-- inputs and returns
abbrev pub are_both : Ports → List Value × List Value → Bool
are_both ports both = are_inputs ports both.0 && are_returns ports both.1

-- ---- types at ports

abbrev pub is_formed_step : Ty-F Bool → Bool
is_formed_step (one.Enum family cases) = nat_lt 0 cases
is_formed_step one.Bool = true
is_formed_step (one.Range low high) =
    int_le low high && (nat_lt (unsigned_abs low) (2 ^ 63) && nat_lt (unsigned_abs high) (2 ^ 63))
is_formed_step (one.Tuple parts) = nat_le 2 (length parts) && list_all (λ part. part) parts
is_formed_step one.Number = true

-- Its enums have a case, its ranges a number, with bounds that a text can write, and its tuples two types or more.
abbrev pub is_formed : Ty → Bool
is_formed = fold-Ty Bool is_formed_step

abbrev pub is_plain_step : Ty-F Bool → Bool
is_plain_step (one.Enum family cases) = false
is_plain_step (one.Tuple parts) = list_all (λ part. part) parts
is_plain_step _ = true

-- No enum stands in the type.
abbrev pub is_plain : Ty → Bool
is_plain = fold-Ty Bool is_plain_step

-- the greatest, and 0 where there is none
abbrev pub highest : List ℕ → ℕ
highest [] = 0
highest (n ∷ ns) = max n (highest ns)

abbrev pub height_step : Ty-F ℕ → ℕ
height_step (one.Tuple parts) = highest parts + 1
height_step _ = 1

-- 1, and for a tuple one more than its highest component
abbrev pub height : Ty → ℕ
height = fold-Ty ℕ height_step

abbrev pub nodes_step : Ty-F ℕ → ℕ
nodes_step (one.Tuple parts) = sum_by (λ n. n) parts + 1
nodes_step _ = 1

-- a tuple and all its components, each with its own
abbrev pub nodes : Ty → ℕ
nodes = fold-Ty ℕ nodes_step

-- A wire of a game may have the type: it is formed, at most 8 high and of at most 32 nodes, and it has at most 4,096
-- values if it is finite.
abbrev pub is_wire : Ty → Bool
is_wire t =
    is_formed t && (nat_le (height t) 8 && (nat_le (nodes t) 32
    && (if is_finite t then nat_le (length (values_of t)) 4096 else true)))

-- A block may have the type at a port: every game can write it.
abbrev pub is_port : Ty → Bool
is_port t = is_plain t && is_wire t

abbrev pub are_types : List Ty → Bool
are_types ts = nat_le (length ts) 256 && list_all is_port ts

-- At most 256 types on each of the four sides, each of which a wire of a game may have.
abbrev pub are_ports : Ports → Bool
are_ports ports =
    are_types ports.inputs && (are_types ports.feedback && (are_types ports.outputs && are_types ports.returns))

-- ---- ports compared

-- the same types in the same order
abbrev pub same_types : List Ty → List Ty → Bool
same_types = pointwise same

-- the same types on each of the four sides
abbrev pub same_ports : Ports → Ports → Bool
same_ports p q =
    same_types p.inputs q.inputs && (same_types p.feedback q.feedback
    && (same_types p.outputs q.outputs && same_types p.returns q.returns))

-- ---- of the mechanisms

abbrev pub auction_ports : Ports
auction_ports = record {
  inputs = ty.Number ∷ ty.Number ∷ [];
  feedback = ty.Number ∷ ty.Number ∷ [];
  outputs = ty.Range (pos 0) (pos 2) ∷ [];
  returns = ty.Number ∷ ty.Number ∷ [];
}

abbrev pub split_ports : Ports
split_ports = record {
  inputs = ty.Number ∷ ty.Number ∷ [];
  feedback = ty.Number ∷ ty.Number ∷ [];
  outputs = ty.Number ∷ [];
  returns = ty.Number ∷ [];
}
