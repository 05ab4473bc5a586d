-- Ports that are found to be the same are equal: what the impls of PartialEq and Eq cite.
use Rattle.std.proofs.Common.{◌≡◌, true, ◌&&◌, List, ap}
use Rattle.std.specs.Prelude.{◌↔◌}
use Rattle.std.specs.Cmp.Lexicographic.{pointwise_decides}
use Rattle.std.proofs.lemmas.Bool.{and_from, and_parts}
use Rattle.og_types.specs.declared.ty.Ty.{Ty}
use Rattle.og_types.specs.Ty.{same}
use Rattle.og_types.specs.laws.TyEquality.{same_decides}
use Rattle.og_native.specs.declared.ports.Ports.{Ports}
use Rattle.og_native.specs.Ports.{same_types, same_ports}

types_decide : (ts us : List Ty) → (same_types ts us ≡ true) ↔ (ts ≡ us)
types_decide = pointwise_decides {E = same} same_decides

sides_equal : (p q : Ports) → same_ports p q ≡ true → p ≡ q
sides_equal p q e =
    let ins = and_parts (same_types p.inputs q.inputs) (same_types p.feedback q.feedback
    && (same_types p.outputs q.outputs && same_types p.returns q.returns)) e in
    let back = and_parts (same_types p.feedback q.feedback)
    (same_types p.outputs q.outputs && same_types p.returns q.returns) ins.1 in
    let outs = and_parts (same_types p.outputs q.outputs) (same_types p.returns q.returns) back.1 in
    (λ i. record {
      inputs = (types_decide p.inputs q.inputs).0 ins.0 i;
      feedback = (types_decide p.feedback q.feedback).0 back.0 i;
      outputs = (types_decide p.outputs q.outputs).0 outs.0 i;
      returns = (types_decide p.returns q.returns).0 outs.1 i;
    })

sides_same : (p q : Ports) → p ≡ q → same_ports p q ≡ true
sides_same p q e =
    and_from (same_types p.inputs q.inputs) (same_types p.feedback q.feedback
    && (same_types p.outputs q.outputs && same_types p.returns q.returns))
    ((types_decide p.inputs q.inputs).1 (ap (λ h. h.inputs) e))
    (and_from (same_types p.feedback q.feedback) (same_types p.outputs q.outputs && same_types p.returns q.returns)
    ((types_decide p.feedback q.feedback).1 (ap (λ h. h.feedback) e))
    (and_from (same_types p.outputs q.outputs) (same_types p.returns q.returns)
    ((types_decide p.outputs q.outputs).1 (ap (λ h. h.outputs) e))
    ((types_decide p.returns q.returns).1 (ap (λ h. h.returns) e))))

pub ports_decide : (p q : Ports) → (same_ports p q ≡ true) ↔ (p ≡ q)
ports_decide p q = (sides_equal p q, sides_same p q)
