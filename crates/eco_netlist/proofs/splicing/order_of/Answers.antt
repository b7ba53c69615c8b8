use Rattle.std.proofs.Common.{List, subst, sym}
use Rattle.eco_gates.specs.declared.ordering.Arranged.TheVariants.{Circle}
use Rattle.eco_gates.specs.GateValue.{GateValue}
use Rattle.eco_gates.specs.Gates.{IsOnceDriven}
use Rattle.eco_gates.specs.Ordering.{IsArranged}
use Rattle.eco_netlist.proofs.NamedGates.{checked_named, once_driven, no_circle}
use Rattle.eco_netlist.proofs.splicing.order_of.Goals as goal

pub arrange-requires-clause-once : goal.arrange-requires-clause-once
arrange-requires-clause-once c =
    let is = c.requires in
    let gates = c.args.parts.now.gates.items in
    subst (λ (list : List GateValue). IsOnceDriven list) (sym c.as_slice.ensures.value) (once_driven is.0 gates is.1 (checked_named is.0 gates is.1 is.2.gates))

pub unreachable-requires : goal.unreachable-requires
unreachable-requires c =
    let is = c.requires in
    let gates = c.args.parts.now.gates.items in
    let arranged : IsArranged c.as_slice.result.now (Circle c.in-Circle.field-0) = subst (IsArranged c.as_slice.result.now) c.in-Circle.is c.in_ok-order.ensures.arranged in
    let circle = subst (λ (list : List GateValue). IsArranged list (Circle c.in-Circle.field-0)) c.as_slice.ensures.value arranged in
    no_circle is.0 gates c.in-Circle.field-0.items is.1 (checked_named is.0 gates is.1 is.2.gates) circle.closed
