use Rattle.std.proofs.Common.{List, ℕ, sym, subst}
use Rattle.eco_gates.specs.GateValue.{GateValue}
use Rattle.eco_gates.specs.Ordering.{IsOrder}
use Rattle.eco_netlist.proofs.SameParts.{kept_gates}
use Rattle.eco_netlist.proofs.netlist.Netlist.order.Goals as goal

pub returns : goal.returns
returns c = λ gates are.
    let same = kept_gates c.self.inside c.args.self.now gates c.self.view_is c.self.invariant are in
    subst (λ (list : List GateValue). IsOrder list c.as_slice.result.now) same (subst (λ (order : List ℕ). IsOrder c.self.inside.gates.items order) (sym c.as_slice.ensures.value) c.self.invariant.ordered)
