use Rattle.std.proofs.Common.{List, ℕ, sym, subst}
use Rattle.eco_gates.specs.Ordering.{IsOrder}
use Rattle.eco_netlist.specs.Building.{HasLists}
use Rattle.eco_netlist.proofs.BuildLemmas.{lists_again}
use Rattle.eco_netlist.proofs.netlist.Netlist.copy.Goals as goal

-- the lists are the netlist's
lists : (c : goal.In-Ok) → HasLists c.args.self.now c.in_ok-lists.lists
lists c =
    let given = c.in_ok-lists.ensures in
    lists_again c.args.self.now c.in_ok-lists.lists c.ports.result.now c.inputs.result.now c.outputs.result.now c.targets.result.now given.ports given.inputs given.outputs given.targets
    c.ports.ensures.named c.ports.ensures.within c.inputs.ensures.named c.inputs.ensures.within c.outputs.ensures.named c.outputs.ensures.within c.targets.ensures.named c.targets.ensures.within

pub built-requires-clause-netlist : goal.built-requires-clause-netlist
built-requires-clause-netlist c = (c.args.self.now, c.copied_parts.ensures.checked, c.in-Ok.ensures.parts, lists c)

pub built-requires-clause-order : goal.built-requires-clause-order
built-requires-clause-order c =
    subst (λ (order : List ℕ). IsOrder c.in-Ok.parts.gates.items order) (sym c.in_ok-order.ensures.items) (c.order.ensures c.in-Ok.parts.gates.items c.in-Ok.ensures.parts.gates)

pub returns-in-Ok : goal.returns-in-Ok
returns-in-Ok c = record { same = c.built.ensures.made c.args.self.now c.in-Ok.ensures.parts (lists c.before) }
