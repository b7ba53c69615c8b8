use Rattle.std.proofs.Common.{◌∙◌, List, ℕ, length, sym, subst}
use Rattle.std.proofs.lemmas.List.{with_items_is}
use Rattle.eco_gates.specs.Spread.{AreLeast}
use Rattle.eco_netlist.specs.Reached.{ArePlaces, AreFirstOutputs}
use Rattle.eco_netlist.proofs.BehindLemmas.{nets_apart}
use Rattle.eco_netlist.proofs.BehindNets.{outputs_distinct, firsts_of_netlist}
use Rattle.eco_netlist.proofs.netlist.Netlist.first_outputs.Goals as goal

pub places_of-requires-clause-apart : goal.places_of-requires-clause-apart
places_of-requires-clause-apart c =
    rw c.as_slice-outputs.ensures.value
    (nets_apart c.self.inside.names.keys c.self.inside.outputs.items (outputs_distinct c.self.inside c.self.invariant))

pub returns-clause-firsts : goal.returns-clause-firsts
returns-clause-firsts c =
    let ends = c.in_ok-firsts.firsts.items in
    let new = c.spread_least.new.numbers in
    let nets = c.self.inside.outputs.items in
    let places : ArePlaces (length c.self.inside.names.keys) nets (length nets) 0 (length nets) ends =
    rw (← c.len.ensures.len, ← c.as_slice-outputs.ensures.value) c.in_ok-firsts.ensures in
    let least : AreLeast c.self.inside.gates.items ends new =
    rw (← c.as_slice.ensures.value, ← c.as_mut_slice.ensures.value) c.spread_least.ensures in
    subst (λ (l : List ℕ). AreFirstOutputs c.args.self.now l) (sym (with_items_is c.in_ok-firsts.firsts new (least.len ∙ sym c.in_ok-firsts.firsts.ok.0)))
    (firsts_of_netlist c.self.inside c.self.invariant c.args.self.now c.self.view_is ends new places least)
