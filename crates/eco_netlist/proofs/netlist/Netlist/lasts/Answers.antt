use Rattle.std.proofs.Common.{◌∙◌, List, ℕ, length, sym, subst}
use Rattle.std.proofs.lemmas.List.{with_items_is}
use Rattle.eco_gates.specs.Spread.{AreGreatest}
use Rattle.eco_netlist.specs.Numbered.{circuit_of}
use Rattle.eco_netlist.specs.Reached.{ArePlaces, AreLasts}
use Rattle.eco_netlist.proofs.BehindLemmas.{targets_apart}
use Rattle.eco_netlist.proofs.BehindNets.{lasts_of_netlist}
use Rattle.eco_netlist.proofs.netlist.Netlist.lasts.Goals as goal

pub places_of-requires-clause-apart : goal.places_of-requires-clause-apart
places_of-requires-clause-apart c =
    rw c.as_slice.ensures.value
    (targets_apart (circuit_of c.self.inside) c.self.inside.names.keys c.self.inside.targets.items c.self.invariant.free)

pub returns-clause-lasts : goal.returns-clause-lasts
returns-clause-lasts c =
    let starts = c.in_ok-lasts.lasts.items in
    let new = c.spread_greatest.new.numbers in
    let places : ArePlaces (length c.self.inside.names.keys) c.self.inside.targets.items (length c.self.inside.targets.items) 1 0 starts =
    rw (← c.len.ensures.len, ← c.as_slice.ensures.value) c.in_ok-lasts.ensures in
    let greatest : AreGreatest c.self.inside.gates.items starts new =
    rw (← c.as_slice-2.ensures.value, ← c.as_mut_slice.ensures.value) c.spread_greatest.ensures in
    λ targets are.
    subst (λ (l : List ℕ). AreLasts c.args.self.now targets l) (sym (with_items_is c.in_ok-lasts.lasts new (greatest.len ∙ sym c.in_ok-lasts.lasts.ok.0)))
    (lasts_of_netlist c.self.inside c.self.invariant c.args.self.now c.self.view_is targets starts new are places greatest)
