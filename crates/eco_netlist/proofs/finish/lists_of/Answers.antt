use Rattle.std.proofs.Common.{◌≡◌, List, ℕ, nat_lt, sym, ap, ◌∙◌}
use Rattle.std.specs.Prelude.{filter}
use Rattle.eco_gates.specs.declared.gate.NetId.{NetId}
use Rattle.eco_netlist.specs.declared.tally.Place.{Place}
use Rattle.eco_netlist.specs.declared.tally.Place.TheVariants.{Input, Output}
use Rattle.eco_netlist.specs.declared.tally.Tally.{Tally}
use Rattle.eco_netlist.specs.Drafted.{declared_of}
use Rattle.eco_netlist.specs.Netlists.{names_at}
use Rattle.eco_netlist.specs.Numbering.{ArePlaced}
use Rattle.eco_netlist.specs.Tallies.{tally_at, tally_of, count_in}
use Rattle.eco_netlist.proofs.BuildLemmas.{inputs_built, outputs_built}
use Rattle.eco_netlist.proofs.NumberedNets.{in_from_nets, named_filter}
use Rattle.eco_netlist.proofs.PlacedLemmas.{names_placed, nets_placed}
use Rattle.eco_netlist.proofs.finish.lists_of.Goals as goal

-- the ports that are counted in a place, by name
counted : (c : goal.In_ok-targets) (place : Place) → names_at c.args.declarations.now.names.keys (filter (λ (net : NetId). nat_lt 0 (count_in place (tally_at c.args.tallies.now net.0))) c.args.declarations.now.header.items)
    ≡ filter (λ name. nat_lt 0 (count_in place (tally_of (declared_of c.args.declarations.now) name))) (declared_of c.args.declarations.now).header
counted c place =
    named_filter c.args.declarations.now.names.keys (λ (net : NetId). nat_lt 0 (count_in place (tally_at c.args.tallies.now net.0)))
    (λ name. nat_lt 0 (count_in place (tally_of (declared_of c.args.declarations.now) name))) c.args.declarations.now.header.items
    (λ net member. ap (λ (t : Tally). nat_lt 0 (count_in place t))
    (c.requires.tallies.counts net.0 (in_from_nets c.args.declarations.now.names.keys c.args.declarations.now.header.items c.requires.drafted.header net member)))

pub returns : goal.returns
returns c =
    let keys : List (List ℕ) = c.args.declarations.now.names.keys in
    let nets : List NetId = c.args.numbering.now.nets in
    let header : List NetId = c.args.declarations.now.header.items in
    let ports : ArePlaced nets header c.in_ok-ports.ports.items = rw c.as_slice-header.ensures.value at c.in_ok-ports.ensures in
    let inputs : ArePlaced nets (filter (λ net. nat_lt 0 (count_in Input (tally_at c.args.tallies.now net.0))) header) c.in_ok-inputs.inputs.items =
    rw c.as_slice-header.ensures.value at c.in_ok-inputs.ensures in
    let outputs : ArePlaced nets (filter (λ net. nat_lt 0 (count_in Output (tally_at c.args.tallies.now net.0))) header) c.in_ok-outputs.outputs.items =
    rw c.as_slice-header.ensures.value at c.in_ok-outputs.ensures in
    record {
      ports = names_placed keys nets header c.in_ok-ports.ports.items ports;
      port_nets = nets_placed keys nets header c.in_ok-ports.ports.items ports;
      inputs = names_placed keys nets _ c.in_ok-inputs.inputs.items inputs ∙ counted c Input ∙ inputs_built (declared_of c.args.declarations.now);
      input_nets = nets_placed keys nets _ c.in_ok-inputs.inputs.items inputs;
      outputs = names_placed keys nets _ c.in_ok-outputs.outputs.items outputs ∙ counted c Output ∙ outputs_built (declared_of c.args.declarations.now);
      output_nets = nets_placed keys nets _ c.in_ok-outputs.outputs.items outputs;
      targets =
          (rw (c.as_slice-names.ensures.keys, c.nets.ensures) at c.in_ok-targets.ensures)
          (tally_of (declared_of c.args.declarations.now)) c.requires.numbering.apart (λ net lt. sym (c.requires.tallies.counts net lt));
    }
