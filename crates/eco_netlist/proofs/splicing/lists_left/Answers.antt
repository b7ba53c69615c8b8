use Rattle.std.proofs.Common.{◌≡◌, ◌<◌, ℕ, List, length, drop, sym, ◌∙◌, ap, subst, arith, rules}
use Rattle.std.proofs.lemmas.List.{length-map}
use Rattle.std.proofs.lemmas.List.Elements.{All-drop}
use Rattle.eco_gates.specs.declared.gate.NetId.{NetId}
use Rattle.eco_meaning.specs.Circuit.{Circuit, names, AreTargets}
use Rattle.eco_meaning.specs.Patch.{splice_of}
use Rattle.eco_netlist.specs.Netlists.{IsChecked, AreNets}
use Rattle.eco_netlist.proofs.Spliced.{targets_splice}
use Rattle.eco_netlist.proofs.SplicedLoops.{IsFitting}
use Rattle.eco_netlist.proofs.SplicedParts.{named_longer, nets_longer, targets_left, targets_enough}
use Rattle.eco_netlist.proofs.splicing.lists_left.Goals as goal

pub split_at-requires : goal.split_at-requires
split_at-requires c =
    let count : length c.p.inside.outputs.items ≡ length c.args.p.now.outputs = rw length-map at (ap (λ (n : Circuit). length n.outputs) c.p.view_is) in
    let len : c.len.result ≡ length c.p.inside.outputs.items = c.len.ensures ∙ search rules in
    let enough = targets_enough c.args.f.now c.args.p.now c.requires.0 c.targets.result.now c.requires.1 c.targets.ensures.named in
    omega (arith, len, count, enough)

pub returns-clause-lists : goal.returns-clause-lists
returns-clause-lists c =
    let f = c.args.f.now in
    let p = c.args.p.now in
    let lists = c.in_ok-lists.lists in
    let given = c.in_ok-lists.ensures in
    let rest : List NetId = drop (length p.outputs) c.targets.result.now in
    let count : length c.p.inside.outputs.items ≡ length p.outputs = rw length-map at (ap (λ (n : Circuit). length n.outputs) c.p.view_is) in
    let len : c.len.result ≡ length c.p.inside.outputs.items = c.len.ensures ∙ search rules in
    let left : lists.targets.items ≡ rest = given.targets ∙ c.split_at.ensures.back ∙ ap (λ (k : ℕ). drop k c.targets.result.now) (len ∙ count) in
    let within : AreNets (names f) rest = All-drop (λ (net : NetId). net.0 < length (names f)) (length p.outputs) c.targets.result.now c.targets.ensures.within in
    let named = named_longer f p lists.targets.items rest c.requires.0 left within (targets_left f p c.requires.0 c.targets.result.now c.requires.1 c.targets.ensures.named) in
    let is : IsFitting f p c.requires.0 = record {
      netlist = subst IsChecked c.f.view_is c.f.invariant.checked;
      patch = subst IsChecked c.p.view_is c.p.invariant.checked;
      fits = c.requires.1;
    } in
    record {
      ports = named_longer f p lists.ports.items c.ports.result.now f.ports given.ports c.ports.ensures.within c.ports.ensures.named;
      port_nets = nets_longer f p lists.ports.items c.ports.result.now given.ports c.ports.ensures.within;
      inputs = named_longer f p lists.inputs.items c.inputs.result.now f.inputs given.inputs c.inputs.ensures.within c.inputs.ensures.named;
      input_nets = nets_longer f p lists.inputs.items c.inputs.result.now given.inputs c.inputs.ensures.within;
      outputs = named_longer f p lists.outputs.items c.outputs.result.now f.outputs given.outputs c.outputs.ensures.within c.outputs.ensures.named;
      output_nets = nets_longer f p lists.outputs.items c.outputs.result.now given.outputs c.outputs.ensures.within;
      targets = subst (AreTargets (splice_of f p)) (sym named) (targets_splice f p c.requires.0 is);
      target_nets = nets_longer f p lists.targets.items rest left within;
    }
