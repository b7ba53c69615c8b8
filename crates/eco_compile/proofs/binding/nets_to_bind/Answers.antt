-- The nets are those of the inputs and targets.
use Rattle.std.proofs.Common.{◌≡◌, ◌++◌, ◌∙◌, ap}
use Rattle.std.proofs.lemmas.List.{map-append}
use Rattle.eco_meaning.specs.Circuit.{names}
use Rattle.eco_gates.specs.declared.gate.NetId.{NetId}
use Rattle.eco_netlist.specs.Netlists.{name_at, names_at}
use Rattle.eco_netlist.proofs.MisfitLemmas.{targets_unique}
use Rattle.eco_compile.proofs.OpenNets.{open_apart}
use Rattle.eco_compile.proofs.binding.nets_to_bind.Goals as goal
use Rattle.eco_compile.proofs.binding.nets_to_bind.Goals.{In_ok-extend_from_slice}

named : (c : In_ok-extend_from_slice) → names_at (names c.args.netlist.now) c.extend_from_slice.new.self.items ≡ c.args.netlist.now.inputs ++ names_at (names c.args.netlist.now) c.targets.result.now
named c =
    let list = names c.args.netlist.now in
    let at = λ (net : NetId). name_at list net.0 in
    ap (names_at list) (c.in_ok-extend_from_slice.ensures.items ∙ ap (λ nets. nets ++ c.targets.result.now) c.in_ok-nets.ensures.items)
    ∙ map-append at c.inputs.result.now c.targets.result.now
    ∙ ap (λ inputs. inputs ++ names_at list c.targets.result.now) c.inputs.ensures.named

pub returns-clause-named : goal.returns-clause-named
returns-clause-named c = λ targets are.
    named c ∙ ap (λ others. c.args.netlist.now.inputs ++ others) (targets_unique c.args.netlist.now (names_at (names c.args.netlist.now) c.targets.result.now) targets c.targets.ensures.named are)

pub returns-clause-apart : goal.returns-clause-apart
returns-clause-apart c =
    open_apart c.args.netlist.now (names_at (names c.args.netlist.now) c.targets.result.now) c.extend_from_slice.new.self.items c.nets.ensures.checked c.targets.ensures.named (named c)
