-- They are the outputs of the gates.
use Rattle.std.proofs.Common.{◌≡◌, map, sym, subst}
use Rattle.std.proofs.lemmas.Result.{IfOk-weaker}
use Rattle.eco_gates.specs.GateValue.{GateValue}
use Rattle.eco_locate.specs.Judged.{AreDrivenNets}
use Rattle.eco_locate.proofs.NetLemmas.{driven_outputs}
use Rattle.eco_locate.proofs.progress.driven_nets.Goals as goal

pub returns : goal.returns
returns c =
    let f = c.args.f.now in
    let gates = c.gates.result.now in
    IfOk-weaker c.outputs_of.result (λ nets. nets.items ≡ map (λ (g : GateValue). g.out) gates) (λ nets. AreDrivenNets f nets.items)
    (λ nets same. subst (AreDrivenNets f) (sym same)
    (driven_outputs f gates c.nets.ensures.checked (record { named = c.gates.ensures.named; within = c.gates.ensures.within })))
    c.outputs_of.ensures
