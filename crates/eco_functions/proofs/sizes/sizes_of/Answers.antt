-- What is behind the inputs are the edges that have a wire.
use Rattle.std.proofs.Common.{ℕ, List, length, ap, subst, sym, ◌∙◌}
use Rattle.eco_aig.specs.declared.edge.Edge.{Edge}
use Rattle.eco_aig.specs.Reached.{AreReached}
use Rattle.eco_functions.specs.Sizes.{nodes_among}
use Rattle.eco_functions.proofs.Sizing.{behind_inputs}
use Rattle.eco_functions.proofs.sizes.sizes_of.Goals as goal

pub returns : goal.returns
returns c =
    let marks = c.as_slice.result.now in
    let rest = behind_inputs c.args.aig.now marks c.as_slice-2.result.now (length c.inputs.result.now)
    (c.as_slice-2.ensures.value ∙ c.in_ok-edges.ensures) (ap (λ (list : List ℕ). length list) c.inputs.ensures) in
    record {
      sizes = record {
        marks = marks;
        reached = subst (AreReached c.args.aig.now c.args.roots.now) (sym c.as_slice.ensures.value) c.in_ok-marks.ensures;
        gates = c.sizes_among.ensures.gates ∙ ap (λ (list : List Edge). length (nodes_among list)) rest;
        wires = c.sizes_among.ensures.wires ∙ ap (λ (list : List Edge). length list) rest;
      };
    }
