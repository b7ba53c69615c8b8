-- What the three checks say together.
use Rattle.std.proofs.Common.{IsTrue, ◌↔◌, length, subst}
use Rattle.std.proofs.lemmas.Result.{IfOk-weaker}
use Rattle.eco_aig.specs.Graph.{inputs_of}
use Rattle.eco_splice.specs.LineGates.{AreReady, ReadEarlier, ReadInputs, edges_in}
use Rattle.eco_splice.proofs.TableLemmas.{lines_within}
use Rattle.eco_splice.proofs.readiness.is_ready.Goals as goal

pub returns : goal.returns
returns c =
    let nodes = c.args.aig.now in
    let roots = c.args.roots.now in
    let lines = c.args.lines.now in
    let read : ReadEarlier (edges_in nodes lines) (length (inputs_of nodes)) lines = subst (λ edges. ReadEarlier edges (length (inputs_of nodes)) lines) c.requires.edges (subst (λ list. ReadEarlier c.args.places.now.edges.items (length list) lines) c.inputs.ensures (c.read_earlier.ensures.0 c.if-not-read_earlier.false)) in
    IfOk-weaker c.read_inputs.result (λ is. IsTrue is ↔ ReadInputs nodes roots lines) (λ is. IsTrue is ↔ AreReady nodes roots lines)
    (λ is exactly. (
      (λ yes. record {
        within = lines_within nodes lines c.args.places.now.edges.items (length nodes) c.requires.edges c.requires.placed.within;
        earlier = read;
        drive = c.in_ok-drive_targets.ensures.0 c.if-not-branch.false;
        inputs = exactly.0 yes;
      }),
      (λ ready. exactly.1 ready.inputs),
    )) c.read_inputs.ensures
