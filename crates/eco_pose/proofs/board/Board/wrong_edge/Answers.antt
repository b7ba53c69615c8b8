-- The edge tells where the netlist is right.
use Rattle.std.proofs.Common.{◌≡◌, ◌+◌, ◌*◌, ℕ, List, ◌++◌, length, sym, subst}
use Rattle.std.proofs.lemmas.Result.{IfOk-weaker}
use Rattle.eco_meaning.specs.Circuit.{Circuit, names, AreTargets}
use Rattle.eco_netlist.specs.Netlists.{names_at}
use Rattle.eco_meaning.specs.Meaning.{Goal}
use Rattle.eco_compile.specs.Compiled.{AreEdges, needed_nodes}
use Rattle.eco_compile.specs.Valued.{AreValued}
use Rattle.eco_compile.specs.Wrong.{IsMiter, IsWrongEdge}
use Rattle.eco_pose.specs.Boards.{AsksOf}
use Rattle.eco_pose.proofs.RowLaws.{last_edges, miter_tells}
use Rattle.eco_pose.proofs.board.Board.wrong_edge.Goals as goal

pub miter-requires-clause-outputs : goal.miter-requires-clause-outputs
miter-requires-clause-outputs c =
    let targets = c.requires.count in
    let valued = c.in_ok-outputs.ensures.values targets.0 targets.1 in
    subst (AreEdges c.valued_edges.new.aig) (sym c.as_slice.ensures.value)
    (last_edges c.valued_edges.new.aig c.as_slice-inputs.result.now c.args.opens.now c.in_ok-outputs.outputs.items valued.within)

pub returns-clause-wrong : goal.returns-clause-wrong
returns-clause-wrong c =
    let n = c.args.netlist.now in
    let board = c.args.self.now in
    let mid = c.valued_edges.new.aig in
    let new = c.miter.new.aig in
    let inputs = board.inputs.items in
    let opens = c.args.opens.now in
    let outputs = c.in_ok-outputs.outputs.items in
    IfOk-weaker c.miter.result (IsMiter new c.as_slice.result.now c.as_slice-2.result.now board.goal.cared) (λ e. (f : Circuit) (goal : Goal) (targets : List (List ℕ)) →
    n.inputs ≡ f.inputs → n.outputs ≡ f.outputs → AreTargets n targets → AsksOf f goal board → IsWrongEdge n goal targets new inputs opens e)
    (λ e made f goal targets same_inputs same_outputs are asks.
    miter_tells f n goal targets board.graph mid new (needed_nodes n) (4 * length c.as_slice.result.now + 1) inputs opens outputs board.goal.outputs.items board.goal.cared e
    c.nets.ensures.checked same_inputs same_outputs are asks c.valued_edges.ensures.grows c.miter.ensures.grows
    (subst (λ names. AreValued n mid (n.inputs ++ targets ++ names) (inputs ++ opens ++ outputs)) c.outputs.ensures.named
    (subst (λ edges. AreValued n mid (n.inputs ++ targets ++ names_at (names n) c.outputs.result.now) (edges ++ opens ++ outputs)) c.as_slice-inputs.ensures.value (c.in_ok-outputs.ensures.values targets are)))
    c.requires.laid_out.input_count c.requires.count
    (subst (λ edges. IsMiter new edges board.goal.outputs.items board.goal.cared e) c.as_slice.ensures.value
    (subst (λ edges. IsMiter new c.as_slice.result.now edges board.goal.cared e) c.as_slice-2.ensures.value made)))
    c.miter.ensures.miter
