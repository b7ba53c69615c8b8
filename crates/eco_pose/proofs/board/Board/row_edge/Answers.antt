-- The edge tells where the netlist is right with the row.
use Rattle.std.proofs.Common.{◌≡◌, ℕ, List, map, sym, ◌∙◌, subst}
use Rattle.std.proofs.lemmas.Result.{IfOk-weaker}
use Rattle.eco_meaning.specs.Circuit.{Circuit, AreTargets}
use Rattle.eco_meaning.specs.Meaning.{Goal}
use Rattle.eco_aig.specs.declared.node.Node.TheVariants.{Zero}
use Rattle.eco_aig.proofs.Growing.{node_stays}
use Rattle.eco_compile.specs.Compiled.{AreEdges}
use Rattle.eco_compile.specs.Wrong.{IsWrongEdge}
use Rattle.eco_pose.specs.Boards.{AsksOf, IsRowEdge, constant_edge, row_nodes}
use Rattle.eco_pose.proofs.RowLaws.{constant_edges, row_from_wrong}
use Rattle.eco_pose.proofs.board.Board.row_edge.Goals as goal

pub wrong_edge-requires-clause-opens : goal.wrong_edge-requires-clause-opens
wrong_edge-requires-clause-opens c =
    subst (AreEdges c.args.self.now.graph) (sym (c.as_slice.ensures.value ∙ c.in_ok-opens.ensures))
    (constant_edges c.args.self.now.graph c.args.row.now c.requires.laid_out.constant)

pub returns-clause-wrong : goal.returns-clause-wrong
returns-clause-wrong c =
    let n = c.args.netlist.now in
    let board = c.args.self.now in
    let new = c.wrong_edge.new.self.graph in
    let row = c.args.row.now in
    let same : c.as_slice.result.now ≡ map constant_edge row = c.as_slice.ensures.value ∙ c.in_ok-opens.ensures in
    IfOk-weaker c.wrong_edge.result (λ e. (f : Circuit) (goal : Goal) (targets : List (List ℕ)) →
    n.inputs ≡ f.inputs → n.outputs ≡ f.outputs → AreTargets n targets → AsksOf f goal board → IsWrongEdge n goal targets new board.inputs.items c.as_slice.result.now e)
    (λ e. (f : Circuit) (goal : Goal) (targets : List (List ℕ)) →
    n.inputs ≡ f.inputs → n.outputs ≡ f.outputs → AreTargets n targets → AsksOf f goal board → IsRowEdge n goal targets new board.inputs.items row e)
    (λ e tells f goal targets same_inputs same_outputs are asks.
    row_from_wrong n goal targets new board.inputs.items row e
    (node_stays board.graph new (row_nodes n) c.wrong_edge.ensures.grows 0 Zero c.requires.laid_out.constant)
    (subst (λ opens. IsWrongEdge n goal targets new board.inputs.items opens e) same (tells f goal targets same_inputs same_outputs are asks)))
    c.wrong_edge.ensures.wrong
