-- The clauses ask for an input that the rows miss.
use Rattle.std.proofs.Common.{get_or, ◌≡◌, ℕ, ◌+◌, ◌*◌, ◌≤◌, List, length, arith, sym, ◌∙◌, ap, subst, refl}
use Rattle.std.proofs.lemmas.Result.{IfOk-weaker}
use Rattle.std.specs.Global.{Vec}
use Rattle.eco_meaning.specs.Circuit.{AreTargets}
use Rattle.eco_meaning.specs.Meaning.{Goal}
use Rattle.eco_aig.specs.declared.edge.Edge.{Edge}
use Rattle.eco_laws.specs.Asked.{IsMissed}
use Rattle.eco_aig.specs.Inputs.{AreInputs}
use Rattle.eco_aig.proofs.InputEdges.{inputs_stay}
use Rattle.eco_tseitin.specs.Sides.{IsOneSide}
use Rattle.eco_pose.specs.Boards.{AreRowEdges, AsksOf, row_nodes}
use Rattle.eco_pose.specs.Answers.{AsksFor}
use Rattle.eco_pose.specs.Shapes.{IsOfInputs}
use Rattle.eco_pose.proofs.RowLaws.{ok_both, grown}
use Rattle.eco_pose.proofs.MissLaws.{AreModelsOf, AreAnswersOf, asks_missed}
use Rattle.eco_pose.proofs.ReadLaws.{one_reads}
use Rattle.eco_pose.proofs.missing.missed_side.Goals as goal

pub row_edges-requires-clause-count : goal.row_edges-requires-clause-count
row_edges-requires-clause-count c k d lt =
    let (targets, are, count) = c.requires.rows k d lt in
    (targets, are, count ∙ ap (λ m. m + length (get_or c.args.rows.now k d)) (sym c.requires.laid_out.input_count))

-- the inputs of the board are those of its larger graph
inputs_are : (c : goal.After-drop-wrong) → AreInputs c.row_edges.new.self.graph c.as_slice.result.now
inputs_are c =
    let board = c.args.board.now in
    let new = c.row_edges.new.self in
    let same : c.as_slice.result.now ≡ board.inputs.items = c.as_slice.ensures.value ∙ ap (λ (v : Vec Edge). v.items) c.row_edges.ensures.keeps.inputs in
    subst (AreInputs new.graph) (sym same)
    (inputs_stay board.graph new.graph (length c.args.rows.now * row_nodes c.args.netlist.now) board.inputs.items c.nodes.ensures.graph c.row_edges.ensures.grows c.requires.inputs)

pub returns-clause-asks : goal.returns-clause-asks
returns-clause-asks c =
    let n = c.args.netlist.now in
    let rows = c.args.rows.now in
    let board = c.args.board.now in
    let graph = c.row_edges.new.self.graph in
    let inputs = c.as_slice.result.now in
    let edges = c.as_slice-2.result.now in
    let same : inputs ≡ board.inputs.items = c.as_slice.ensures.value ∙ ap (λ (v : Vec Edge). v.items) c.row_edges.ensures.keeps.inputs in
    IfOk-weaker c.one_side.result (λ side. AreModelsOf graph inputs edges side.inputs.items side.cnf.clauses × AreAnswersOf graph inputs edges side.inputs.items side.cnf.clauses)
    (λ side. (goal : Goal) (targets : List (List ℕ)) → AreTargets n targets → AsksOf n goal board → AsksFor (IsMissed n goal targets rows) side.inputs.items side.cnf.clauses)
    (λ side both goal targets are asks.
    asks_missed n goal targets graph inputs rows edges side.inputs.items side.cnf.clauses (ap length same ∙ c.requires.laid_out.input_count) (inputs_are c)
    (subst (λ ins. AreRowEdges n goal targets graph ins rows edges) (sym same)
    (subst (AreRowEdges n goal targets graph board.inputs.items rows) (sym c.as_slice-2.ensures.value) (c.in_ok-wrong.ensures.wrong n goal targets refl refl are asks)))
    both.0 both.1)
    (ok_both c.one_side.result (λ side. AreModelsOf graph inputs edges side.inputs.items side.cnf.clauses) (λ side. AreAnswersOf graph inputs edges side.inputs.items side.cnf.clauses) c.one_side.ensures.models c.one_side.ensures.answers)

pub returns-clause-shape : goal.returns-clause-shape
returns-clause-shape c =
    IfOk-weaker c.one_side.result (IsOneSide c.row_edges.new.self.graph c.as_slice.result.now c.as_slice-2.result.now) IsOfInputs
    (λ side encoded. record { graph = c.row_edges.new.self.graph; inputs = c.as_slice.result.now; asserted = c.as_slice-2.result.now; are_inputs = inputs_are c; encoded = encoded })
    c.one_side.ensures.shape

pub returns-clause-reads : goal.returns-clause-reads
returns-clause-reads c =
    let graph = c.row_edges.new.self.graph in
    let inputs = c.as_slice.result.now in
    let edges = c.as_slice-2.result.now in
    let same : inputs ≡ c.args.board.now.inputs.items = c.as_slice.ensures.value ∙ ap (λ (v : Vec Edge). v.items) c.row_edges.ensures.keeps.inputs in
    IfOk-weaker c.one_side.result (IsOneSide graph inputs edges) (λ side. length side.inputs.items ≡ length c.args.netlist.now.inputs)
    (λ side is. one_reads graph inputs edges side is ∙ ap length same ∙ c.requires.laid_out.input_count) c.one_side.ensures.shape

pub returns-clause-few : goal.returns-clause-few
returns-clause-few c =
    let most = length c.args.rows.now * row_nodes c.args.netlist.now in
    IfOk-weaker c.one_side.result (λ side. side.cnf.vars ≤ length c.row_edges.new.self.graph) (λ side. side.cnf.vars ≤ length c.args.board.now.graph + most)
    (λ side few. omega (arith, few, grown c.args.board.now.graph c.row_edges.new.self.graph most c.row_edges.ensures.grows)) c.one_side.ensures.few
