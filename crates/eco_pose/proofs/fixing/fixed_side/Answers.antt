-- The clauses ask for bits of the targets that begin with the fixed ones and are right.
use Rattle.std.proofs.Common.{◌≡◌, ℕ, ◌+◌, ◌≤◌, Bool, List, [], ◌∷◌, ◌++◌, length, map, arith, sym, ◌∙◌, ap, subst, refl}
use Rattle.std.proofs.lemmas.Result.{IfOk-weaker}
use Rattle.std.proofs.lemmas.List.Elements.{All-nil, All-cons, All-append}
use Rattle.eco_meaning.specs.Circuit.{AreTargets}
use Rattle.eco_meaning.specs.Meaning.{Goal}
use Rattle.eco_aig.specs.declared.node.Node.TheVariants.{Zero}
use Rattle.eco_aig.specs.Edges.{complement}
use Rattle.eco_aig.specs.Graph.{IsEdge}
use Rattle.eco_aig.proofs.Growing.{node_stays}
use Rattle.eco_compile.specs.Compiled.{AreEdges}
use Rattle.eco_laws.specs.Asked.{IsFixed}
use Rattle.eco_aig.specs.Inputs.{AreInputs}
use Rattle.eco_compile.specs.Wrong.{IsWrongEdge}
use Rattle.eco_aig.proofs.InputEdges.{inputs_stay}
use Rattle.eco_tseitin.specs.Sides.{IsOneSide}
use Rattle.eco_pose.specs.Boards.{AsksOf, constant_edge, row_nodes, signed}
use Rattle.eco_pose.specs.Answers.{AsksFor}
use Rattle.eco_pose.specs.Shapes.{IsOfInputs}
use Rattle.eco_pose.proofs.RowLaws.{ok_both, grown, open_count}
use Rattle.eco_pose.proofs.MissLaws.{AreModelsOf, AreAnswersOf}
use Rattle.eco_pose.proofs.FixLaws.{asks_fixed, signed_edges}
use Rattle.eco_pose.proofs.ReadLaws.{one_reads}
use Rattle.eco_pose.proofs.fixing.fixed_side.Goals.{After-as_slice}
use Rattle.eco_pose.proofs.fixing.fixed_side.Goals as goal

-- the open nets are the inputs of the larger graph
inputs_are : (c : After-as_slice) → AreInputs c.wrong_edge.new.self.graph c.args.opens.now
inputs_are c =
    inputs_stay c.args.board.now.graph c.wrong_edge.new.self.graph (row_nodes c.args.netlist.now) c.args.opens.now c.nodes.ensures.graph c.wrong_edge.ensures.grows c.requires.opens

-- what is asserted
asserted_are : (c : After-as_slice) → c.as_slice.result.now ≡ signed c.args.opens.now c.args.fixed.now ++ complement c.in_ok-wrong.wrong ∷ []
asserted_are c =
    c.as_slice.ensures.value ∙ c.in_ok-push.ensures.items ∙ ap (λ list. list ++ c.not.result ∷ []) c.in_ok-asserted.ensures
    ∙ ap (λ e. signed c.args.opens.now c.args.fixed.now ++ e ∷ []) c.not.ensures.sign

pub one_side-requires-clause-inputs : goal.one_side-requires-clause-inputs
one_side-requires-clause-inputs c = (inputs_are c).within

pub one_side-requires-clause-asserted : goal.one_side-requires-clause-asserted
one_side-requires-clause-asserted c =
    subst (AreEdges c.wrong_edge.new.self.graph) (sym (asserted_are c))
    (All-append (IsEdge c.wrong_edge.new.self.graph) (signed c.args.opens.now c.args.fixed.now) (complement c.in_ok-wrong.wrong ∷ [])
    (signed_edges c.wrong_edge.new.self.graph c.args.opens.now c.args.fixed.now (inputs_are c).within)
    (All-cons (IsEdge c.wrong_edge.new.self.graph) (complement c.in_ok-wrong.wrong) [] c.in_ok-wrong.ensures.edge (All-nil (IsEdge c.wrong_edge.new.self.graph))))

pub returns-clause-asks : goal.returns-clause-asks
returns-clause-asks c =
    let n = c.args.netlist.now in
    let board = c.args.board.now in
    let graph = c.wrong_edge.new.self.graph in
    let opens = c.args.opens.now in
    let fixed = c.args.fixed.now in
    let edges = c.as_slice.result.now in
    let wrong = c.in_ok-wrong.wrong in
    IfOk-weaker c.one_side.result (λ side. AreModelsOf graph opens edges side.inputs.items side.cnf.clauses × AreAnswersOf graph opens edges side.inputs.items side.cnf.clauses)
    (λ side. (goal : Goal) (targets : List (List ℕ)) (input : List Bool) → AreTargets n targets → board.inputs.items ≡ map constant_edge input → AsksOf n goal board →
    AsksFor (IsFixed n goal targets fixed input) side.inputs.items side.cnf.clauses)
    (λ side both goal targets input are constant asks.
    let asserted : edges ≡ signed opens fixed ++ complement wrong ∷ [] = c.as_slice.ensures.value ∙ c.in_ok-push.ensures.items ∙ ap (λ list. list ++ c.not.result ∷ []) c.in_ok-asserted.ensures ∙ ap (λ e. signed opens fixed ++ e ∷ []) c.not.ensures.sign in
    let are_inputs = inputs_stay board.graph graph (row_nodes n) opens c.nodes.ensures.graph c.wrong_edge.ensures.grows c.requires.opens in
    let count = open_count n targets (length board.inputs.items) (length opens) are c.requires.laid_out.input_count c.requires.count in
    asks_fixed n goal targets graph opens input fixed wrong side.inputs.items side.cnf.clauses
    (node_stays board.graph graph (row_nodes n) c.wrong_edge.ensures.grows 0 Zero c.requires.laid_out.constant) count (subst (λ m. length fixed ≤ m) count c.requires.fixed) are_inputs
    (subst (λ ins. IsWrongEdge n goal targets graph ins opens wrong) constant (c.in_ok-wrong.ensures.wrong n goal targets refl refl are asks))
    (subst (λ list. AreModelsOf graph opens list side.inputs.items side.cnf.clauses) asserted both.0)
    (subst (λ list. AreAnswersOf graph opens list side.inputs.items side.cnf.clauses) asserted both.1))
    (ok_both c.one_side.result (λ side. AreModelsOf graph opens edges side.inputs.items side.cnf.clauses) (λ side. AreAnswersOf graph opens edges side.inputs.items side.cnf.clauses) c.one_side.ensures.models c.one_side.ensures.answers)

pub returns-clause-shape : goal.returns-clause-shape
returns-clause-shape c =
    IfOk-weaker c.one_side.result (IsOneSide c.wrong_edge.new.self.graph c.args.opens.now c.as_slice.result.now) IsOfInputs
    (λ side encoded. record { graph = c.wrong_edge.new.self.graph; inputs = c.args.opens.now; asserted = c.as_slice.result.now; are_inputs = inputs_stay c.args.board.now.graph c.wrong_edge.new.self.graph (row_nodes c.args.netlist.now) c.args.opens.now c.nodes.ensures.graph c.wrong_edge.ensures.grows c.requires.opens; encoded = encoded })
    c.one_side.ensures.shape

pub returns-clause-reads : goal.returns-clause-reads
returns-clause-reads c =
    let graph = c.wrong_edge.new.self.graph in
    let opens = c.args.opens.now in
    let edges = c.as_slice.result.now in
    IfOk-weaker c.one_side.result (IsOneSide graph opens edges) (λ side. length side.inputs.items ≡ length opens) (one_reads graph opens edges) c.one_side.ensures.shape

pub returns-clause-few : goal.returns-clause-few
returns-clause-few c =
    let most = row_nodes c.args.netlist.now in
    IfOk-weaker c.one_side.result (λ side. side.cnf.vars ≤ length c.wrong_edge.new.self.graph) (λ side. side.cnf.vars ≤ length c.args.board.now.graph + most)
    (λ side few. omega (arith, few, grown c.args.board.now.graph c.wrong_edge.new.self.graph most c.wrong_edge.ensures.grows)) c.one_side.ensures.few
