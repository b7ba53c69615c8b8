-- The side is of a graph of the board.
use Rattle.std.proofs.Common.{◌≡◌, ℕ, ◌+◌, ◌*◌, ◌≤◌, List, length, arith, sym, ◌∙◌, ap, subst}
use Rattle.std.specs.Global.{Vec}
use Rattle.std.proofs.lemmas.List.{length-map}
use Rattle.std.proofs.lemmas.Result.{IfOk-weaker}
use Rattle.eco_meaning.specs.Circuit.{Circuit, names, AreTargets}
use Rattle.eco_meaning.specs.Meaning.{Goal}
use Rattle.eco_netlist.specs.Netlists.{names_at}
use Rattle.eco_aig.specs.declared.edge.Edge.{Edge}
use Rattle.eco_aig.specs.declared.node.Node.{Node}
use Rattle.eco_aig.specs.Graph.{IsGraph, Grows}
use Rattle.eco_aig.proofs.Growing.{grows_join}
use Rattle.eco_compile.specs.Compiled.{AreEdges, needed_nodes}
use Rattle.eco_aig.proofs.Growing.{edges_stay}
use Rattle.eco_tseitin.specs.Encoding.{literal_of}
use Rattle.eco_aig.specs.Inputs.{AreInputs}
use Rattle.eco_aig.proofs.InputEdges.{inputs_stay}
use Rattle.eco_tseitin.specs.Encoded.{IsEncoded}
use Rattle.eco_pose.specs.Boards.{AreBaseEdges, AreRowEdges, AsksOf, IsSideGraph, KeepsEdges, row_nodes}
use Rattle.eco_pose.specs.declared.board.Board.{Board}
use Rattle.eco_pose.proofs.RowLaws.{grown, laid_out_stays, asks_stay, base_stays}
use Rattle.eco_pose.proofs.separating.side_over.Goals as goal

pub row_edges-requires-clause-laid_out : goal.row_edges-requires-clause-laid_out
row_edges-requires-clause-laid_out c =
    laid_out_stays c.args.n.now c.args.board.now c.base_edges.new.board (needed_nodes c.args.n.now) c.base_edges.ensures.keeps c.base_edges.ensures.grows c.requires.laid_out

pub row_edges-requires-clause-count : goal.row_edges-requires-clause-count
row_edges-requires-clause-count c k d lt =
    let (targets, are, count) = c.requires.rows k d lt in
    (targets, are, omega (arith, count, ap (λ (v : Vec Edge). length v.items) c.base_edges.ensures.keeps.inputs, c.requires.laid_out.input_count))

-- the board's inputs are those of a graph that grew twice
still_inputs : (old mid new : List Node) (first second : ℕ) (inputs : List Edge) → IsGraph new → Grows old mid first → Grows mid new second → AreInputs old inputs → AreInputs new inputs
still_inputs old mid new first second inputs graph to_mid to_new are = inputs_stay old new (first + second) inputs graph (grows_join old mid new first second to_mid to_new) are

-- what the board's inputs are in the end
same_inputs : (old mid new : Board) (raw : List Edge) → raw ≡ new.inputs.items → KeepsEdges old mid → KeepsEdges mid new → raw ≡ old.inputs.items
same_inputs old mid new raw last first second = last ∙ ap (λ (v : Vec Edge). v.items) (second.inputs ∙ first.inputs)

pub encode_side-requires-clause-inputs : goal.encode_side-requires-clause-inputs
encode_side-requires-clause-inputs c =
    let board = c.args.board.now in
    let mid = c.base_edges.new.board in
    let new = c.row_edges.new.self in
    subst (AreEdges new.graph) (sym (same_inputs board mid new c.as_slice.result.now c.as_slice.ensures.value c.base_edges.ensures.keeps c.row_edges.ensures.keeps))
    (still_inputs board.graph mid.graph new.graph (needed_nodes c.args.n.now) (length c.args.rows.now * row_nodes c.args.n.now) board.inputs.items c.nodes.ensures.graph c.base_edges.ensures.grows c.row_edges.ensures.grows c.requires.inputs).within

pub encode_side-requires-clause-base : goal.encode_side-requires-clause-base
encode_side-requires-clause-base c =
    let mid = c.base_edges.new.board in
    let new = c.row_edges.new.self in
    subst (AreEdges new.graph) (sym c.as_slice-2.ensures.value)
    (edges_stay mid.graph new.graph (length c.args.rows.now * row_nodes c.args.n.now) c.in_ok-base_edges.base_edges.items c.row_edges.ensures.grows c.in_ok-base_edges.ensures.edges.within)

pub encode_side-requires-clause-asserted : goal.encode_side-requires-clause-asserted
encode_side-requires-clause-asserted c = subst (AreEdges c.row_edges.new.self.graph) (sym c.as_slice-3.ensures.value) c.in_ok-wrong.ensures.edges

pub returns-clause-graph : goal.returns-clause-graph
returns-clause-graph c =
    let n = c.args.n.now in
    let rows = c.args.rows.now in
    let base = names_at (names n) c.args.base.now in
    let board = c.args.board.now in
    let mid = c.base_edges.new.board in
    let new = c.row_edges.new.self in
    let inputs = c.as_slice.result.now in
    let edges = c.as_slice-2.result.now in
    let asserted = c.as_slice-3.result.now in
    let first = needed_nodes n in
    let second = length rows * row_nodes n in
    let same = same_inputs board mid new inputs c.as_slice.ensures.value c.base_edges.ensures.keeps c.row_edges.ensures.keeps in
    let same_mid : inputs ≡ mid.inputs.items = c.as_slice.ensures.value ∙ ap (λ (v : Vec Edge). v.items) c.row_edges.ensures.keeps.inputs in
    IfOk-weaker c.encode_side.result (IsEncoded new.graph inputs edges asserted)
    (λ side. (f : Circuit) (goal : Goal) (targets : List (List ℕ)) → n.inputs ≡ f.inputs → n.outputs ≡ f.outputs → AreTargets n targets → AsksOf f goal board → IsSideGraph n goal targets rows base side)
    (λ side encoded f goal targets same_in same_out are asks. record {
      graph = new.graph;
      inputs = inputs;
      base_edges = edges;
      asserted = asserted;
      are_inputs = subst (AreInputs new.graph) (sym same) (still_inputs board.graph mid.graph new.graph first second board.inputs.items c.nodes.ensures.graph c.base_edges.ensures.grows c.row_edges.ensures.grows c.requires.inputs);
      input_count = ap length same ∙ c.requires.laid_out.input_count;
      valued = subst (λ ins. AreBaseEdges n base new.graph ins edges) (sym same)
          (subst (AreBaseEdges n base new.graph board.inputs.items) (sym c.as_slice-2.ensures.value)
          (base_stays n base mid.graph new.graph second board.inputs.items c.in_ok-base_edges.base_edges.items c.row_edges.ensures.grows c.in_ok-base_edges.ensures.edges));
      wrong = subst (λ ins. AreRowEdges n goal targets new.graph ins rows asserted) (sym same_mid)
          (subst (AreRowEdges n goal targets new.graph mid.inputs.items rows) (sym c.as_slice-3.ensures.value)
          (c.in_ok-wrong.ensures.wrong f goal targets same_in same_out are (asks_stay f goal board mid first c.base_edges.ensures.keeps c.base_edges.ensures.grows asks)));
      encoded = encoded;
    })
    c.encode_side.ensures.encoded

pub returns-clause-base_count : goal.returns-clause-base_count
returns-clause-base_count c =
    let edges = c.as_slice-2.result.now in
    IfOk-weaker c.encode_side.result (IsEncoded c.row_edges.new.self.graph c.as_slice.result.now edges c.as_slice-3.result.now) (λ side. length side.base.items ≡ length c.args.base.now)
    (λ side encoded. ap length encoded.base_are ∙ length-map edges (literal_of encoded.side.nodes) ∙ ap length c.as_slice-2.ensures.value ∙ c.in_ok-base_edges.ensures.count)
    c.encode_side.ensures.encoded

pub returns-clause-few : goal.returns-clause-few
returns-clause-few c =
    let first = needed_nodes c.args.n.now in
    let second = length c.args.rows.now * row_nodes c.args.n.now in
    let old = c.args.board.now.graph in
    let mid = c.base_edges.new.board.graph in
    let new = c.row_edges.new.self.graph in
    IfOk-weaker c.encode_side.result (λ side. side.cnf.vars ≤ length new) (λ side. side.cnf.vars ≤ length old + first + second)
    (λ side few. omega (arith, few, grown old mid first c.base_edges.ensures.grows, grown mid new second c.row_edges.ensures.grows)) c.encode_side.ensures.few
