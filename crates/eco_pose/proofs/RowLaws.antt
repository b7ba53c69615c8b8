-- Edges that tell where a netlist is right with a row of bits: how they are made, and that they stay where the graph grows.
use Rattle.std.proofs.Common.{◌≡◌, ℕ, Bool, true, false, List, [], ◌∷◌, ◌++◌, Some, Ok, Err, slice_get, length, map, suc, ◌+◌, ◌*◌, ◌<◌, ◌≤◌, take, refl, sym, ◌∙◌, ap, subst, arith}
use Rattle.std.specs.declared.result.Result.{Result}
use Rattle.std.specs.Result.{IfOk}
use Rattle.std.proofs.lemmas.List.Elements.{All-nil, All-cons, All-tail, All-append}
use Rattle.std.proofs.lemmas.Option.{slice_get_within}
use Rattle.std.proofs.lemmas.List.{length-append}
use Rattle.std.proofs.Math.Nat.{suc-mul, mul-le-mul_right}
use Rattle.eco_lists.proofs.Places.{take_at_more, zip_append}
use Rattle.std.specs.Global.{Vec}
use Rattle.eco_compile.specs.declared.goals.GoalEdges.{GoalEdges}
use Rattle.eco_pose.specs.declared.board.Board.{Board}
use Rattle.eco_meaning.specs.Circuit.{Circuit, AreTargets}
use Rattle.eco_netlist.specs.Netlists.{IsChecked}
use Rattle.eco_netlist.proofs.MisfitLemmas.{targets_unique}
use Rattle.eco_compile.specs.Valued.{AreValued}
use Rattle.eco_compile.proofs.Bits.{split_bits}
use Rattle.eco_compile.proofs.Telling.{targets_determine, miters_tell}
use Rattle.eco_meaning.specs.Meaning.{Goal}
use Rattle.eco_aig.specs.declared.edge.Edge.{Edge}
use Rattle.eco_aig.specs.declared.node.Node.{Node}
use Rattle.eco_aig.specs.declared.node.Node.TheVariants.{Zero}
use Rattle.eco_aig.specs.Graph.{IsEdge, IsValuation, Grows}
use Rattle.eco_aig.proofs.Growing.{edge_stays, node_stays, valuation_of_older, grows_none, grows_more, grows_join}
use Rattle.eco_aig.specs.Edges.{bits_of}
use Rattle.eco_compile.specs.Compiled.{AreEdges, HasOpenNets}
use Rattle.eco_aig.proofs.Growing.{edges_stay}
use Rattle.eco_compile.specs.Goals.{AreGoalEdges}
use Rattle.eco_compile.specs.Wrong.{IsWrongEdge, IsMiter}
use Rattle.eco_pose.specs.Boards.{AreBaseEdges, IsRowEdge, AreRowEdges, AsksOf, IsLaidOut, KeepsEdges, constant_edge, row_nodes}

-- the constant's bit
constant_is : (nodes : List Node) (w : ℕ → Bool) → slice_get nodes 0 ≡ Some Zero → IsValuation nodes w → w 0 ≡ false
constant_is nodes w first valuation = valuation.fits 0 Zero first

-- constants have their bits in each graph
pub constant_edges : (nodes : List Node) (bits : List Bool) → slice_get nodes 0 ≡ Some Zero → AreEdges nodes (map constant_edge bits)
constant_edges nodes [] first = All-nil (IsEdge nodes)
constant_edges nodes (bit ∷ bits) first =
    All-cons (IsEdge nodes) (constant_edge bit) (map constant_edge bits) (slice_get_within nodes 0 Zero first) (constant_edges nodes bits first)

pub constant_bits : (nodes : List Node) (w : ℕ → Bool) (bits : List Bool) → slice_get nodes 0 ≡ Some Zero → IsValuation nodes w → bits_of w (map constant_edge bits) ≡ bits
constant_bits nodes w [] first valuation = refl
constant_bits nodes w (true ∷ bits) first valuation = cc (constant_is nodes w first valuation, constant_bits nodes w bits first valuation)
constant_bits nodes w (false ∷ bits) first valuation = cc (constant_is nodes w first valuation, constant_bits nodes w bits first valuation)

-- where the open nets have constants, the edge tells of the row
pub row_from_wrong : (n : Circuit) (goal : Goal) (nets : List (List ℕ)) (nodes : List Node) (inputs : List Edge) (row : List Bool) (e : Edge) → slice_get nodes 0 ≡ Some Zero → IsWrongEdge n goal nets nodes inputs (map constant_edge row) e → IsRowEdge n goal nets nodes inputs row e
row_from_wrong n goal nets nodes inputs row e first tells = record {
  within = tells.within;
  wrong = λ w valuation one v has right.
      tells.wrong w valuation one v (record { input = has.input; row = has.open_bits ∙ sym (constant_bits nodes w row first valuation) }) right;
  right = λ w valuation none.
      let some = tells.right w valuation none in
      (some.0, record { input = some.1.input; open_bits = some.1.row ∙ constant_bits nodes w row first valuation }, some.2);
}

-- such an edge tells the same in a graph that grew
pub row_edge_stays : (n : Circuit) (goal : Goal) (nets : List (List ℕ)) (old new : List Node) (most : ℕ) (inputs : List Edge) (row : List Bool) (e : Edge) → Grows old new most → IsRowEdge n goal nets old inputs row e → IsRowEdge n goal nets new inputs row e
row_edge_stays n goal nets old new most inputs row e grows tells = record {
  within = edge_stays old new most e grows tells.within;
  wrong = λ w valuation. tells.wrong w (valuation_of_older old new most w grows valuation);
  right = λ w valuation. tells.right w (valuation_of_older old new most w grows valuation);
}

pub row_edges_stay : (n : Circuit) (goal : Goal) (nets : List (List ℕ)) (old new : List Node) (most : ℕ) (inputs : List Edge) (rows : List (List Bool)) (edges : List Edge) → Grows old new most → AreRowEdges n goal nets old inputs rows edges → AreRowEdges n goal nets new inputs rows edges
row_edges_stay n goal nets old new most inputs [] [] grows are = are
row_edges_stay n goal nets old new most inputs [] (e ∷ edges) grows are = absurd are
row_edges_stay n goal nets old new most inputs (row ∷ rows) [] grows are = absurd are
row_edges_stay n goal nets old new most inputs (row ∷ rows) (e ∷ edges) grows are =
    (row_edge_stays n goal nets old new most inputs row e grows are.0, row_edges_stay n goal nets old new most inputs rows edges grows are.1)

-- what is asked is told by the same edges
pub goal_edges_stay : (f : Circuit) (goal : Goal) (old new : List Node) (most : ℕ) (inputs outputs : List Edge) (cared : Edge) → Grows old new most → AreGoalEdges f goal old inputs outputs cared → AreGoalEdges f goal new inputs outputs cared
goal_edges_stay f goal old new most inputs outputs cared grows are = record {
  within = edges_stay old new most outputs grows are.within;
  cared_within = edge_stays old new most cared grows are.cared_within;
  some = λ w valuation. are.some w (valuation_of_older old new most w grows valuation);
  outputs_are = λ w valuation. are.outputs_are w (valuation_of_older old new most w grows valuation);
  cared_is = λ w valuation. are.cared_is w (valuation_of_older old new most w grows valuation);
}

-- nets keep their values
pub valued_stay : (n : Circuit) (nets : List (List ℕ)) (old new : List Node) (most : ℕ) (edges : List Edge) → Grows old new most → AreValued n old nets edges → AreValued n new nets edges
valued_stay n nets old new most edges grows are = record {
  within = edges_stay old new most edges grows are.within;
  values = λ w valuation. are.values w (valuation_of_older old new most w grows valuation);
}

-- how many targets there are
pub open_count : (n : Circuit) (targets : List (List ℕ)) (inputs opens : ℕ) → AreTargets n targets → inputs ≡ length n.inputs → HasOpenNets n (inputs + opens) → opens ≡ length targets
open_count n targets inputs opens are count (others, other_are, sum) =
    omega (arith, sum, count, length-append n.inputs others, ap length (targets_unique n others targets other_are are))

-- those behind others
edges_behind : (nodes : List Node) (first second : List Edge) → AreEdges nodes (first ++ second) → AreEdges nodes second
edges_behind nodes [] second are = are
edges_behind nodes (e ∷ first) second are = edges_behind nodes first second (All-tail (IsEdge nodes) e (first ++ second) are)

-- edges of nets are edges
pub last_edges : (nodes : List Node) (inputs opens edges : List Edge) → AreEdges nodes (inputs ++ opens ++ edges) → AreEdges nodes edges
last_edges nodes inputs opens edges are = edges_behind nodes (inputs ++ opens) edges are

-- a miter over a graph that grew twice tells where the netlist is right
pub miter_tells : (f n : Circuit) (goal : Goal) (targets : List (List ℕ)) (old mid new : List Node) (first second : ℕ) (inputs opens outputs wanted : List Edge) (cared e : Edge) →
    IsChecked n → n.inputs ≡ f.inputs → n.outputs ≡ f.outputs → AreTargets n targets → AreGoalEdges f goal old inputs wanted cared →
    Grows old mid first → Grows mid new second → AreValued n mid (n.inputs ++ targets ++ n.outputs) (inputs ++ opens ++ outputs) →
    length inputs ≡ length n.inputs → HasOpenNets n (length inputs + length opens) → IsMiter new outputs wanted cared e → IsWrongEdge n goal targets new inputs opens e
miter_tells f n goal targets old mid new first second inputs opens outputs wanted cared e checked same_inputs same_outputs are asks to_mid to_new valued count counted made =
    miters_tell f n goal targets new inputs opens outputs wanted cared e same_inputs same_outputs (targets_determine n targets checked are)
    (goal_edges_stay f goal mid new second inputs wanted cared to_new (goal_edges_stay f goal old mid first inputs wanted cared to_mid asks))
    (valued_stay n (n.inputs ++ targets ++ n.outputs) mid new second (inputs ++ opens ++ outputs) to_new valued)
    count (open_count n targets (length inputs) (length opens) are count counted) made

-- what a board asks it asks where its graph grew
pub asks_stay : (f : Circuit) (goal : Goal) (old new : Board) (most : ℕ) → KeepsEdges old new → Grows old.graph new.graph most → AsksOf f goal old → AsksOf f goal new
asks_stay f goal old new most keeps grows asks =
    subst (λ (edges : GoalEdges). AreGoalEdges f goal new.graph new.inputs.items edges.outputs.items edges.cared) (sym keeps.goal)
    (subst (λ (inputs : Vec Edge). AreGoalEdges f goal new.graph inputs.items old.goal.outputs.items old.goal.cared) (sym keeps.inputs)
    (goal_edges_stay f goal old.graph new.graph most old.inputs.items old.goal.outputs.items old.goal.cared grows asks))

-- and it stays laid out
pub laid_out_stays : (n : Circuit) (old new : Board) (most : ℕ) → KeepsEdges old new → Grows old.graph new.graph most → IsLaidOut n old → IsLaidOut n new
laid_out_stays n old new most keeps grows laid = record {
  constant = node_stays old.graph new.graph most grows 0 Zero laid.constant;
  input_count = subst (λ (inputs : Vec Edge). length inputs.items ≡ length n.inputs) (sym keeps.inputs) laid.input_count;
  input_edges = subst (λ (inputs : Vec Edge). AreEdges new.graph inputs.items) (sym keeps.inputs) (edges_stay old.graph new.graph most old.inputs.items grows laid.input_edges);
  output_count = subst (λ (edges : GoalEdges). length edges.outputs.items ≡ length n.outputs) (sym keeps.goal) laid.output_count;
  output_edges = subst (λ (edges : GoalEdges). AreEdges new.graph edges.outputs.items) (sym keeps.goal) (edges_stay old.graph new.graph most old.goal.outputs.items grows laid.output_edges);
  cared_edge = subst (λ (edges : GoalEdges). IsEdge new.graph edges.cared) (sym keeps.goal) (edge_stays old.graph new.graph most old.goal.cared grows laid.cared_edge);
}

pub keeps_both : (old mid new : Board) → KeepsEdges old mid → KeepsEdges mid new → KeepsEdges old new
keeps_both old mid new first second = record { inputs = second.inputs ∙ first.inputs; goal = second.goal ∙ first.goal }

-- the first rows have edges that tell of them
pub record RowsHaveEdges (n : Circuit) (old new : Board) (rows : List (List Bool)) (k : ℕ) (edges : List Edge) : Type 0 where
  pub keeps : KeepsEdges old new
  pub grows : Grows old.graph new.graph (k * row_nodes n)
  pub edges_are : AreEdges new.graph edges
  pub told : (f : Circuit) (goal : Goal) (targets : List (List ℕ)) → n.inputs ≡ f.inputs → n.outputs ≡ f.outputs → AreTargets n targets →
      AsksOf f goal old → AreRowEdges n goal targets new.graph old.inputs.items (take k rows) edges

pub rows_none : (n : Circuit) (board : Board) (rows : List (List Bool)) → RowsHaveEdges n board board rows 0 []
rows_none n board rows = record {
  keeps = record { inputs = refl; goal = refl };
  grows = grows_none board.graph (0 * row_nodes n);
  edges_are = All-nil (IsEdge board.graph);
  told = λ f goal targets same_inputs same_outputs are asks. tt;
}

-- what an edge of one more row tells
abbrev pub TellsRow : Circuit → Board → Board → List Bool → Edge → Type 0
TellsRow n mid new row e =
    (f : Circuit) (goal : Goal) (targets : List (List ℕ)) → n.inputs ≡ f.inputs → n.outputs ≡ f.outputs → AreTargets n targets →
    AsksOf f goal mid → IsRowEdge n goal targets new.graph mid.inputs.items row e

pub rows_more : (n : Circuit) (old mid new : Board) (rows : List (List Bool)) (k : ℕ) (edges more : List Edge) (row : List Bool) (e : Edge) →
    RowsHaveEdges n old mid rows k edges → slice_get rows k ≡ Some row → KeepsEdges mid new → Grows mid.graph new.graph (row_nodes n) → IsEdge new.graph e → TellsRow n mid new row e → more ≡ edges ++ e ∷ [] →
    RowsHaveEdges n old new rows (suc k) more
rows_more n old mid new rows k edges more row e so_far at keeps grows within tells added = record {
  keeps = keeps_both old mid new so_far.keeps keeps;
  grows = grows_more old.graph new.graph (k * row_nodes n + row_nodes n) (suc k * row_nodes n) (omega (arith, suc-mul k (row_nodes n))) (grows_join old.graph mid.graph new.graph (k * row_nodes n) (row_nodes n) so_far.grows grows);
  edges_are = subst (AreEdges new.graph) (sym added)
      (All-append (IsEdge new.graph) edges (e ∷ []) (edges_stay mid.graph new.graph (row_nodes n) edges grows so_far.edges_are) (All-cons (IsEdge new.graph) e [] within (All-nil (IsEdge new.graph))));
  told = λ f goal targets same_inputs same_outputs are asks.
      let before = row_edges_stay n goal targets mid.graph new.graph (row_nodes n) old.inputs.items (take k rows) edges grows (so_far.told f goal targets same_inputs same_outputs are asks) in
      let this = tells f goal targets same_inputs same_outputs are (asks_stay f goal old mid (k * row_nodes n) so_far.keeps so_far.grows asks) in
      let here = subst (λ (inputs : Vec Edge). IsRowEdge n goal targets new.graph inputs.items row e) so_far.keeps.inputs this in
      subst (AreRowEdges n goal targets new.graph old.inputs.items (take (suc k) rows)) (sym added)
      (subst (λ front. AreRowEdges n goal targets new.graph old.inputs.items front (edges ++ e ∷ [])) (sym (take_at_more rows k row at))
      (zip_append (IsRowEdge n goal targets new.graph old.inputs.items) (take k rows) edges (row ∷ []) (e ∷ []) before (here, tt)));
}

-- where the edges of one more row can't be had, the graph has grown by no more
pub rows_few : (n : Circuit) (old mid new : Board) (rows : List (List Bool)) (k : ℕ) (edges : List Edge) →
    RowsHaveEdges n old mid rows k edges → k < length rows → Grows mid.graph new.graph (row_nodes n) → Grows old.graph new.graph (length rows * row_nodes n)
rows_few n old mid new rows k edges so_far within grows =
    grows_more old.graph new.graph (k * row_nodes n + row_nodes n) (length rows * row_nodes n)
    (subst (λ m. m ≤ length rows * row_nodes n) (suc-mul k (row_nodes n)) (mul-le-mul_right (row_nodes n) within))
    (grows_join old.graph mid.graph new.graph (k * row_nodes n) (row_nodes n) so_far.grows grows)

-- two facts of one answer
pub ok_both : {T E : Type 0} → (r : Result T E) (P Q : T → Type 0) → IfOk r P → IfOk r Q → IfOk r (λ x. P x × Q x)
ok_both (Ok x) P Q p q = (p, q)
ok_both (Err e) P Q p q = tt

-- how large a graph is that grew
pub grown : (old new : List Node) (most : ℕ) → Grows old new most → length new ≤ length old + most
grown old new most grows = omega (arith, ap length grows.behind, length-append old grows.added, grows.few)

-- of the nets that have values, the inputs and the last ones
pub base_from_valued : (n : Circuit) (targets base : List (List ℕ)) (nodes : List Node) (inputs opens edges : List Edge) → length inputs ≡ length n.inputs → length opens ≡ length targets →
    AreValued n nodes (n.inputs ++ targets ++ base) (inputs ++ opens ++ edges) → AreBaseEdges n base nodes inputs edges
base_from_valued n targets base nodes inputs opens edges count open_nets valued = record {
  within = last_edges nodes inputs opens edges valued.within;
  values = λ w valuation.
      let (v, consistent, same) = valued.values w valuation in
      let (front, last) = split_bits v w (n.inputs ++ targets) base (inputs ++ opens) edges (omega (arith, length-append inputs opens, length-append n.inputs targets, count, open_nets)) same in
      let (first, middle) = split_bits v w n.inputs targets inputs opens count front in
      (v, consistent, first, last);
}

-- they keep these values
pub base_stays : (n : Circuit) (base : List (List ℕ)) (old new : List Node) (most : ℕ) (inputs edges : List Edge) → Grows old new most → AreBaseEdges n base old inputs edges → AreBaseEdges n base new inputs edges
base_stays n base old new most inputs edges grows are = record {
  within = edges_stay old new most edges grows are.within;
  values = λ w valuation. are.values w (valuation_of_older old new most w grows valuation);
}
