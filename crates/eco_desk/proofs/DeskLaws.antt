-- Desks whose graph grows, and what the edges of a turn's questions ask.
use Rattle.std.proofs.Common.{◌≡◌, ℕ, Bool, true, false, Option, None, Some, refl, List, [], ◌∷◌, length, map, sym, ◌∙◌, ap, subst}
use Rattle.std.specs.Global.{Vec}
use Rattle.std.proofs.lemmas.List.{length-map}
use Rattle.std.proofs.lemmas.List.Elements.{All-nil}
use Rattle.eco_gates.specs.declared.gate.NetId.{NetId}
use Rattle.eco_meaning.specs.Circuit.{Circuit, names, AreTargets}
use Rattle.eco_meaning.specs.Meaning.{Goal}
use Rattle.eco_meaning.specs.Patch.{Fits, splice_of}
use Rattle.eco_netlist.specs.Netlists.{AreNets, IsChecked, name_at, names_at}
use Rattle.eco_query.specs.Problem.{IsProblem, ProblemValue}
use Rattle.eco_aig.specs.declared.edge.Edge.{Edge}
use Rattle.eco_aig.specs.declared.node.Node.{Node}
use Rattle.eco_aig.specs.Inputs.{AreInputs}
use Rattle.eco_tseitin.specs.declared.sides.EncodedSide.{EncodedSide}
use Rattle.eco_tseitin.specs.Encoded.{IsEncoded}
use Rattle.eco_pose.specs.declared.board.Board.{Board}
use Rattle.eco_pose.specs.Boards.{AreBaseEdges, AreRowEdges, IsLaidOut, IsRowEdge, IsSideGraph}
use Rattle.eco_pose.specs.Posing.{PosedValue}
use Rattle.eco_pose.specs.Questions.{IsSeparable}
use Rattle.eco_pose.specs.Answers.{AsksSeparate}
use Rattle.eco_pose.specs.Shapes.{IsEncodedTwice}
use Rattle.eco_pose.proofs.SideLaws.{joined_ask, names_of_splice, stage_of}
use Rattle.eco_pose.proofs.ReadLaws.{encoded_reads, joined_reads}
use Rattle.eco_desk.specs.declared.swept.SweptBoard.{SweptBoard}
use Rattle.eco_desk.specs.declared.known_rows.KnownRow.{KnownRow}
use Rattle.eco_desk.specs.declared.turned.Turn.{Turn}
use Rattle.eco_desk.specs.declared.turned.PairEdges.{PairEdges}
use Rattle.eco_desk.specs.declared.desk.Desk.{Desk}
use Rattle.eco_desk.specs.Boards.{AreNetEdges, AreKnown, Continues, IsSweptBoardOf, StayKnown}
use Rattle.eco_desk.specs.Pairs.{IsPairOf}
use Rattle.eco_desk.specs.Desks.{IsDeskOf, IsTurnOf, StaysTurn, TellsPair}
use Rattle.eco_desk.specs.Engines.{Turned, turned_of}
use Rattle.eco_desk.proofs.SweptLaws.{net_edges_stay, known_stays, swept_stays}

-- equal values
same_some : (a b : Turn) → Some a ≡ Some b → a ≡ b
same_some a b same = cc same

-- a board that is laid out for a netlist is laid out for another with its ports, as each splice is
laid_out_for : (f n : Circuit) (board : Board) → n.inputs ≡ f.inputs → n.outputs ≡ f.outputs → IsLaidOut f board → IsLaidOut n board
laid_out_for f n board same_inputs same_outputs is = record {
  constant = is.constant;
  input_count = is.input_count ∙ ap length (sym same_inputs);
  input_edges = is.input_edges;
  output_count = is.output_count ∙ ap length (sym same_outputs);
  output_edges = is.output_edges;
  cared_edge = is.cared_edge;
}

pub laid_out_of_splice : (f p n : Circuit) (board : Board) → n ≡ splice_of f p → IsLaidOut f board → IsLaidOut n board
laid_out_of_splice f p n board spliced = laid_out_for f n board (ap (λ (n : Circuit). n.inputs) spliced) (ap (λ (n : Circuit). n.outputs) spliced)

-- no row is known of at first, by a board of f and a netlist with its ports
pub known_at_first : (f n : Circuit) (goal : Goal) (targets : List (List ℕ)) (swept : SweptBoard) → n.inputs ≡ f.inputs → n.outputs ≡ f.outputs → AreTargets n targets → IsSweptBoardOf f goal swept → AreKnown n goal targets swept.board []
known_at_first f n goal targets swept same_inputs same_outputs are is = record {
  f = f;
  same_inputs = same_inputs;
  same_outputs = same_outputs;
  are_targets = are;
  laid_out = laid_out_for f n swept.board same_inputs same_outputs is.laid_out;
  asks = is.asks;
  rows = All-nil (λ (t : KnownRow). IsRowEdge n goal targets swept.board.graph swept.board.inputs.items t.row t.edge);
}

-- a turn of which nothing was asked
pub turn_at_first : (f : Circuit) (goal : Goal) (swept : SweptBoard) (turn : Turn) → IsSweptBoardOf f goal swept → turn.spliced ≡ splice_of f turn.patches →
    ((later : List (List ℕ)) → Fits f turn.patches later → AreTargets turn.spliced later) → AreNetEdges turn.spliced swept.board turn.nets.items → turn.zeros.items ≡ [] → turn.ones.items ≡ [] → IsTurnOf f goal swept.board turn
turn_at_first f goal swept turn is spliced left nets zeros ones = record {
  spliced = spliced;
  left = left;
  nets = nets;
  zeros = λ targets are. subst (AreKnown turn.spliced goal targets swept.board) (sym zeros) (known_at_first f turn.spliced goal targets swept (ap (λ (n : Circuit). n.inputs) spliced) (ap (λ (n : Circuit). n.outputs) spliced) are is);
  ones = λ targets are. subst (AreKnown turn.spliced goal targets swept.board) (sym ones) (known_at_first f turn.spliced goal targets swept (ap (λ (n : Circuit). n.inputs) spliced) (ap (λ (n : Circuit). n.outputs) spliced) are is);
}

-- a turn whose rows stay known of
pub turn_stays : (f : Circuit) (goal : Goal) (swept grown : SweptBoard) (old new : Turn) → Continues swept grown → StaysTurn swept.board old grown.board new → IsTurnOf f goal swept.board old → IsTurnOf f goal grown.board new
turn_stays f goal swept grown old new continues stays is = record {
  spliced = stays.spliced ∙ is.spliced ∙ ap (splice_of f) (sym stays.patches);
  left = λ later fits. subst (λ n. AreTargets n later) (sym stays.spliced) (is.left later (subst (λ p. Fits f p later) stays.patches fits));
  nets = subst (λ (edges : Vec Edge). AreNetEdges new.spliced grown.board edges.items) (sym stays.nets)
      (subst (λ n. AreNetEdges n grown.board old.nets.items) (sym stays.spliced) (net_edges_stay old.spliced swept grown old.nets.items continues is.nets));
  zeros = λ targets are. subst (λ n. AreKnown n goal targets grown.board new.zeros.items) (sym stays.spliced) (stays.zeros goal targets (is.zeros targets (subst (λ n. AreTargets n targets) stays.spliced are)));
  ones = λ targets are. subst (λ n. AreKnown n goal targets grown.board new.ones.items) (sym stays.spliced) (stays.ones goal targets (is.ones targets (subst (λ n. AreTargets n targets) stays.spliced are)));
}

-- the same turn over a board that grew
pub turn_goes_on : (f : Circuit) (goal : Goal) (old new : SweptBoard) (turn : Turn) → Continues old new → IsTurnOf f goal old.board turn → IsTurnOf f goal new.board turn
turn_goes_on f goal old new turn continues is = record {
  spliced = is.spliced;
  left = is.left;
  nets = net_edges_stay turn.spliced old new turn.nets.items continues is.nets;
  zeros = λ targets are. known_stays turn.spliced goal targets old new turn.zeros.items continues (is.zeros targets are);
  ones = λ targets are. known_stays turn.spliced goal targets old new turn.ones.items continues (is.ones targets are);
}

-- an encoded side over a graph that has the inputs alone, with edges of the base and of rows
side_graph : (n : Circuit) (goal : Goal) (targets : List (List ℕ)) (rows : List (List Bool)) (base : List (List ℕ)) (graph : List Node) (inputs base_edges wrong : List Edge) (side : EncodedSide) →
    AreInputs graph inputs → length inputs ≡ length n.inputs → AreBaseEdges n base graph inputs base_edges → AreRowEdges n goal targets graph inputs rows wrong → IsEncoded graph inputs base_edges wrong side →
    IsSideGraph n goal targets rows base side
side_graph n goal targets rows base graph inputs base_edges wrong side are_inputs count valued tell encoded = record {
  graph = graph;
  inputs = inputs;
  base_edges = base_edges;
  asserted = wrong;
  are_inputs = are_inputs;
  input_count = count;
  valued = valued;
  wrong = tell;
  encoded = encoded;
}

-- a pair over such a graph has the shape of two sides
pub pair_shape : (graph : List Node) (inputs base first second : List Edge) (posed : PosedValue) → AreInputs graph inputs → IsPairOf graph inputs base first second posed → IsEncodedTwice posed
pair_shape graph inputs base first second posed are pair = record {
  first_side = pair.one;
  second_side = pair.other;
  first_encoded = record { graph = graph; inputs = inputs; base = base; asserted = first; are_inputs = are; encoded = pair.one_encoded };
  second_encoded = record { graph = graph; inputs = inputs; base = base; asserted = second; are_inputs = are; encoded = pair.other_encoded };
  made = pair.sides;
  joined = pair.joined;
  clauses = ap (λ (value : PosedValue). value.clauses) pair.is;
  marks = ap (λ (value : PosedValue). value.side) pair.is;
  shared_are = ap (λ (value : PosedValue). value.shared) pair.is;
  first_reads = ap (λ (value : PosedValue). value.first) pair.is;
  second_reads = ap (λ (value : PosedValue). value.second) pair.is;
}

-- it has a literal for each edge of the inputs, on both sides
pub pair_reads : (graph : List Node) (inputs base first second : List Edge) (posed : PosedValue) → IsPairOf graph inputs base first second posed → (length posed.first ≡ length inputs) × (length posed.second ≡ length inputs)
pair_reads graph inputs base first second posed pair =
    subst (λ (value : PosedValue). (length value.first ≡ length inputs) × (length value.second ≡ length inputs)) (sym pair.is)
    (joined_reads pair.one pair.other pair.sides (length inputs) pair.joined
    (encoded_reads graph inputs base first pair.one pair.one_encoded) (encoded_reads graph inputs base second pair.other pair.other_encoded))

-- and asks for two inputs, where its edges are those of a turn's question
pub pair_asks : (f : Circuit) (goal : Goal) (board : Board) (turn : Turn) (swept : SweptBoard) (base : List NetId) (rest : List (List Bool)) (edges : PairEdges) (posed : PosedValue) (before : List (List ℕ)) (target : List ℕ) (behind : List (List ℕ)) →
    IsChecked f → IsChecked turn.patches → IsProblem f goal → AreNets (names f) base → IsTurnOf f goal board turn → IsSweptBoardOf f goal swept → AreInputs swept.board.graph swept.board.inputs.items →
    IsSeparable f turn.patches (names_at (names f) base) rest before target behind → AreTargets turn.spliced (target ∷ behind) →
    TellsPair board turn swept.board base rest edges → IsPairOf swept.board.graph swept.board.inputs.items edges.base.items edges.first.items edges.second.items posed →
    AsksSeparate f goal turn.patches before target behind rest (names_at (names f) base) posed
pair_asks f goal board turn swept base rest edges posed before target behind checked checked_patches problem nets is is_board inputs separable left tells pair =
    let p = turn.patches in
    let graph = swept.board.graph in
    let ins = swept.board.inputs.items in
    let base_names = names_at (names f) base in
    let named : names_at (names turn.spliced) base ≡ base_names = ap (λ (n : Circuit). names_at (names n) base) is.spliced ∙ names_of_splice f p base nets in
    let valued = subst (λ (n : Circuit). AreBaseEdges n base_names graph ins edges.base.items) is.spliced (subst (λ list. AreBaseEdges turn.spliced list graph ins edges.base.items) named tells.valued) in
    let first = subst (λ (n : Circuit). AreRowEdges n goal (target ∷ behind) graph ins (map (λ (row : List Bool). false ∷ row) rest) edges.first.items) is.spliced (tells.first goal (target ∷ behind) (is.zeros (target ∷ behind) left)) in
    let second = subst (λ (n : Circuit). AreRowEdges n goal (target ∷ behind) graph ins (map (λ (row : List Bool). true ∷ row) rest) edges.second.items) is.spliced (tells.second goal (target ∷ behind) (is.ones (target ∷ behind) left)) in
    subst (AsksSeparate f goal p before target behind rest base_names) (sym pair.is)
    (joined_ask f goal p before target behind base_names rest pair.one pair.other pair.sides separable.outputs
    (stage_of f goal p base_names rest before target behind checked checked_patches problem separable)
    (side_graph (splice_of f p) goal (target ∷ behind) (map (λ (row : List Bool). false ∷ row) rest) base_names graph ins edges.base.items edges.first.items pair.one inputs is_board.laid_out.input_count valued first pair.one_encoded)
    (side_graph (splice_of f p) goal (target ∷ behind) (map (λ (row : List Bool). true ∷ row) rest) base_names graph ins edges.base.items edges.second.items pair.other inputs is_board.laid_out.input_count valued second pair.other_encoded)
    (pair.one_base ∙ tells.count ∙ sym (length-map base (λ (net : NetId). name_at (names f) net.0)))
    pair.parts)

-- a desk whose turn is the same
pub desk_goes_on : (problem : ProblemValue) (old new : Desk) → IsDeskOf problem old → Continues old.swept new.swept → StayKnown problem.implementation old.swept.board old.known.items new.swept.board new.known.items → new.turn ≡ old.turn → IsDeskOf problem new
desk_goes_on problem old new is continues stay same = record {
  swept = swept_stays problem.implementation problem.goal old.swept new.swept continues is.swept;
  known = λ targets are. stay problem.goal targets (is.known targets are);
  turned = λ turn some. turn_goes_on problem.implementation problem.goal old.swept new.swept turn continues (is.turned turn (sym same ∙ some));
}

-- a desk with another turn
pub desk_with_turn : (problem : ProblemValue) (old new : Desk) (turn : Turn) → IsDeskOf problem old → Continues old.swept new.swept → new.known ≡ old.known → new.turn ≡ Some turn → IsTurnOf problem.implementation problem.goal new.swept.board turn → IsDeskOf problem new
desk_with_turn problem old new turn is continues same turned is_turn = record {
  swept = swept_stays problem.implementation problem.goal old.swept new.swept continues is.swept;
  known = λ targets are.
      subst (λ (known : Vec KnownRow). AreKnown problem.implementation problem.goal targets new.swept.board known.items) (sym same)
      (known_stays problem.implementation problem.goal targets old.swept new.swept old.known.items continues (is.known targets are));
  turned = λ other some. subst (IsTurnOf problem.implementation problem.goal new.swept.board) (same_some turn other (sym turned ∙ some)) is_turn;
}

-- what a turn is to, by its parts
pub turned_alike : (before after : Turn) → after.number ≡ before.number → after.patches ≡ before.patches → turned_of (Some after) ≡ turned_of (Some before)
turned_alike before after number patches = cc

-- and back
pub turned_is : (turn : Option Turn) (there : Turn) (i : ℕ) (patches : Circuit) → turn ≡ Some there → turned_of turn ≡ Some (record { number = i; patches = patches }) → (there.number ≡ i) × (there.patches ≡ patches)
turned_is turn there i patches is to =
    let found : Turned = record { number = there.number; patches = there.patches } in
    let wanted : Turned = record { number = i; patches = patches } in
    let some : Some found ≡ Some wanted = subst (λ (o : Option Turn). turned_of o ≡ Some wanted) is to in
    let same : found ≡ wanted = cc in
    (ap (λ (t : Turned). t.number) same, ap (λ (t : Turned). t.patches) same)

-- where something is turned to, there is a turn
pub turn_there : (turn : Option Turn) (there : Turned) → turned_of turn ≡ Some there → (found : Turn) × (turn ≡ Some found)
turn_there None there is = absurd (cc is)
turn_there (Some turn) there is = (turn, refl)
