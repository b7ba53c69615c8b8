-- What stays true of a board whose graph grows, and of the edges that merging gives.
use Rattle.std.proofs.Common.{◌≡◌, ℕ, suc, ◌+◌, Bool, false, List, [], ◌∷◌, ◌++◌, Some, slice_get, get_or, take, length, map, ◌<◌, refl, sym, ◌∙◌, ap, subst, arith}
use Rattle.std.specs.Global.{Vec}
use Rattle.std.proofs.lemmas.List.Elements.{All-nil, All-cons, All-append, All-weaker, All-contains}
use Rattle.std.proofs.lemmas.List.{get_or-map}
use Rattle.eco_lists.proofs.Members.{map-map}
use Rattle.eco_lists.proofs.Places.{All_at, map_agree, take_at_more, zip_append}
use Rattle.eco_meaning.specs.Circuit.{Circuit, Values, names}
use Rattle.eco_meaning.specs.Meaning.{Goal}
use Rattle.eco_aig.specs.declared.edge.Edge.{Edge}
use Rattle.eco_aig.specs.declared.node.Node.{Node}
use Rattle.eco_gates.specs.declared.gate.NetId.{NetId}
use Rattle.eco_netlist.specs.Netlists.{AreNets, name_at, names_at}
use Rattle.eco_aig.specs.Edges.{plain, value_of, bits_of}
use Rattle.eco_aig.specs.Graph.{IsEdge, IsGraph, IsValuation, HasValue, Grows}
use Rattle.eco_aig.proofs.Growing.{grows_none, grows_join}
use Rattle.eco_compile.specs.Compiled.{AreEdges}
use Rattle.eco_aig.specs.Swept.{AreImages}
use Rattle.eco_aig.proofs.Standing.{swept_grows, images_within}
use Rattle.eco_affine.proofs.Standing.{formed_grows}
use Rattle.eco_aig.specs.Inputs.{AreInputs}
use Rattle.eco_aig.proofs.InputEdges.{inputs_stay}
use Rattle.eco_compile.proofs.Valuing.{edge_at, picked_within}
use Rattle.eco_pose.specs.declared.board.Board.{Board}
use Rattle.eco_pose.specs.Boards.{AreBaseEdges, AreRowEdges, IsRowEdge, KeepsEdges}
use Rattle.eco_pose.proofs.RowLaws.{asks_stay, laid_out_stays, keeps_both, row_edge_stays, row_edges_stay, base_stays}
use Rattle.eco_desk.specs.declared.swept.SweptBoard.{SweptBoard}
use Rattle.eco_desk.specs.declared.known_rows.KnownRow.{KnownRow}
use Rattle.eco_desk.specs.Boards.{AreMerged, AreNetEdges, AreKnown, Continues, GrewFromInputs, IsListed, IsSweptBoardOf, StayKnown}

-- nothing changed
pub continues_same : (swept : SweptBoard) → AreMerged swept → Continues swept swept
continues_same swept merged = record { keeps = record { inputs = refl; goal = refl }; most = 0; grows = grows_none swept.board.graph 0; merged = merged; limit = refl }

-- one change after another
pub continues_both : (old mid new : SweptBoard) → Continues old mid → Continues mid new → Continues old new
continues_both old mid new first second = record {
  keeps = keeps_both old.board mid.board new.board first.keeps second.keeps;
  most = first.most + second.most;
  grows = grows_join old.board.graph mid.board.graph new.board.graph first.most second.most first.grows second.grows;
  merged = second.merged;
  limit = second.limit ∙ first.limit;
}

-- the graph alone grew
pub continues_grown : (old : SweptBoard) (board : Board) (most : ℕ) → KeepsEdges old.board board → Grows old.board.graph board.graph most → AreMerged old → Continues old (record old { board = board })
continues_grown old board most keeps grows merged = record {
  keeps = keeps;
  most = most;
  grows = grows;
  merged = record {
    sweeper = swept_grows old.board.graph board.graph most old.sweeper.map grows merged.sweeper;
    forms = formed_grows old.board.graph board.graph most old.forms grows merged.forms;
    limit = merged.limit;
  };
  limit = refl;
}

-- an edge of a row tells the same on the board that grew
pub row_stays : (n : Circuit) (goal : Goal) (targets : List (List ℕ)) (old new : SweptBoard) (row : List Bool) (e : Edge) → Continues old new →
    IsRowEdge n goal targets old.board.graph old.board.inputs.items row e → IsRowEdge n goal targets new.board.graph new.board.inputs.items row e
row_stays n goal targets old new row e continues tells =
    subst (λ (inputs : Vec Edge). IsRowEdge n goal targets new.board.graph inputs.items row e) (sym continues.keeps.inputs)
    (row_edge_stays n goal targets old.board.graph new.board.graph continues.most old.board.inputs.items row e continues.grows tells)

pub rows_stay : (n : Circuit) (goal : Goal) (targets : List (List ℕ)) (old new : SweptBoard) (rows : List (List Bool)) (edges : List Edge) → Continues old new →
    AreRowEdges n goal targets old.board.graph old.board.inputs.items rows edges → AreRowEdges n goal targets new.board.graph new.board.inputs.items rows edges
rows_stay n goal targets old new rows edges continues tell =
    subst (λ (inputs : Vec Edge). AreRowEdges n goal targets new.board.graph inputs.items rows edges) (sym continues.keeps.inputs)
    (row_edges_stay n goal targets old.board.graph new.board.graph continues.most old.board.inputs.items rows edges continues.grows tell)

-- so do the edges of a base
pub base_edges_stay : (n : Circuit) (base : List (List ℕ)) (old new : SweptBoard) (edges : List Edge) → Continues old new →
    AreBaseEdges n base old.board.graph old.board.inputs.items edges → AreBaseEdges n base new.board.graph new.board.inputs.items edges
base_edges_stay n base old new edges continues are =
    subst (λ (inputs : Vec Edge). AreBaseEdges n base new.board.graph inputs.items edges) (sym continues.keeps.inputs)
    (base_stays n base old.board.graph new.board.graph continues.most old.board.inputs.items edges continues.grows are)

pub net_edges_stay : (n : Circuit) (old new : SweptBoard) (edges : List Edge) → Continues old new → AreNetEdges n old.board edges → AreNetEdges n new.board edges
net_edges_stay n old new edges continues are = record { count = are.count; valued = base_edges_stay n (names n) old new edges continues are.valued }

-- and what is listed
pub known_stays : (n : Circuit) (goal : Goal) (targets : List (List ℕ)) (old new : SweptBoard) (known : List KnownRow) → Continues old new → AreKnown n goal targets old.board known → AreKnown n goal targets new.board known
known_stays n goal targets old new known continues are = record {
  f = are.f;
  same_inputs = are.same_inputs;
  same_outputs = are.same_outputs;
  are_targets = are.are_targets;
  laid_out = laid_out_stays n old.board new.board continues.most continues.keeps continues.grows are.laid_out;
  asks = asks_stay are.f goal old.board new.board continues.most continues.keeps continues.grows are.asks;
  rows = All-weaker (λ (t : KnownRow). IsRowEdge n goal targets old.board.graph old.board.inputs.items t.row t.edge) (λ (t : KnownRow). IsRowEdge n goal targets new.board.graph new.board.inputs.items t.row t.edge)
      (λ t tells. row_stays n goal targets old new t.row t.edge continues tells) known are.rows;
}

pub all_stay_known : (n : Circuit) (old new : SweptBoard) (known : List KnownRow) → Continues old new → StayKnown n old.board known new.board known
all_stay_known n old new known continues goal targets are = known_stays n goal targets old new known continues are

-- where nothing is listed
pub known_none : (n : Circuit) (goal : Goal) (targets : List (List ℕ)) (board : Board) (known : List KnownRow) → AreKnown n goal targets board known → AreKnown n goal targets board []
known_none n goal targets board known are = record {
  f = are.f;
  same_inputs = are.same_inputs;
  same_outputs = are.same_outputs;
  are_targets = are.are_targets;
  laid_out = are.laid_out;
  asks = are.asks;
  rows = All-nil (λ (t : KnownRow). IsRowEdge n goal targets board.graph board.inputs.items t.row t.edge);
}

-- where one row more is listed
pub known_more : (n : Circuit) (goal : Goal) (targets : List (List ℕ)) (board : Board) (known more : List KnownRow) (t : KnownRow) → AreKnown n goal targets board known →
    IsRowEdge n goal targets board.graph board.inputs.items t.row t.edge → more ≡ known ++ t ∷ [] → AreKnown n goal targets board more
known_more n goal targets board known more t are tells added =
    let Tells : KnownRow → Type 0 = λ t. IsRowEdge n goal targets board.graph board.inputs.items t.row t.edge in
    subst (AreKnown n goal targets board) (sym added) (record {
      f = are.f;
      same_inputs = are.same_inputs;
      same_outputs = are.same_outputs;
      are_targets = are.are_targets;
      laid_out = are.laid_out;
      asks = are.asks;
      rows = All-append Tells known (t ∷ []) are.rows (All-cons Tells t [] tells (All-nil Tells));
    })

-- the edge beside a row tells of it
pub listed_tells : (n : Circuit) (goal : Goal) (targets : List (List ℕ)) (board : Board) (known : List KnownRow) (row : List Bool) (e : Edge) → AreKnown n goal targets board known → IsListed known row e →
    IsRowEdge n goal targets board.graph board.inputs.items row e
listed_tells n goal targets board known row e are (t, among, same_row, same_edge) =
    subst (λ bits. IsRowEdge n goal targets board.graph board.inputs.items bits e) same_row
    (subst (IsRowEdge n goal targets board.graph board.inputs.items t.row) same_edge
    (All-contains (λ (t : KnownRow). IsRowEdge n goal targets board.graph board.inputs.items t.row t.edge) known t are.rows among))

-- an edge with the value of a row's edge tells of the row
pub same_row : (n : Circuit) (goal : Goal) (targets : List (List ℕ)) (nodes : List Node) (inputs : List Edge) (row : List Bool) (e r : Edge) → HasValue nodes r (λ w. value_of w e) →
    IsRowEdge n goal targets nodes inputs row e → IsRowEdge n goal targets nodes inputs row r
same_row n goal targets nodes inputs row e r has tells = record {
  within = has.within;
  wrong = λ w valuation one. tells.wrong w valuation (sym (has.value w valuation) ∙ one);
  right = λ w valuation none. tells.right w valuation (sym (has.value w valuation) ∙ none);
}

-- images have the bits of what they are images of
pub images_bits : (nodes : List Node) (edges images : List Edge) (w : ℕ → Bool) → AreImages nodes edges images → IsValuation nodes w → bits_of w images ≡ bits_of w edges
images_bits nodes [] [] w are valuation = refl
images_bits nodes [] (r ∷ images) w are valuation = absurd are
images_bits nodes (e ∷ edges) [] w are valuation = absurd are
images_bits nodes (e ∷ edges) (r ∷ images) w are valuation = cc (are.0.value w valuation, images_bits nodes edges images w are.1 valuation)

-- images of a base's edges are edges of the base
pub base_images : (n : Circuit) (base : List (List ℕ)) (nodes : List Node) (inputs edges images : List Edge) → AreImages nodes edges images → AreBaseEdges n base nodes inputs edges → AreBaseEdges n base nodes inputs images
base_images n base nodes inputs edges images are valued = record {
  within = images_within nodes edges images are;
  values = λ w valuation.
      let (v, consistent, at_inputs, at_base) = valued.values w valuation in
      (v, consistent, at_inputs, at_base ∙ sym (images_bits nodes edges images w are valuation));
}

-- of the edges of all nets those of some nets have the nets' bits
picked_bits : (list : List (List ℕ)) (v : Values) (w : ℕ → Bool) (edges : List Edge) (nets : List NetId) → length edges ≡ length list → AreNets list nets → map v list ≡ bits_of w edges →
    map v (names_at list nets) ≡ bits_of w (map (edge_at edges) nets)
picked_bits list v w edges nets len within same =
    map-map (λ (net : NetId). name_at list net.0) v nets
    ∙ map_agree (λ (net : NetId). v (name_at list net.0)) (λ (net : NetId). value_of w (edge_at edges net)) nets (λ k net at.
    let lt : net.0 < length list = All_at (λ (net : NetId). net.0 < length list) nets k net within at in
    sym (get_or-map v list net.0 [] false lt) ∙ ap (λ bits. get_or bits net.0 false) same ∙ get_or-map (value_of w) edges net.0 (plain 0) false (subst (λ m. net.0 < m) (sym len) lt))
    ∙ sym (map-map (edge_at edges) (value_of w) nets)

pub base_picked : (n : Circuit) (board : Board) (edges : List Edge) (nets : List NetId) → AreNetEdges n board edges → AreNets (names n) nets →
    AreBaseEdges n (names_at (names n) nets) board.graph board.inputs.items (map (edge_at edges) nets)
base_picked n board edges nets are within = record {
  within = picked_within n board.graph edges nets are.count within are.valued.within;
  values = λ w valuation.
      let (v, consistent, at_inputs, at_nets) = are.valued.values w valuation in
      (v, consistent, at_inputs, picked_bits (names n) v w edges nets are.count within at_nets);
}

-- edges of rows are edges
pub rows_within : (n : Circuit) (goal : Goal) (targets : List (List ℕ)) (nodes : List Node) (inputs : List Edge) (rows : List (List Bool)) (edges : List Edge) → AreRowEdges n goal targets nodes inputs rows edges → AreEdges nodes edges
rows_within n goal targets nodes inputs [] [] tell = All-nil (IsEdge nodes)
rows_within n goal targets nodes inputs [] (e ∷ edges) tell = absurd tell
rows_within n goal targets nodes inputs (row ∷ rows) [] tell = absurd tell
rows_within n goal targets nodes inputs (row ∷ rows) (e ∷ edges) tell = All-cons (IsEdge nodes) e edges tell.0.within (rows_within n goal targets nodes inputs rows edges tell.1)

-- the first rows have edges, whatever the goal is, and what was listed stays true
pub record RowsAreFound (n : Circuit) (old : SweptBoard) (known : List KnownRow) (new : SweptBoard) (more : List KnownRow) (rows : List (List Bool)) (k : ℕ) (edges : List Edge) : Type 0 where
  pub continues : Continues old new
  pub stay : StayKnown n old.board known new.board more
  pub found : (goal : Goal) (targets : List (List ℕ)) → AreKnown n goal targets old.board known → AreRowEdges n goal targets new.board.graph new.board.inputs.items (take k rows) edges

pub found_none : (n : Circuit) (swept : SweptBoard) (known : List KnownRow) (rows : List (List Bool)) → AreMerged swept → RowsAreFound n swept known swept known rows 0 []
found_none n swept known rows merged = record {
  continues = continues_same swept merged;
  stay = λ goal targets are. are;
  found = λ goal targets are. tt;
}

-- one row more
pub found_more : (n : Circuit) (old : SweptBoard) (known : List KnownRow) (mid : SweptBoard) (some : List KnownRow) (new : SweptBoard) (more : List KnownRow) (rows : List (List Bool)) (k : ℕ) (edges longer : List Edge) (row : List Bool) (e : Edge) →
    RowsAreFound n old known mid some rows k edges → slice_get rows k ≡ Some row → Continues mid new → StayKnown n mid.board some new.board more →
    ((goal : Goal) (targets : List (List ℕ)) → AreKnown n goal targets mid.board some → IsRowEdge n goal targets new.board.graph new.board.inputs.items row e) → longer ≡ edges ++ e ∷ [] →
    RowsAreFound n old known new more rows (k + 1) longer
found_more n old known mid some new more rows k edges longer row e so_far at continues stay tells added = record {
  continues = continues_both old mid new so_far.continues continues;
  stay = λ goal targets are. stay goal targets (so_far.stay goal targets are);
  found = λ goal targets are.
      let R : List Bool → Edge → Type 0 = IsRowEdge n goal targets new.board.graph new.board.inputs.items in
      let next : suc k ≡ k + 1 = omega arith in
      let before = rows_stay n goal targets mid new (take k rows) edges continues (so_far.found goal targets are) in
      let both = zip_append R (take k rows) edges (row ∷ []) (e ∷ []) before (tells goal targets (so_far.stay goal targets are), tt) in
      subst (λ list. AreRowEdges n goal targets new.board.graph new.board.inputs.items (take (k + 1) rows) list) (sym added)
      (subst (λ front. AreRowEdges n goal targets new.board.graph new.board.inputs.items front (edges ++ e ∷ [])) (sym (take_at_more rows k row at) ∙ ap (λ m. take m rows) next) both);
}

-- a larger graph grew from the inputs as well
pub swept_stays : (f : Circuit) (goal : Goal) (old new : SweptBoard) → Continues old new → IsSweptBoardOf f goal old → IsSweptBoardOf f goal new
swept_stays f goal old new continues is = record {
  laid_out = laid_out_stays f old.board new.board continues.most continues.keeps continues.grows is.laid_out;
  asks = asks_stay f goal old.board new.board continues.most continues.keeps continues.grows is.asks;
  inputs = record {
    origin = is.inputs.origin;
    are_inputs = subst (λ (inputs : Vec Edge). AreInputs is.inputs.origin inputs.items) (sym continues.keeps.inputs) is.inputs.are_inputs;
    most = is.inputs.most + continues.most;
    grows = grows_join is.inputs.origin old.board.graph new.board.graph is.inputs.most continues.most is.inputs.grows continues.grows;
  };
  merged = continues.merged;
}

-- so it has the inputs alone
pub grown_inputs : (graph : List Node) (inputs : List Edge) → IsGraph graph → GrewFromInputs graph inputs → AreInputs graph inputs
grown_inputs graph inputs is grew = inputs_stay grew.origin graph grew.most inputs is grew.grows grew.are_inputs
