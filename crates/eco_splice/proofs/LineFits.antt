-- The patch of lines fits its implementation, and reads what its roots reach.
use Rattle.std.proofs.Common.{◌≡◌, ◌≢◌, ℕ, ◌+◌, false, eqb, cond, List, [], ◌∷◌, ◌++◌, Some, length, take, drop, map, refl, sym, ◌∙◌, ap, subst, arith, append_assoc}
use Rattle.std.specs.List.{All, Contains, slice_get}
use Rattle.std.specs.Option.{option_map}
use Rattle.std.specs.Prelude.{codes}
use Rattle.std.specs.Fmt.{decimal}
use Rattle.std.proofs.lemmas.Bool.{ne_eqb}
use Rattle.std.proofs.lemmas.Option.{same_Some, slice_get_within, slice_get-map, slice_get-get_or}
use Rattle.std.proofs.lemmas.List.{take_at, drop_at, length-map}
use Rattle.std.proofs.lemmas.List.Elements.{All-contains}
use Rattle.eco_lists.proofs.Members.{Contains-map}
use Rattle.eco_lists.proofs.Places.{place_of, item_at, Contains_at, slice_get-append_left, slice_get-back, slice_get-front}
use Rattle.eco_meaning.specs.declared.name.Operand.{Operand}
use Rattle.eco_meaning.specs.declared.name.Operand.TheVariants.{Zero, Named}
use Rattle.eco_meaning.specs.Circuit.{Circuit, names, Fan, itself, next, IsSignal, AreTargets}
use Rattle.eco_meaning.specs.Patch.{Fits, IsBehindOnly, ReadsBehindEarlier}
use Rattle.eco_aig.specs.declared.edge.Edge.{Edge}
use Rattle.eco_aig.specs.declared.node.Node.{Node}
use Rattle.eco_aig.specs.declared.node.Node.TheVariants as node_variants
use Rattle.eco_aig.specs.Edges.{plain}
use Rattle.eco_aig.specs.Graph.{IsGraph, inputs_of}
use Rattle.eco_aig.proofs.Inputs.{listed_input}
use Rattle.eco_aig.proofs.Reaching.{reaches_on}
use Rattle.eco_netlist.specs.Netlists.{name_at}
use Rattle.eco_netlist.proofs.MisfitLemmas.{targets_unique}
use Rattle.eco_netlist.proofs.NameLemmas.{one_place}
use Rattle.eco_text.specs.Prefix.{IsFreshPrefix}
use Rattle.eco_text.proofs.NumberedNames.{fresh_numbered}
use Rattle.eco_aig.specs.Reached.{Reaches}
use Rattle.eco_aig.specs.Reached as reached
use Rattle.eco_splice.specs.GraphPatch.{net_of, AreRooted, FitsFirst, ReadsReached}
use Rattle.eco_splice.proofs.Ranges.{wires_member}
use Rattle.eco_splice.proofs.OrderedEdges.{netted_inputs, laid_out}
use Rattle.eco_splice.proofs.GraphFits.{IsInputAt}
use Rattle.eco_splice.specs.declared.line.Line.{Line}
use Rattle.eco_splice.specs.LineGates.{edges_in, first_place, wire_count, nets_in, line_term, line_gate, line_circuit}
use Rattle.eco_splice.proofs.FirstPlaces.{place_found, place_least}
use Rattle.eco_splice.proofs.LineNets.{length-outs}
use Rattle.eco_splice.proofs.LineShape.{AreLineParts, outs_of, edge_at, net_behind, nets_distinct, line_stands, read_at, driver_of, closed_lines, loop_free_lines}

pub input_edge : (nodes : List Node) (lines : List Line) (place node : ℕ) → slice_get (inputs_of nodes) place ≡ Some node → slice_get (edges_in nodes lines) place ≡ Some (plain node)
input_edge nodes lines place node at =
    slice_get-append_left (map plain (inputs_of nodes)) (map (λ (line : Line). line.edge) lines) place (plain node) (slice_get-map plain (inputs_of nodes) place ∙ ap (option_map plain) at)

-- where a net lies in the fan-out of a base signal, its edge's node reaches the signal's input
fan_reaches : (prefix : List ℕ) (nodes : List Node) (lines : List Line) (targets base : List (List ℕ)) (roots : List Edge) → AreLineParts prefix nodes lines targets base roots → (place node : ℕ) (signal name : List ℕ) → IsInputAt nodes base place node signal → Fan (line_circuit prefix (edges_in nodes lines) lines targets base) signal name → (p : ℕ) (e : Edge) → slice_get (nets_in prefix targets base lines) p ≡ Some name → slice_get (edges_in nodes lines) p ≡ Some e → Reaches nodes e.node node
fan_reaches prefix nodes lines targets base roots are place node signal name is itself p e net edge =
    let own = slice_get-append_left base (outs_of prefix targets lines) place signal is.signal_at in
    let same = one_place (nets_in prefix targets base lines) place p signal (nets_distinct prefix nodes lines targets base roots are) own net in
    let one : plain node ≡ e = same_Some (plain node) e (sym (input_edge nodes lines place node is.node_at) ∙ ap (slice_get (edges_in nodes lines)) same ∙ edge) in
    subst (λ (x : Edge). Reaches nodes x.node node) one reached.itself
fan_reaches prefix nodes lines targets base roots are place node signal name is (next g c read reads fan) p e net edge =
    let b = length (inputs_of nodes) in
    let at = read_at prefix nodes lines targets base roots are g read c reads in
    let own = net_behind prefix targets base lines b at.gate.place g.out are.inputs at.gate.out in
    let same = one_place (nets_in prefix targets base lines) (b + at.gate.place) p g.out (nets_distinct prefix nodes lines targets base roots are) own net in
    let one : at.gate.line.edge ≡ e = same_Some at.gate.line.edge e (sym (edge_at nodes lines at.gate.place at.gate.line at.gate.at) ∙ ap (slice_get (edges_in nodes lines)) same ∙ edge) in
    let rest = fan_reaches prefix nodes lines targets base roots are place node signal read is fan at.net.place at.operand at.net.net at.net.edge in
    let step = All-contains (λ (x : Edge). Reaches nodes at.gate.line.edge.node x.node) at.gate.line.operands.items at.operand (are.lines_fit at.gate.place at.gate.line at.gate.at).reach at.listed in
    subst (λ (x : Edge). Reaches nodes x.node node) one (reaches_on nodes at.gate.line.edge.node at.operand.node node step rest)

-- the function of a target reads what lies behind earlier targets alone
behind_earlier : (f : Circuit) (prefix : List ℕ) (nodes : List Node) (lines : List Line) (targets later base : List (List ℕ)) (roots : List Edge) → AreLineParts prefix nodes lines targets base roots → AreTargets f (targets ++ later) → AreRooted f nodes roots base → ReadsBehindEarlier f (line_circuit prefix (edges_in nodes lines) lines targets base)
behind_earlier f prefix nodes lines targets later base roots are first rooted before target behind outs signal read fan =
    let b = length (inputs_of nodes) in
    let at = place_of base signal read in
    let within = slice_get_within base at.0 signal at.1 in
    let inputs = are.inputs in
    let node = item_at (inputs_of nodes) at.0 (omega (arith, within, inputs)) in
    let is : IsInputAt nodes base at.0 node.0 signal = record { node_at = node.1; signal_at = at.1 } in
    let place : slice_get targets (length before) ≡ Some target = ap (λ l. slice_get l (length before)) outs ∙ slice_get-back before (target ∷ behind) (length before) 0 (omega arith) in
    let driver = driver_of prefix nodes lines targets base roots are (length before) target place in
    let net = net_behind prefix targets base lines b driver.place target are.inputs driver.out in
    let found = fan_reaches prefix nodes lines targets base roots are at.0 node.0 signal target is fan (b + driver.place) driver.line.edge net (edge_at nodes lines driver.place driver.line driver.at) in
    let front : take (length before) (targets ++ later) ≡ before =
    ap (λ l. take (length before) (l ++ later)) outs
    ∙ ap (take (length before)) (append_assoc before (target ∷ behind) later)
    ∙ take_at before ((target ∷ behind) ++ later) (length before) refl in
    subst (λ l. IsBehindOnly f l signal) front
    (rooted (targets ++ later) first (length before) driver.line.edge at.0 node.0 signal driver.root node.1 at.1 found)

-- the patch fits
pub fits_lines : (f : Circuit) (prefix : List ℕ) (nodes : List Node) (lines : List Line) (targets later base : List (List ℕ)) (roots : List Edge) → IsFreshPrefix (codes "eco") (names f) prefix → All (IsSignal f) base → AreLineParts prefix nodes lines targets base roots → AreTargets f (targets ++ later) → AreRooted f nodes roots base → Fits f (line_circuit prefix (edges_in nodes lines) lines targets base) later
fits_lines f prefix nodes lines targets later base roots fresh signals are first rooted = record {
  loop_free = loop_free_lines prefix nodes lines targets base roots are;
  closed = closed_lines prefix nodes lines targets base roots are;
  drives = first;
  reads = signals;
  apart = behind_earlier f prefix nodes lines targets later base roots are first rooted;
  fresh = λ wire c net.
      let w = wires_member prefix 1 (wire_count lines) wire c in
      fresh_numbered (codes "eco") (names f) prefix fresh (decimal w.0) (subst (λ (x : List ℕ). Contains (names f) x) (sym w.3) net);
}

pub fits_first : (f : Circuit) (prefix : List ℕ) (nodes : List Node) (lines : List Line) (targets later base : List (List ℕ)) (roots : List Edge) → IsFreshPrefix (codes "eco") (names f) prefix → All (IsSignal f) base → AreLineParts prefix nodes lines targets base roots → AreTargets f (targets ++ later) → AreRooted f nodes roots base → FitsFirst f (length roots) (line_circuit prefix (edges_in nodes lines) lines targets base)
fits_first f prefix nodes lines targets later base roots fresh signals are first rooted all others =
    let same : targets ++ later ≡ all = targets_unique f (targets ++ later) all first others in
    let front : take (length roots) all ≡ targets = ap (take (length roots)) (sym same) ∙ take_at targets later (length roots) are.count in
    let back : drop (length roots) all ≡ later = ap (drop (length roots)) (sym same) ∙ drop_at targets later (length roots) are.count in
    (sym front, rw back (fits_lines f prefix nodes lines targets later base roots fresh signals are first rooted))

-- an input isn't the constant
input_above : (nodes : List Node) (node : ℕ) → IsGraph nodes → Contains (inputs_of nodes) node → node ≢ 0
input_above nodes node graph c none =
    let at = subst (λ (k : ℕ). slice_get nodes k ≡ Some (node_variants.Input node)) none (listed_input nodes node graph c) in
    let both = same_Some node_variants.Zero (node_variants.Input node) (sym graph.constant ∙ at) in
    cc

-- the first place of an input's edge is the input's own
input_first : (nodes : List Node) (lines : List Line) (place node : ℕ) → IsGraph nodes → slice_get (inputs_of nodes) place ≡ Some node → first_place (edges_in nodes lines) (plain node) ≡ place
input_first nodes lines place node graph at =
    let edges = edges_in nodes lines in
    let front = map plain (inputs_of nodes) in
    let first = first_place edges (plain node) in
    let own = input_edge nodes lines place node at in
    let low = place_least edges place (plain node) own in
    let within = slice_get_within edges place (plain node) own in
    let input = slice_get_within (inputs_of nodes) place node at in
    let count = length-map (inputs_of nodes) plain in
    let found = place_found edges (plain node) (omega (arith, low, within)) in
    let here : slice_get front first ≡ Some (plain node) = sym (slice_get-front front (map (λ (line : Line). line.edge) lines) first (omega (arith, low, input, count))) ∙ found in
    (laid_out nodes front (netted_inputs nodes graph)).once first place (plain node) here (slice_get-map plain (inputs_of nodes) place ∙ ap (option_map plain) at)

-- some gate reads the base signal of each input that a root reaches
pub reads_lines : (prefix : List ℕ) (nodes : List Node) (lines : List Line) (targets base : List (List ℕ)) (roots : List Edge) → AreLineParts prefix nodes lines targets base roots → ReadsReached nodes roots base (line_circuit prefix (edges_in nodes lines) lines targets base)
reads_lines prefix nodes lines targets base roots are place node name at_node at_name reaches =
    let edges = edges_in nodes lines in
    let nets = nets_in prefix targets base lines in
    let outs = outs_of prefix targets lines in
    let input = Contains_at (inputs_of nodes) place node at_node in
    let found = are.ready.inputs node input reaches in
    let line = found.0 in
    let at = place_of lines line found.1 in
    let within = slice_get_within lines at.0 line at.1 in
    let count = length-outs prefix targets 1 lines in
    let out = item_at outs at.0 (omega (arith, within, count)) in
    let own = slice_get-append_left base outs place name at_name in
    let own_within = slice_get_within nets place name own in
    let net : net_of edges nets (plain node) ≡ name =
    ap (name_at nets) (input_first nodes lines place node are.graph at_node)
    ∙ same_Some (name_at nets place) name (sym (slice_get-get_or nets place [] own_within) ∙ own) in
    let some : eqb node 0 ≡ false = ne_eqb node 0 (input_above nodes node are.graph input) in
    let term : line_term edges nets (plain node) ≡ Named name = ap (λ b. cond b Zero (Named (net_of edges nets (plain node)))) some ∙ ap Named net in (
      line_gate edges nets line out.0,
      line_stands prefix nodes lines targets base at.0 line out.0 at.1 out.1,
      subst (λ (t : Operand). Contains (map (line_term edges nets) line.operands.items) t) term
          (Contains-map (line_term edges nets) line.operands.items (plain node) found.2),
    )
