-- What holds of the patch from a graph: its parts are those of a patch, and what its contract promises follows.
use Rattle.std.proofs.Common.{◌≡◌, ℕ, ◌+◌, ◌-◌, ◌^◌, ◌<◌, ◌≤◌, take, drop, inl, inr, Bool, true, false, List, ◌++◌, Some, length, get_or, map, refl, sym, ◌∙◌, ap, subst, arith}
use Rattle.std.specs.List.{All, Contains, IsDistinct, zip}
use Rattle.std.specs.Option.{is_some}
use Rattle.std.specs.Prelude.{codes}
use Rattle.std.specs.Fmt.{decimal}
use Rattle.std.specs.Str.{bytes_eq}
use Rattle.std.specs.Cmp.{both_ways}
use Rattle.std.proofs.lemmas.Bool.{false≢true}
use Rattle.std.proofs.lemmas.Option.{slice_get-get_or}
use Rattle.std.proofs.lemmas.List.{length-map, length-append, map-append, take_rest, take-append-drop, drop_at}
use Rattle.std.proofs.lemmas.List.Elements.{All-contains, Contains-append_left, Contains-append_right, Contains-append_cases}
use Rattle.std.proofs.lemmas.Slice.Zip.{firsts-zip}
use Rattle.std.proofs.lemmas.List.FromFn.{length-range_with_len}
use Rattle.eco_lists.proofs.Tests.{both}
use Rattle.eco_lists.proofs.Places.{Contains_at, All_from_places, same_by_places}
use Rattle.eco_meaning.specs.Circuit.{Circuit, NamedGate, names, IsSignal, IsTarget, AreTargets}
use Rattle.eco_gates.specs.declared.gate.NetId.{NetId}
use Rattle.eco_netlist.specs.Netlists.{IsChecked, name_at, names_at}
use Rattle.eco_netlist.proofs.BehindLemmas.{targets_distinct}
use Rattle.eco_netlist.proofs.MisfitLemmas.{targets_unique}
use Rattle.eco_netlist.proofs.NameSets.{IsDistinct-append, distinct_front}
use Rattle.eco_aig.specs.declared.edge.Edge.{Edge}
use Rattle.eco_aig.specs.declared.node.Node.{Node}
use Rattle.eco_aig.specs.Edges.{plain}
use Rattle.eco_aig.specs.Graph.{IsGraph, pair_at, inputs_of}
use Rattle.eco_text.specs.Prefix.{numbered}
use Rattle.eco_text.proofs.NumberedNames.{fresh_numbered}
use Rattle.eco_aig.specs.Reached.{itself, AreReached}
use Rattle.eco_splice.specs.Wired.{wired}
use Rattle.eco_splice.specs.GraphPatch.{netted, wires_from, nets_of, sources, edge_gate, root_gate, IsGraphPatch, HasTargets, AreRooted, FitsFirst, HasRootValues, ReadsReached}
use Rattle.eco_splice.specs.Marking.{HasGate, HasNode}
use Rattle.eco_splice.proofs.PatchShape.{IsChecked-patch}
use Rattle.eco_splice.proofs.WiredLemmas.{wired_cases}
use Rattle.eco_splice.proofs.OrderedEdges.{netted_laid_out, reached_netted}
use Rattle.eco_splice.proofs.GraphShape.{AreGraphParts, length-wires, gates_of, source_netted, graph_shape}
use Rattle.eco_splice.proofs.GraphValues.{root_values}
use Rattle.eco_splice.proofs.GraphFits.{FitsFirst-graph, reads_reached}

-- how many edges have nets, and how many nets there are
pub length-netted : (nodes : List Node) (edges : List Edge) → length (netted nodes edges) ≡ length (inputs_of nodes) + length edges
length-netted nodes edges =
    let all = length-append (map plain (inputs_of nodes)) edges in
    let inputs = length-map (inputs_of nodes) plain in
    omega (arith, all, inputs)

pub length-nets : (prefix : List ℕ) (base : List (List ℕ)) (wires : ℕ) → length (nets_of prefix base wires) ≡ length base + wires
length-nets prefix base wires =
    let all = length-append base (wires_from prefix 1 wires) in
    let names = length-wires prefix 1 wires in
    omega (arith, all, names)

-- the edges behind those to the inputs are those that have a wire
pub wired_part : (nodes : List Node) (edges list : List Edge) (b : ℕ) → list ≡ netted nodes edges → length (inputs_of nodes) ≡ b → take (length list - b) (drop b list) ≡ edges
wired_part nodes edges list b same count =
    take_rest list b ∙ ap (drop b) same ∙ drop_at (map plain (inputs_of nodes)) edges b (length-map (inputs_of nodes) plain ∙ count)

-- an edge that has a wire and is no complement goes to an and-node
pub wired_pair : (nodes : List Node) (marks : List Bool) (e : Edge) → Contains (wired nodes marks) e → e.complemented ≡ false → is_some (pair_at nodes e.node) ≡ true
wired_pair nodes marks e c sign =
    let found = wired_cases nodes marks (length nodes) e c in
    elim found.3 [
      | inl node ↦
          let parts = both (get_or marks found.0 false) (is_some (pair_at nodes found.0)) found.2 in
          subst (λ (k : ℕ). is_some (pair_at nodes k) ≡ true) (ap (λ (x : Edge). x.node) node) parts.1
      | inr operand ↦ absurd (false≢true (sym sign ∙ operand.0))
    ]

-- each edge that has a wire has a gate, and each root a node
pub have_gates : (nodes : List Node) (roots : List Edge) (marks : List Bool) → IsGraph nodes → AreReached nodes roots marks → All (HasGate nodes (netted nodes (wired nodes marks))) (wired nodes marks)
have_gates nodes roots marks graph are =
    let edges = wired nodes marks in
    let all = netted nodes edges in
    let out = netted_laid_out nodes roots marks graph are in
    All_from_places (HasGate nodes all) edges (λ k e at.
    let c = Contains_at edges k e at in
    record {
      listed = Contains-append_right (map plain (inputs_of nodes)) edges e c;
      sources = All_from_places (Contains all) (sources nodes e) (λ i x at_i. source_netted nodes edges e x out c (Contains_at (sources nodes e) i x at_i));
      pair = wired_pair nodes marks e c;
    })

pub root_node : (nodes : List Node) (roots : List Edge) (marks : List Bool) → IsGraph nodes → AreReached nodes roots marks → (e : Edge) → Contains roots e → HasNode (netted nodes (wired nodes marks)) e
root_node nodes roots marks graph are e c some = reached_netted nodes roots marks e.node graph are (e, c, itself) some

pub have_nodes : (nodes : List Node) (roots : List Edge) (marks : List Bool) → IsGraph nodes → AreReached nodes roots marks → All (HasNode (netted nodes (wired nodes marks))) roots
have_nodes nodes roots marks graph are =
    All_from_places (HasNode (netted nodes (wired nodes marks))) roots (λ k e at. root_node nodes roots marks graph are e (Contains_at roots k e at))

-- there are so many targets
pub enough_targets : (f : Circuit) (count : ℕ) (targets : List (List ℕ)) → HasTargets f count → AreTargets f targets → count ≤ length targets
enough_targets f count targets (others, are, enough) own = subst (λ (l : List (List ℕ)). count ≤ length l) (targets_unique f others targets are own) enough

-- the first targets, and those behind them
pub targets_split : (f : Circuit) (list : List (List ℕ)) (nets : List NetId) (n : ℕ) → AreTargets f (names_at list nets) → AreTargets f (names_at list (take n nets) ++ names_at list (drop n nets))
targets_split f list nets n are =
    let name : NetId → List ℕ = λ net. name_at list net.0 in
    subst (λ (l : List (List ℕ)). AreTargets f l) (sym (sym (map-append name (take n nets) (drop n nets)) ∙ ap (map name) (take-append-drop n nets))) are

-- what is known of a graph, of base signals and of a patch
pub record ArePatched (f : Circuit) (nodes : List Node) (roots : List Edge) (base : List (List ℕ)) (p : Circuit) : Type 0 where
  pub graph : IsGraph nodes
  pub nets : All (Contains (names f)) base
  pub distinct : IsDistinct bytes_eq base
  pub signals : All (IsSignal f) base
  pub inputs : length (inputs_of nodes) ≡ length base
  pub is : IsGraphPatch f nodes roots base p
  pub room : length p.wires + 1 < 2 ^ 64

pub parts : (f : Circuit) (nodes : List Node) (roots : List Edge) (base : List (List ℕ)) (p : Circuit) → (are : ArePatched f nodes roots base p) → AreGraphParts are.is.prefix nodes (wired nodes are.is.marks) are.is.targets base roots
parts f nodes roots base p are =
    let is = are.is in
    let edges = wired nodes is.marks in
    let whole = targets_distinct f (is.targets ++ is.later) is.first in
    let free : (name : List ℕ) → Contains is.targets name → IsTarget f name = λ name c. All-contains (IsTarget f) (is.targets ++ is.later) name is.first.sound (Contains-append_left is.targets is.later name c) in
    let wires : length p.wires ≡ length edges = ap (λ (n : Circuit). length n.wires) is.made ∙ simp (length-map, length-range_with_len) refl in
    let room = are.room in
    record {
      graph = are.graph;
      out = netted_laid_out nodes roots is.marks are.graph is.reached;
      gates = wired_pair nodes is.marks;
      inputs = are.inputs;
      count = is.count;
      distinct = IsDistinct-append is.targets base (distinct_front is.targets is.later whole) are.distinct (λ name target signal. (free name target).free (All-contains (IsSignal f) base name are.signals signal));
      own = λ number c. elim (Contains-append_cases is.targets base (numbered is.prefix number) c) [
        | inl target ↦ fresh_numbered (codes "eco") (names f) is.prefix is.fresh (decimal number) (free (numbered is.prefix number) target).net
        | inr signal ↦ fresh_numbered (codes "eco") (names f) is.prefix is.fresh (decimal number) (All-contains (Contains (names f)) base (numbered is.prefix number) are.nets signal)
      ];
      room = omega (arith, wires, room);
      rooted = root_node nodes roots is.marks are.graph is.reached;
    }

-- the patch is checked, fits, and has its values, reads and number of gates
pub patch_checked : (f : Circuit) (nodes : List Node) (roots : List Edge) (base : List (List ℕ)) (p : Circuit) → ArePatched f nodes roots base p → IsChecked p
patch_checked f nodes roots base p are =
    let is = are.is in
    let edges = wired nodes is.marks in
    rw is.made (IsChecked-patch (codes "patch") is.targets base (wires_from is.prefix 1 (length edges)) (gates_of is.prefix nodes edges is.targets base roots)
    (graph_shape is.prefix nodes edges is.targets base roots (parts f nodes roots base p are)))

pub patch_fits : (f : Circuit) (nodes : List Node) (roots : List Edge) (base : List (List ℕ)) (p : Circuit) → ArePatched f nodes roots base p → AreRooted f nodes roots base → FitsFirst f (length roots) p
patch_fits f nodes roots base p are rooted =
    let is = are.is in
    rw is.made (FitsFirst-graph f is.prefix nodes (wired nodes is.marks) is.targets is.later base roots is.fresh are.signals (parts f nodes roots base p are) is.first rooted)

pub patch_values : (f : Circuit) (nodes : List Node) (roots : List Edge) (base : List (List ℕ)) (p : Circuit) → ArePatched f nodes roots base p → HasRootValues nodes roots p
patch_values f nodes roots base p are =
    let is = are.is in
    let edges = wired nodes is.marks in
    subst (λ (n : Circuit). HasRootValues nodes roots n) (sym is.made)
    (λ u w valuation consistent inputs.
    root_values is.prefix nodes edges is.targets base roots u w (record { parts = parts f nodes roots base p are; valuation = valuation; consistent = consistent; inputs = inputs }))

pub patch_reads : (f : Circuit) (nodes : List Node) (roots : List Edge) (base : List (List ℕ)) (p : Circuit) → ArePatched f nodes roots base p → ReadsReached nodes roots base p
patch_reads f nodes roots base p are =
    let is = are.is in
    subst (λ (n : Circuit). ReadsReached nodes roots base n) (sym is.made)
    (reads_reached is.prefix nodes is.marks is.targets base roots (parts f nodes roots base p are) is.reached)

-- the marks are determined
marks_unique : (nodes : List Node) (roots : List Edge) (a b : List Bool) → AreReached nodes roots a → AreReached nodes roots b → a ≡ b
marks_unique nodes roots a b are_a are_b =
    let len_a = are_a.len in
    let len_b = are_b.len in
    same_by_places a b (omega arith) (λ k lt.
    let same : get_or a k false ≡ get_or b k false = both_ways (get_or a k false) (get_or b k false) (λ is. are_b.complete k (are_a.sound k is)) (λ is. are_a.complete k (are_b.sound k is)) in
    slice_get-get_or a k false lt ∙ ap Some same ∙ sym (slice_get-get_or b k false (omega arith)))

pub patch_count : (f : Circuit) (nodes : List Node) (roots : List Edge) (base : List (List ℕ)) (p : Circuit) → IsGraphPatch f nodes roots base p → (marks : List Bool) → AreReached nodes roots marks → length p.gates ≡ length (wired nodes marks) + length roots
patch_count f nodes roots base p is marks are =
    let edges = wired nodes is.marks in
    let all = netted nodes edges in
    let nets = nets_of is.prefix base (length edges) in
    let root_of : List ℕ × Edge → NamedGate = λ p. root_gate all nets p.0 p.1 in
    let pairs = zip is.targets roots in
    let side : List ℕ × Edge → List ℕ = λ p. p.0 in
    let firsts : length pairs ≡ length is.targets = sym (length-map pairs side) ∙ ap length (firsts-zip is.targets roots (sym is.count)) in
    let joined = length-append (map (edge_gate nodes all nets) edges) (map root_of pairs) in
    let left = length-map edges (edge_gate nodes all nets) in
    let right = length-map pairs root_of in
    let count = is.count in
    let same : length (wired nodes is.marks) ≡ length (wired nodes marks) = ap (λ m. length (wired nodes m)) (marks_unique nodes roots is.marks marks is.reached are) in
    let made : length p.gates ≡ length (map (edge_gate nodes all nets) edges ++ map root_of pairs) = ap (λ (n : Circuit). length n.gates) is.made in
    omega (arith, firsts, joined, left, right, count, same, made)
