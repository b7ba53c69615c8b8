-- The patch from a graph fits its implementation, and reads what its roots reach.
use Rattle.std.proofs.Common.{◌≡◌, ℕ, zero, suc, ◌<◌, inl, inr, Bool, true, false, eqb, cond, List, [], ◌∷◌, ◌++◌, Some, length, take, drop, map, refl, sym, ◌∙◌, ap, subst, arith, append_assoc}
use Rattle.std.specs.List.{All, Contains, slice_get, zip}
use Rattle.std.specs.Option.{is_some, option_map}
use Rattle.std.specs.Prelude.{codes}
use Rattle.std.specs.Fmt.{decimal}
use Rattle.std.proofs.lemmas.Bool.{and_from, ne_eqb}
use Rattle.std.proofs.lemmas.Option.{same_Some, slice_get_within, slice_get-map}
use Rattle.std.proofs.lemmas.List.{take_at, drop_at}
use Rattle.std.proofs.lemmas.List.Elements.{Contains-append_left, Contains-append_right}
use Rattle.eco_lists.proofs.Members.{Contains-map, Contains_first, only_one}
use Rattle.eco_lists.proofs.Places.{place_of, item_at, Contains_at, slice_get-append_left, slice_get-back}
use Rattle.eco_meaning.specs.declared.name.Operand.{Operand}
use Rattle.eco_meaning.specs.declared.name.Operand.TheVariants.{Zero, One, Named}
use Rattle.eco_meaning.specs.Circuit.{Circuit, NamedGate, names, Fan, itself, next, Reads, IsSignal, AreTargets}
use Rattle.eco_meaning.specs.Patch.{Fits, IsBehindOnly, ReadsBehindEarlier}
use Rattle.eco_aig.specs.declared.edge.Edge.{Edge}
use Rattle.eco_aig.specs.declared.node.Node.{Node}
use Rattle.eco_aig.specs.declared.node.Node.TheVariants as node_variants
use Rattle.eco_aig.specs.Edges.{plain}
use Rattle.eco_aig.specs.Graph.{IsGraph, pair_at, inputs_of}
use Rattle.eco_aig.proofs.Inputs.{listed_input}
use Rattle.eco_netlist.proofs.MisfitLemmas.{targets_unique}
use Rattle.eco_netlist.proofs.NameLemmas.{one_place}
use Rattle.eco_netlist.proofs.NameSets.{distinct_front}
use Rattle.eco_text.specs.Prefix.{IsFreshPrefix}
use Rattle.eco_text.proofs.NumberedNames.{fresh_numbered}
use Rattle.eco_aig.specs.Reached.{operands_at, Reaches, AreReached}
use Rattle.eco_aig.specs.Reached as reached
use Rattle.eco_splice.specs.Wired.{is_gate, wired}
use Rattle.eco_splice.specs.GraphPatch.{netted, wires_from, nets_of, net_of, sources, edge_gate, root_term, root_gate, graph_circuit, AreRooted, FitsFirst, ReadsReached}
use Rattle.eco_splice.proofs.Ranges.{wires_member}
use Rattle.eco_splice.proofs.PatchShape.{closed_patch}
use Rattle.eco_aig.proofs.MarkLemmas.{mark_within}
use Rattle.eco_aig.proofs.Reaching.{operand_cases, reaches_on}
use Rattle.eco_splice.proofs.WiredLemmas.{edge_is, node_wired, complement_wired}
use Rattle.eco_splice.proofs.GraphNets.{net_is, net_member, net_apart}
use Rattle.eco_splice.proofs.GraphShape.{AreGraphParts, nets_count, nets_distinct, target_no_net, gates_of, IsEdgeGate, gate_cases, edge_reads, root_reads, source_netted, graph_shape}
use Rattle.eco_splice.proofs.GraphValues.{zip_at}

-- an edge's node reaches those that the edge's gate reads
reaches_source : (nodes : List Node) (e x : Edge) → Contains (sources nodes e) x → Reaches nodes e.node x.node
reaches_source nodes e x c =
    elim e.complemented as (λ b. Contains (cond b (plain e.node ∷ []) (operands_at nodes e.node)) x → Reaches nodes e.node x.node) [
      | true ↦ λ own. subst (λ (y : Edge). Reaches nodes e.node y.node) (only_one (plain e.node) x own) reached.itself
      | false ↦ λ operand. reached.next e.node x reached.itself operand
    ] c

-- the input that a base signal stands for
pub record IsInputAt (nodes : List Node) (base : List (List ℕ)) (place node : ℕ) (signal : List ℕ) : Type 0 where
  pub node_at : slice_get (inputs_of nodes) place ≡ Some node
  pub signal_at : slice_get base place ≡ Some signal

input_edge : (nodes : List Node) (edges : List Edge) (base : List (List ℕ)) (place node : ℕ) (signal : List ℕ) → IsInputAt nodes base place node signal → slice_get (netted nodes edges) place ≡ Some (plain node)
input_edge nodes edges base place node signal is =
    slice_get-append_left (map plain (inputs_of nodes)) edges place (plain node) (slice_get-map plain (inputs_of nodes) place ∙ ap (option_map plain) is.node_at)

-- its net is the signal
input_net : (prefix : List ℕ) (nodes : List Node) (edges : List Edge) (targets base : List (List ℕ)) (roots : List Edge) → AreGraphParts prefix nodes edges targets base roots → (place node : ℕ) (signal : List ℕ) → IsInputAt nodes base place node signal → net_of (netted nodes edges) (nets_of prefix base (length edges)) (plain node) ≡ signal
input_net prefix nodes edges targets base roots are place node signal is =
    let all = netted nodes edges in
    let nets = nets_of prefix base (length edges) in
    let net = net_is all nets place (plain node) are.out.once (nets_count prefix nodes edges targets base roots are) (input_edge nodes edges base place node signal is) in
    same_Some (net_of all nets (plain node)) signal (sym net ∙ slice_get-append_left base (wires_from prefix 1 (length edges)) place signal is.signal_at)

-- a gate whose output is a net is that of the edge that has the net
edge_driven : (prefix : List ℕ) (nodes : List Node) (edges : List Edge) (targets base : List (List ℕ)) (roots : List Edge) → AreGraphParts prefix nodes edges targets base roots → (g : NamedGate) (e : Edge) → Contains (gates_of prefix nodes edges targets base roots) g → Contains (netted nodes edges) e → net_of (netted nodes edges) (nets_of prefix base (length edges)) e ≡ g.out → (is : IsEdgeGate prefix nodes edges base g) × (is.edge ≡ e)
edge_driven prefix nodes edges targets base roots are g e c has same =
    let all = netted nodes edges in
    let nets = nets_of prefix base (length edges) in
    let count = nets_count prefix nodes edges targets base roots are in
    elim (gate_cases prefix nodes edges targets base roots g c) [
      | inl is ↦
          let own = Contains-append_right (map plain (inputs_of nodes)) edges is.edge is.wired in (
            is,
            net_apart all nets is.edge e are.out.once count (nets_distinct prefix nodes edges targets base roots are) own has
                (ap (λ (h : NamedGate). h.out) is.gate ∙ sym same),
          )
      | inr is ↦
          let net = subst (λ (n : List ℕ). Contains nets n) same (net_member all nets e are.out.once count has) in
          let target : is.target ≡ g.out = ap (λ (h : NamedGate). h.out) is.gate in
          absurd (target_no_net prefix nodes edges targets base roots are g.out (subst (λ (n : List ℕ). Contains targets n) target (Contains_at targets is.place is.target is.at_target)) net)
    ]

-- where a net lies in the fan-out of a base signal, its edge's node reaches the signal's input
fan_reaches : (prefix : List ℕ) (nodes : List Node) (edges : List Edge) (targets base : List (List ℕ)) (roots : List Edge) → AreGraphParts prefix nodes edges targets base roots → (place node : ℕ) (signal name : List ℕ) → IsInputAt nodes base place node signal → Fan (graph_circuit prefix nodes edges targets base roots) signal name → (e : Edge) → Contains (netted nodes edges) e → net_of (netted nodes edges) (nets_of prefix base (length edges)) e ≡ name → Reaches nodes e.node node
fan_reaches prefix nodes edges targets base roots are place node signal name is itself e has same =
    let all = netted nodes edges in
    let nets = nets_of prefix base (length edges) in
    let count = nets_count prefix nodes edges targets base roots are in
    let input = Contains_at all place (plain node) (input_edge nodes edges base place node signal is) in
    let net = input_net prefix nodes edges targets base roots are place node signal is in
    let one = net_apart all nets (plain node) e are.out.once count (nets_distinct prefix nodes edges targets base roots are) input has (net ∙ sym same) in
    subst (λ (x : Edge). Reaches nodes x.node node) one reached.itself
fan_reaches prefix nodes edges targets base roots are place node signal name is (next g c read reads fan) e has same =
    let driven = edge_driven prefix nodes edges targets base roots are g e c has same in
    let source = edge_reads prefix nodes edges base g read driven.0 reads in
    let rest = fan_reaches prefix nodes edges targets base roots are place node signal read is fan source.0 (source_netted nodes edges driven.0.edge source.0 are.out driven.0.wired source.1) source.2 in
    subst (λ (x : Edge). Reaches nodes x.node node) driven.1 (reaches_on nodes driven.0.edge.node source.0.node node (reaches_source nodes driven.0.edge source.0 source.1) rest)

-- where a target does, its root does
fan_target : (prefix : List ℕ) (nodes : List Node) (edges : List Edge) (targets base : List (List ℕ)) (roots : List Edge) → AreGraphParts prefix nodes edges targets base roots → (place node : ℕ) (signal name : List ℕ) → IsInputAt nodes base place node signal → Fan (graph_circuit prefix nodes edges targets base roots) signal name → (k : ℕ) → slice_get targets k ≡ Some name → (root : Edge) × (slice_get roots k ≡ Some root) × Reaches nodes root.node node
fan_target prefix nodes edges targets base roots are place node signal name is itself k at =
    absurd (target_no_net prefix nodes edges targets base roots are signal (Contains_at targets k signal at)
    (Contains-append_left base (wires_from prefix 1 (length edges)) signal (Contains_at base place signal is.signal_at)))
fan_target prefix nodes edges targets base roots are place node signal name is (next g c read reads fan) k at =
    let all = netted nodes edges in
    let nets = nets_of prefix base (length edges) in
    let count = nets_count prefix nodes edges targets base roots are in
    elim (gate_cases prefix nodes edges targets base roots g c) [
      | inl edge ↦
          let own = Contains-append_right (map plain (inputs_of nodes)) edges edge.edge edge.wired in
          let net = net_member all nets edge.edge are.out.once count own in
          let out : net_of all nets edge.edge ≡ g.out = ap (λ (h : NamedGate). h.out) edge.gate in
          absurd (target_no_net prefix nodes edges targets base roots are g.out (Contains_at targets k g.out at) (subst (λ (n : List ℕ). Contains nets n) out net))
      | inr root ↦
          let found = root_reads prefix nodes edges targets base roots g read root reads in
          let out : root.target ≡ g.out = ap (λ (h : NamedGate). h.out) root.gate in
          let same : root.place ≡ k = one_place targets root.place k g.out (distinct_front targets base are.distinct) (root.at_target ∙ ap Some out) at in
          let has = are.rooted root.root (Contains_at roots root.place root.root root.at_root) found.0 in
          let reaches = fan_reaches prefix nodes edges targets base roots are place node signal read is fan (plain root.root.node) has found.1 in
          (root.root, subst (λ (i : ℕ). slice_get roots i ≡ Some root.root) same root.at_root, reaches)
    ]

-- the function of a target reads what lies behind earlier targets alone
pub behind_earlier : (f : Circuit) (prefix : List ℕ) (nodes : List Node) (edges : List Edge) (targets later base : List (List ℕ)) (roots : List Edge) → AreGraphParts prefix nodes edges targets base roots → AreTargets f (targets ++ later) → AreRooted f nodes roots base → ReadsBehindEarlier f (graph_circuit prefix nodes edges targets base roots)
behind_earlier f prefix nodes edges targets later base roots are first rooted before target behind outs signal read fan =
    let at = place_of base signal read in
    let within = slice_get_within base at.0 signal at.1 in
    let inputs = are.inputs in
    let node = item_at (inputs_of nodes) at.0 (omega arith) in
    let is : IsInputAt nodes base at.0 node.0 signal = record { node_at = node.1; signal_at = at.1 } in
    let place : slice_get targets (length before) ≡ Some target = ap (λ l. slice_get l (length before)) outs ∙ slice_get-back before (target ∷ behind) (length before) 0 (omega arith) in
    let found = fan_target prefix nodes edges targets base roots are at.0 node.0 signal target is fan (length before) place in
    let front : take (length before) (targets ++ later) ≡ before =
    ap (λ l. take (length before) (l ++ later)) outs
    ∙ ap (take (length before)) (append_assoc before (target ∷ behind) later)
    ∙ take_at before ((target ∷ behind) ++ later) (length before) refl in
    subst (λ l. IsBehindOnly f l signal) front
    (rooted (targets ++ later) first (length before) found.0 at.0 node.0 signal found.1 node.1 at.1 found.2)

-- the patch fits
pub Fits-graph : (f : Circuit) (prefix : List ℕ) (nodes : List Node) (edges : List Edge) (targets later base : List (List ℕ)) (roots : List Edge) → IsFreshPrefix (codes "eco") (names f) prefix → All (IsSignal f) base → AreGraphParts prefix nodes edges targets base roots → AreTargets f (targets ++ later) → AreRooted f nodes roots base → Fits f (graph_circuit prefix nodes edges targets base roots) later
Fits-graph f prefix nodes edges targets later base roots fresh signals are first rooted =
    let shape = graph_shape prefix nodes edges targets base roots are in
    record {
      loop_free = shape.loop_free;
      closed = closed_patch (codes "patch") targets base (wires_from prefix 1 (length edges)) (gates_of prefix nodes edges targets base roots) shape;
      drives = first;
      reads = signals;
      apart = behind_earlier f prefix nodes edges targets later base roots are first rooted;
      fresh = λ wire c net.
          let w = wires_member prefix 1 (length edges) wire c in
          fresh_numbered (codes "eco") (names f) prefix fresh (decimal w.0) (subst (λ (x : List ℕ). Contains (names f) x) (sym w.3) net);
    }

pub FitsFirst-graph : (f : Circuit) (prefix : List ℕ) (nodes : List Node) (edges : List Edge) (targets later base : List (List ℕ)) (roots : List Edge) → IsFreshPrefix (codes "eco") (names f) prefix → All (IsSignal f) base → AreGraphParts prefix nodes edges targets base roots → AreTargets f (targets ++ later) → AreRooted f nodes roots base → FitsFirst f (length roots) (graph_circuit prefix nodes edges targets base roots)
FitsFirst-graph f prefix nodes edges targets later base roots fresh signals are first rooted all others =
    let same : targets ++ later ≡ all = targets_unique f (targets ++ later) all first others in
    let front : take (length roots) all ≡ targets = ap (take (length roots)) (sym same) ∙ take_at targets later (length roots) are.count in
    let back : drop (length roots) all ≡ later = ap (drop (length roots)) (sym same) ∙ drop_at targets later (length roots) are.count in
    (sym front, rw back (Fits-graph f prefix nodes edges targets later base roots fresh signals are first rooted))

-- the gate of an edge that has a wire stands in the patch
edge_gate_stands : (prefix : List ℕ) (nodes : List Node) (edges : List Edge) (targets base : List (List ℕ)) (roots : List Edge) (e : Edge) → Contains edges e → Contains (gates_of prefix nodes edges targets base roots) (edge_gate nodes (netted nodes edges) (nets_of prefix base (length edges)) e)
edge_gate_stands prefix nodes edges targets base roots e c =
    let all = netted nodes edges in
    let nets = nets_of prefix base (length edges) in
    Contains-append_left (map (edge_gate nodes all nets) edges) (map (λ p. root_gate all nets p.0 p.1) (zip targets roots)) _ (Contains-map (edge_gate nodes all nets) edges e c)

-- it reads the nets of its sources
source_read : (nodes : List Node) (all : List Edge) (nets : List (List ℕ)) (e x : Edge) (name : List ℕ) → Contains (sources nodes e) x → net_of all nets x ≡ name → Reads (edge_gate nodes all nets e) name
source_read nodes all nets e x name c same =
    subst (λ (n : List ℕ). Contains (edge_gate nodes all nets e).terms (Named n)) same
    (Contains-map (λ (y : Edge). Named (net_of all nets y)) (sources nodes e) x c)

-- an operand of a marked and-node is read
operand_read : (prefix : List ℕ) (nodes : List Node) (marks : List Bool) (targets base : List (List ℕ)) (roots : List Edge) (j : ℕ) (e : Edge) (name : List ℕ) → is_gate nodes marks j ≡ true → j < length nodes → Contains (operands_at nodes j) e → net_of (netted nodes (wired nodes marks)) (nets_of prefix base (length (wired nodes marks))) (plain e.node) ≡ name → (gate : NamedGate) × Contains (gates_of prefix nodes (wired nodes marks) targets base roots) gate × Reads gate name
operand_read prefix nodes marks targets base roots j e name is within c same =
    let edges = wired nodes marks in
    let all = netted nodes edges in
    let nets = nets_of prefix base (length edges) in
    elim e.complemented as (λ b. e.complemented ≡ b → (gate : NamedGate) × Contains (gates_of prefix nodes edges targets base roots) gate × Reads gate name) [
      | true ↦ λ sign.
          let one : sources nodes e ≡ plain e.node ∷ [] = ap (λ b. cond b (plain e.node ∷ []) (operands_at nodes e.node)) sign in (
            edge_gate nodes all nets e,
            edge_gate_stands prefix nodes edges targets base roots e (complement_wired nodes marks (length nodes) j e within is c sign),
            source_read nodes all nets e (plain e.node) name (subst (λ l. Contains l (plain e.node)) (sym one) (Contains_first (plain e.node) [])) same,
          )
      | false ↦ λ sign.
          let own : plain e.node ≡ e = edge_is (plain e.node) e refl (sym sign) in (
            edge_gate nodes all nets (plain j),
            edge_gate_stands prefix nodes edges targets base roots (plain j) (node_wired nodes marks (length nodes) j within is),
            source_read nodes all nets (plain j) e name c (subst (λ (x : Edge). net_of all nets x ≡ name) own same),
          )
    ] refl

-- a root that is an input is read
root_read : (prefix : List ℕ) (nodes : List Node) (edges : List Edge) (targets base : List (List ℕ)) (roots : List Edge) (k : ℕ) (e : Edge) (target name : List ℕ) → slice_get roots k ≡ Some e → slice_get targets k ≡ Some target → 0 < e.node → net_of (netted nodes edges) (nets_of prefix base (length edges)) (plain e.node) ≡ name → (gate : NamedGate) × Contains (gates_of prefix nodes edges targets base roots) gate × Reads gate name
root_read prefix nodes edges targets base roots k e target name at_root at_target some same =
    let all = netted nodes edges in
    let nets = nets_of prefix base (length edges) in
    let root_of : List ℕ × Edge → NamedGate = λ p. root_gate all nets p.0 p.1 in
    let pair = Contains_at (zip targets roots) k (target, e) (zip_at targets roots k target e at_target at_root) in
    let nonzero : eqb e.node 0 ≡ false = ne_eqb e.node 0 (λ is. omega arith) in
    let term : root_term all nets e ≡ Named name = ap (λ b. cond b (cond e.complemented One Zero) (Named (net_of all nets (plain e.node)))) nonzero ∙ ap Named same in (
      root_of (target, e),
      Contains-append_right (map (edge_gate nodes all nets) edges) (map root_of (zip targets roots)) _ (Contains-map root_of (zip targets roots) (target, e) pair),
      subst (λ (t : Operand). Contains (root_term all nets e ∷ []) t) term (Contains_first (root_term all nets e) []),
    )

-- an input isn't the constant
input_above : (nodes : List Node) (node : ℕ) → IsGraph nodes → Contains (inputs_of nodes) node → 0 < node
input_above nodes zero graph c =
    let both = same_Some node_variants.Zero (node_variants.Input 0) (sym graph.constant ∙ listed_input nodes 0 graph c) in
    cc
input_above nodes (suc node) graph c = omega arith

reads_by : (prefix : List ℕ) (nodes : List Node) (marks : List Bool) (targets base : List (List ℕ)) (roots : List Edge) → AreGraphParts prefix nodes (wired nodes marks) targets base roots → AreReached nodes roots marks → (k : ℕ) (root : Edge) → slice_get roots k ≡ Some root → (node : ℕ) (name : List ℕ) → 0 < node → net_of (netted nodes (wired nodes marks)) (nets_of prefix base (length (wired nodes marks))) (plain node) ≡ name → Reaches nodes root.node node → (gate : NamedGate) × Contains (gates_of prefix nodes (wired nodes marks) targets base roots) gate × Reads gate name
reads_by prefix nodes marks targets base roots are marked k root at node name some same reached.itself =
    let within = slice_get_within roots k root at in
    let count = are.count in
    let target = item_at targets k (omega arith) in
    root_read prefix nodes (wired nodes marks) targets base roots k root target.0 name at target.1 some same
reads_by prefix nodes marks targets base roots are marked k root at node name some same (reached.next j e before c) =
    let mark = marked.complete j (root, Contains_at roots k root at, before) in
    let pair = operand_cases nodes j e c in
    let gate = and_from _ (is_some (pair_at nodes j)) mark (ap is_some pair.2) in
    operand_read prefix nodes marks targets base roots j e name gate (let lt = mark_within marks j mark in let len = marked.len in omega arith) c same

pub reads_reached : (prefix : List ℕ) (nodes : List Node) (marks : List Bool) (targets base : List (List ℕ)) (roots : List Edge) → AreGraphParts prefix nodes (wired nodes marks) targets base roots → AreReached nodes roots marks → ReadsReached nodes roots base (graph_circuit prefix nodes (wired nodes marks) targets base roots)
reads_reached prefix nodes marks targets base roots are marked place node name at_node at_name reached =
    let at = place_of roots reached.0 reached.1 in
    let is : IsInputAt nodes base place node name = record { node_at = at_node; signal_at = at_name } in
    let some = input_above nodes node are.graph (Contains_at (inputs_of nodes) place node at_node) in
    reads_by prefix nodes marks targets base roots are marked at.0 reached.0 at.1 node name some
    (input_net prefix nodes (wired nodes marks) targets base roots are place node name is) reached.2
