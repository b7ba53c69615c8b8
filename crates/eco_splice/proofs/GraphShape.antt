-- The patch from a graph has the shape of a patch.
use Rattle.std.proofs.Common.{◌≡◌, ℕ, zero, suc, ◌+◌, ◌^◌, ◌<◌, ◌⊎◌, inl, inr, Bool, true, false, not, ◌&&◌, eqb, cond, List, [], ◌∷◌, ◌++◌, Option, None, Some, length, drop, map, refl, sym, ◌∙◌, ap, subst, arith, append_assoc}
use Rattle.std.specs.List.{Contains, IsDistinct, slice_get, position_or_len, zip}
use Rattle.std.specs.Option.{is_some}
use Rattle.std.specs.Prelude.{codes}
use Rattle.std.specs.Str.{bytes_eq}
use Rattle.std.proofs.lemmas.Bool.{false≢true, eqb-false}
use Rattle.std.proofs.lemmas.Option.{none-some, same_Some, slice_get_within}
use Rattle.std.proofs.lemmas.List.{map-append, length-map, length-append, drop_at}
use Rattle.std.proofs.lemmas.List.FromFn.{length-range_with_len}
use Rattle.std.proofs.lemmas.List.Elements.{Contains-append_right, Contains-append_cases}
use Rattle.std.proofs.lemmas.Slice.Zip.{firsts-zip}
use Rattle.std.proofs.Math.Nat.{pos_of_ne-zero}
use Rattle.eco_lists.proofs.Members.{only_one, map-Contains, map-map}
use Rattle.eco_lists.proofs.Places.{place_of, Contains_at}
use Rattle.eco_meaning.specs.declared.kind.Kind.TheVariants.{And, Buf, Not}
use Rattle.eco_meaning.specs.declared.name.Operand.{Operand}
use Rattle.eco_meaning.specs.declared.name.Operand.TheVariants.{Zero, One, Named}
use Rattle.eco_meaning.specs.Gates.{FitsKind}
use Rattle.eco_meaning.specs.Circuit.{NamedGate, Reads, IsReadBy}
use Rattle.eco_aig.specs.declared.edge.Edge.{Edge}
use Rattle.eco_aig.specs.declared.node.Node.{Node}
use Rattle.eco_aig.specs.Edges.{plain}
use Rattle.eco_aig.specs.Graph.{IsGraph, pair_at, inputs_of}
use Rattle.eco_netlist.proofs.NameSets.{IsDistinct-append, distinct_back, distinct_apart}
use Rattle.eco_text.specs.Prefix.{numbered}
use Rattle.eco_aig.specs.Reached.{both_of, operands_at}
use Rattle.eco_splice.specs.GraphPatch.{netted, wires_from, nets_of, net_of, sources, edge_gate, root_term, root_kind, root_gate, graph_circuit}
use Rattle.eco_splice.proofs.Ranges.{wires_member, distinct_wires}
use Rattle.eco_splice.proofs.PatchShape.{IsPatchShape, IsLoopFree-by_rank}
use Rattle.eco_splice.proofs.OrderedEdges.{AreLaidOut}
use Rattle.eco_splice.proofs.GraphNets.{net_is, net_member, all_nets, name_place, no_place}

-- what the parts of a patch have to meet: edges in order, names apart, and a net for each root
pub record AreGraphParts (prefix : List ℕ) (nodes : List Node) (edges : List Edge) (targets base : List (List ℕ)) (roots : List Edge) : Type 0 where
  pub graph : IsGraph nodes
  pub out : AreLaidOut nodes (netted nodes edges)
  pub gates : (e : Edge) → Contains edges e → e.complemented ≡ false → is_some (pair_at nodes e.node) ≡ true
  pub inputs : length (inputs_of nodes) ≡ length base
  pub count : length targets ≡ length roots
  pub distinct : IsDistinct bytes_eq (targets ++ base)
  pub own : (number : ℕ) → Contains (targets ++ base) (numbered prefix number) → ⊥
  pub room : length edges + 1 < 2 ^ 64
  pub rooted : (e : Edge) → Contains roots e → 0 < e.node → Contains (netted nodes edges) (plain e.node)

-- all names differ
names_distinct : (prefix : List ℕ) (ports : List (List ℕ)) (count : ℕ) → IsDistinct bytes_eq ports → ((number : ℕ) → Contains ports (numbered prefix number) → ⊥) → count + 1 < 2 ^ 64 → IsDistinct bytes_eq (ports ++ wires_from prefix 1 count)
names_distinct prefix ports count distinct own room =
    IsDistinct-append ports (wires_from prefix 1 count) distinct (distinct_wires prefix 1 count (omega arith))
    (λ name port wire.
    let w = wires_member prefix 1 count name wire in
    own w.0 (subst (λ (x : List ℕ). Contains ports x) (sym w.3) port))

pub length-wires : (prefix : List ℕ) (first count : ℕ) → length (wires_from prefix first count) ≡ count
length-wires prefix first count = simp (length-map, length-range_with_len) refl

-- there are as many nets as edges that have one
pub nets_count : (prefix : List ℕ) (nodes : List Node) (edges : List Edge) (targets base : List (List ℕ)) (roots : List Edge) → AreGraphParts prefix nodes edges targets base roots → length (nets_of prefix base (length edges)) ≡ length (netted nodes edges)
nets_count prefix nodes edges targets base roots are =
    let left = length-append base (wires_from prefix 1 (length edges)) in
    let right = length-append (map plain (inputs_of nodes)) edges in
    let wires = length-wires prefix 1 (length edges) in
    let inputs = length-map (inputs_of nodes) plain in
    omega (arith, left, right, wires, inputs, are.inputs)

pub all_distinct : (prefix : List ℕ) (nodes : List Node) (edges : List Edge) (targets base : List (List ℕ)) (roots : List Edge) → AreGraphParts prefix nodes edges targets base roots → IsDistinct bytes_eq ((targets ++ base) ++ wires_from prefix 1 (length edges))
all_distinct prefix nodes edges targets base roots are =
    names_distinct prefix (targets ++ base) (length edges) are.distinct are.own are.room

targets_and_nets : (prefix : List ℕ) (nodes : List Node) (edges : List Edge) (targets base : List (List ℕ)) (roots : List Edge) → AreGraphParts prefix nodes edges targets base roots → IsDistinct bytes_eq (targets ++ nets_of prefix base (length edges))
targets_and_nets prefix nodes edges targets base roots are =
    subst (λ l. IsDistinct bytes_eq l) (append_assoc targets base (wires_from prefix 1 (length edges))) (all_distinct prefix nodes edges targets base roots are)

pub nets_distinct : (prefix : List ℕ) (nodes : List Node) (edges : List Edge) (targets base : List (List ℕ)) (roots : List Edge) → AreGraphParts prefix nodes edges targets base roots → IsDistinct bytes_eq (nets_of prefix base (length edges))
nets_distinct prefix nodes edges targets base roots are =
    distinct_back targets (nets_of prefix base (length edges)) (targets_and_nets prefix nodes edges targets base roots are)

pub target_no_net : (prefix : List ℕ) (nodes : List Node) (edges : List Edge) (targets base : List (List ℕ)) (roots : List Edge) → AreGraphParts prefix nodes edges targets base roots → (name : List ℕ) → Contains targets name → Contains (nets_of prefix base (length edges)) name → ⊥
target_no_net prefix nodes edges targets base roots are =
    distinct_apart targets (nets_of prefix base (length edges)) (targets_and_nets prefix nodes edges targets base roots are)

-- the gates
abbrev pub gates_of : List ℕ → List Node → List Edge → List (List ℕ) → List (List ℕ) → List Edge → List NamedGate
gates_of prefix nodes edges targets base roots = (graph_circuit prefix nodes edges targets base roots).gates

-- a gate of an edge, and a gate of a target
pub record IsEdgeGate (prefix : List ℕ) (nodes : List Node) (edges : List Edge) (base : List (List ℕ)) (g : NamedGate) : Type 0 where
  pub edge : Edge
  pub wired : Contains edges edge
  pub gate : edge_gate nodes (netted nodes edges) (nets_of prefix base (length edges)) edge ≡ g

pub record IsRootGate (prefix : List ℕ) (nodes : List Node) (edges : List Edge) (targets base : List (List ℕ)) (roots : List Edge) (g : NamedGate) : Type 0 where
  pub target : List ℕ
  pub root : Edge
  pub place : ℕ
  pub at_target : slice_get targets place ≡ Some target
  pub at_root : slice_get roots place ≡ Some root
  pub gate : root_gate (netted nodes edges) (nets_of prefix base (length edges)) target root ≡ g

-- a pair of two lists side by side, by its place
pub zipped_at : {A B : Type 0} (xs : List A) (ys : List B) (p : A × B) (k : ℕ) → slice_get (zip xs ys) k ≡ Some p → (slice_get xs k ≡ Some p.0) × (slice_get ys k ≡ Some p.1)
zipped_at [] ys p k e = absurd (none-some p e)
zipped_at (x ∷ xs) [] p k e = absurd (none-some p e)
zipped_at {A} {B} (x ∷ xs) (y ∷ ys) p zero e =
    let same : (x, y) ≡ p = same_Some (x, y) p e in
    (ap (λ (q : A × B). Some q.0) same, ap (λ (q : A × B). Some q.1) same)
zipped_at (x ∷ xs) (y ∷ ys) p (suc k) e = zipped_at xs ys p k e

pub gate_cases : (prefix : List ℕ) (nodes : List Node) (edges : List Edge) (targets base : List (List ℕ)) (roots : List Edge) (g : NamedGate) → Contains (gates_of prefix nodes edges targets base roots) g → IsEdgeGate prefix nodes edges base g ⊎ IsRootGate prefix nodes edges targets base roots g
gate_cases prefix nodes edges targets base roots g c =
    let all = netted nodes edges in
    let nets = nets_of prefix base (length edges) in
    let root_of : List ℕ × Edge → NamedGate = λ p. root_gate all nets p.0 p.1 in
    elim (Contains-append_cases (map (edge_gate nodes all nets) edges) (map root_of (zip targets roots)) g c) [
      | inl edge ↦
          let found = map-Contains (edge_gate nodes all nets) edges g edge in
          inl (record { edge = found.0; wired = found.1; gate = found.2 })
      | inr root ↦
          let found = map-Contains root_of (zip targets roots) g root in
          let at = place_of (zip targets roots) found.0 found.1 in
          let sides = zipped_at targets roots found.0 at.0 at.1 in
          inr (record {
            target = found.0.0;
            root = found.0.1;
            place = at.0;
            at_target = sides.0;
            at_root = sides.1;
            gate = found.2;
          })
    ]

-- what a gate reads
pub named_injective : (a b : List ℕ) → Named a ≡ Named b → a ≡ b
named_injective a b e = cc

pub edge_reads : (prefix : List ℕ) (nodes : List Node) (edges : List Edge) (base : List (List ℕ)) (g : NamedGate) (name : List ℕ) → (is : IsEdgeGate prefix nodes edges base g) → Reads g name → (x : Edge) × Contains (sources nodes is.edge) x × (net_of (netted nodes edges) (nets_of prefix base (length edges)) x ≡ name)
edge_reads prefix nodes edges base g name is reads =
    let all = netted nodes edges in
    let nets = nets_of prefix base (length edges) in
    let term = subst (λ (h : NamedGate). Contains h.terms (Named name)) (sym is.gate) reads in
    let found = map-Contains (λ (x : Edge). Named (net_of all nets x)) (sources nodes is.edge) (Named name) term in
    (found.0, found.1, named_injective (net_of all nets found.0) name found.2)

pub constant_term : (bit : Bool) (name : List ℕ) → cond bit One Zero ≡ Named name → ⊥
constant_term true name e = cc
constant_term false name e = cc

pub root_reads : (prefix : List ℕ) (nodes : List Node) (edges : List Edge) (targets base : List (List ℕ)) (roots : List Edge) (g : NamedGate) (name : List ℕ) → (is : IsRootGate prefix nodes edges targets base roots g) → Reads g name → (0 < is.root.node) × (net_of (netted nodes edges) (nets_of prefix base (length edges)) (plain is.root.node) ≡ name)
root_reads prefix nodes edges targets base roots g name is reads =
    let all = netted nodes edges in
    let nets = nets_of prefix base (length edges) in
    let term = only_one (root_term all nets is.root) (Named name) (subst (λ (h : NamedGate). Contains h.terms (Named name)) (sym is.gate) reads) in
    elim (eqb is.root.node 0) as (λ b. eqb is.root.node 0 ≡ b → cond b (cond is.root.complemented One Zero) (Named (net_of all nets (plain is.root.node))) ≡ Named name → (0 < is.root.node) × (net_of all nets (plain is.root.node) ≡ name)) [
      | true ↦ λ constant e. absurd (constant_term is.root.complemented name e)
      | false ↦ λ some e. (pos_of_ne-zero (eqb-false is.root.node 0 some), named_injective (net_of all nets (plain is.root.node)) name e)
    ] refl term

-- the sources of an edge that has a wire have nets
pub source_netted : (nodes : List Node) (edges : List Edge) (e x : Edge) → AreLaidOut nodes (netted nodes edges) → Contains edges e → Contains (sources nodes e) x → Contains (netted nodes edges) x
source_netted nodes edges e x out c source =
    let at = place_of (netted nodes edges) e (Contains-append_right (map plain (inputs_of nodes)) edges e c) in
    let before = out.before at.0 e x at.1 source in
    Contains_at (netted nodes edges) before.0 x before.2

pub reads_net : (prefix : List ℕ) (nodes : List Node) (edges : List Edge) (targets base : List (List ℕ)) (roots : List Edge) → AreGraphParts prefix nodes edges targets base roots → (g : NamedGate) → Contains (gates_of prefix nodes edges targets base roots) g → (name : List ℕ) → Reads g name → Contains (nets_of prefix base (length edges)) name
reads_net prefix nodes edges targets base roots are g c name reads =
    let all = netted nodes edges in
    let nets = nets_of prefix base (length edges) in
    let count = nets_count prefix nodes edges targets base roots are in
    elim (gate_cases prefix nodes edges targets base roots g c) [
      | inl is ↦
          let found = edge_reads prefix nodes edges base g name is reads in
          subst (λ (n : List ℕ). Contains nets n) found.2 (net_member all nets found.0 are.out.once count (source_netted nodes edges is.edge found.0 are.out is.wired found.1))
      | inr is ↦
          let found = root_reads prefix nodes edges targets base roots g name is reads in
          let root = are.rooted is.root (Contains_at roots is.place is.root is.at_root) found.0 in
          subst (λ (n : List ℕ). Contains nets n) found.1 (net_member all nets (plain is.root.node) are.out.once count root)
    ]

-- the gates drive the wires and the targets, in order
edge_outs : (prefix : List ℕ) (nodes : List Node) (edges : List Edge) (targets base : List (List ℕ)) (roots : List Edge) → AreGraphParts prefix nodes edges targets base roots → map (net_of (netted nodes edges) (nets_of prefix base (length edges))) edges ≡ wires_from prefix 1 (length edges)
edge_outs prefix nodes edges targets base roots are =
    let all = netted nodes edges in
    let nets = nets_of prefix base (length edges) in
    let f = net_of all nets in
    let inputs = map plain (inputs_of nodes) in
    let same : map f inputs ++ map f edges ≡ base ++ wires_from prefix 1 (length edges) = sym (map-append f inputs edges) ∙ all_nets all nets are.out.once (nets_count prefix nodes edges targets base roots are) in
    let len : length (map f inputs) ≡ length base = length-map inputs f ∙ length-map (inputs_of nodes) plain ∙ are.inputs in
    sym (drop_at (map f inputs) (map f edges) (length base) len)
    ∙ ap (drop (length base)) same
    ∙ drop_at base (wires_from prefix 1 (length edges)) (length base) refl

outs_of : (prefix : List ℕ) (nodes : List Node) (edges : List Edge) (targets base : List (List ℕ)) (roots : List Edge) → AreGraphParts prefix nodes edges targets base roots → map (λ g. g.out) (gates_of prefix nodes edges targets base roots) ≡ wires_from prefix 1 (length edges) ++ targets
outs_of prefix nodes edges targets base roots are =
    let all = netted nodes edges in
    let nets = nets_of prefix base (length edges) in
    let out : NamedGate → List ℕ = λ g. g.out in
    let root_of : List ℕ × Edge → NamedGate = λ p. root_gate all nets p.0 p.1 in
    map-append out (map (edge_gate nodes all nets) edges) (map root_of (zip targets roots))
    ∙ ap (λ l. l ++ map out (map root_of (zip targets roots))) (map-map (edge_gate nodes all nets) out edges ∙ edge_outs prefix nodes edges targets base roots are)
    ∙ ap (λ l. wires_from prefix 1 (length edges) ++ l) (map-map root_of out (zip targets roots) ∙ firsts-zip targets roots (sym are.count))

-- the numbers of inputs
two_operands : (pair : Option (Edge × Edge)) → is_some pair ≡ true → length (both_of pair) ≡ 2
two_operands None is = absurd (false≢true is)
two_operands (Some pair) is = refl

edge_fits : (nodes : List Node) (all : List Edge) (nets : List (List ℕ)) (e : Edge) → (e.complemented ≡ false → is_some (pair_at nodes e.node) ≡ true) → FitsKind (edge_gate nodes all nets e).kind (length (edge_gate nodes all nets e).terms)
edge_fits nodes all nets e some =
    let term : Edge → Operand = λ x. Named (net_of all nets x) in
    elim e.complemented as (λ b. e.complemented ≡ b → FitsKind (cond b Not And) (length (map term (cond b (plain e.node ∷ []) (operands_at nodes e.node))))) [
      | true ↦ λ is. refl
      | false ↦ λ is. let two = two_operands (pair_at nodes e.node) (some is) in let len = length-map (operands_at nodes e.node) term in omega (arith, two, len)
    ] refl

root_fits : (all : List Edge) (nets : List (List ℕ)) (target : List ℕ) (e : Edge) → FitsKind (root_kind e) (length (root_gate all nets target e).terms)
root_fits all nets target e =
    elim (e.complemented && not (eqb e.node 0)) as (λ b. FitsKind (cond b Not Buf) 1) [ true ↦ refl | false ↦ refl ]

arities : (prefix : List ℕ) (nodes : List Node) (edges : List Edge) (targets base : List (List ℕ)) (roots : List Edge) → AreGraphParts prefix nodes edges targets base roots → (g : NamedGate) → Contains (gates_of prefix nodes edges targets base roots) g → FitsKind g.kind (length g.terms)
arities prefix nodes edges targets base roots are g c =
    let all = netted nodes edges in
    let nets = nets_of prefix base (length edges) in
    let Fits : NamedGate → Type 0 = λ h. FitsKind h.kind (length h.terms) in
    elim (gate_cases prefix nodes edges targets base roots g c) [
      | inl is ↦ subst Fits is.gate (edge_fits nodes all nets is.edge (are.gates is.edge is.wired))
      | inr is ↦ subst Fits is.gate (root_fits all nets is.target is.root)
    ]

-- the rank of a gate: the place of its output among the nets, and beyond them for a target
abbrev pub rank_of : List (List ℕ) → NamedGate → ℕ
rank_of nets g = position_or_len (bytes_eq g.out) nets

rank_of_net : (prefix : List ℕ) (nodes : List Node) (edges : List Edge) (targets base : List (List ℕ)) (roots : List Edge) → AreGraphParts prefix nodes edges targets base roots → (i : ℕ) (e : Edge) → slice_get (netted nodes edges) i ≡ Some e → position_or_len (bytes_eq (net_of (netted nodes edges) (nets_of prefix base (length edges)) e)) (nets_of prefix base (length edges)) ≡ i
rank_of_net prefix nodes edges targets base roots are i e at =
    let all = netted nodes edges in
    let nets = nets_of prefix base (length edges) in
    name_place nets i (net_of all nets e) (nets_distinct prefix nodes edges targets base roots are)
    (net_is all nets i e are.out.once (nets_count prefix nodes edges targets base roots are) at)

rises : (prefix : List ℕ) (nodes : List Node) (edges : List Edge) (targets base : List (List ℕ)) (roots : List Edge) → AreGraphParts prefix nodes edges targets base roots → (g h : NamedGate) → Contains (gates_of prefix nodes edges targets base roots) g → Contains (gates_of prefix nodes edges targets base roots) h → IsReadBy g h → rank_of (nets_of prefix base (length edges)) g < rank_of (nets_of prefix base (length edges)) h
rises prefix nodes edges targets base roots are g h c d reads =
    let all = netted nodes edges in
    let nets = nets_of prefix base (length edges) in
    let place : List ℕ → ℕ = λ n. position_or_len (bytes_eq n) nets in
    elim (gate_cases prefix nodes edges targets base roots h d) [
      | inl is ↦
          let found = edge_reads prefix nodes edges base h g.out is reads in
          let at = place_of all is.edge (Contains-append_right (map plain (inputs_of nodes)) edges is.edge is.wired) in
          let before = are.out.before at.0 is.edge found.0 at.1 found.1 in
          let low : place g.out ≡ before.0 = sym (ap place found.2) ∙ rank_of_net prefix nodes edges targets base roots are before.0 found.0 before.2 in
          let high : place h.out ≡ at.0 = sym (ap (λ (x : NamedGate). place x.out) is.gate) ∙ rank_of_net prefix nodes edges targets base roots are at.0 is.edge at.1 in
          let lt = before.1 in
          omega (arith, low, high, lt)
      | inr is ↦
          let found = root_reads prefix nodes edges targets base roots h g.out is reads in
          let root = are.rooted is.root (Contains_at roots is.place is.root is.at_root) found.0 in
          let at = place_of all (plain is.root.node) root in
          let low : place g.out ≡ at.0 = sym (ap place found.1) ∙ rank_of_net prefix nodes edges targets base roots are at.0 (plain is.root.node) at.1 in
          let within = slice_get_within all at.0 (plain is.root.node) at.1 in
          let count = nets_count prefix nodes edges targets base roots are in
          let target : place h.out ≡ length nets = sym (ap (λ (x : NamedGate). place x.out) is.gate) ∙ no_place nets is.target (target_no_net prefix nodes edges targets base roots are is.target (Contains_at targets is.place is.target is.at_target)) in
          omega (arith, low, within, count, target)
    ]

pub graph_shape : (prefix : List ℕ) (nodes : List Node) (edges : List Edge) (targets base : List (List ℕ)) (roots : List Edge) → AreGraphParts prefix nodes edges targets base roots → IsPatchShape (codes "patch") targets base (wires_from prefix 1 (length edges)) (gates_of prefix nodes edges targets base roots)
graph_shape prefix nodes edges targets base roots are = record {
  distinct = all_distinct prefix nodes edges targets base roots are;
  outs = outs_of prefix nodes edges targets base roots are;
  reads = λ g c name reads.
      subst (λ l. Contains l name) (sym (append_assoc targets base (wires_from prefix 1 (length edges))))
      (Contains-append_right targets (nets_of prefix base (length edges)) name (reads_net prefix nodes edges targets base roots are g c name reads));
  arities = arities prefix nodes edges targets base roots are;
  loop_free = IsLoopFree-by_rank _ (rank_of (nets_of prefix base (length edges))) (rises prefix nodes edges targets base roots are);
}
