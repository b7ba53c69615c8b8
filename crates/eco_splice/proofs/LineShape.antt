-- The patch of lines: its gates and what they read; it is checked, and it has no loop and no target of its own.
use Rattle.std.proofs.Common.{◌≡◌, ◌≢◌, ℕ, ◌+◌, ◌^◌, ◌<◌, ◌≤◌, inl, inr, true, false, eqb, cond, List, [], ◌∷◌, ◌++◌, Some, length, map, refl, sym, ◌∙◌, ap, subst, arith}
use Rattle.std.specs.List.{Contains, IsDistinct, slice_get, zip, range_with_len}
use Rattle.std.specs.Option.{option_map}
use Rattle.std.specs.Prelude.{codes}
use Rattle.std.specs.Str.{bytes_eq}
use Rattle.std.proofs.lemmas.Bool.{false≢true, eq-eqb}
use Rattle.std.proofs.lemmas.Option.{same_Some, slice_get_within, slice_get-get_or, slice_get-map}
use Rattle.std.proofs.lemmas.List.{length-map, length-append}
use Rattle.std.proofs.lemmas.Slice.Zip.{seconds-zip}
use Rattle.std.proofs.lemmas.List.Elements.{All-contains, Contains-append_left, Contains-append_right, Contains-append_cases}
use Rattle.eco_lists.proofs.Members.{Contains-map, map-Contains, map-map, only_one}
use Rattle.eco_lists.proofs.Ranges.{member_of_range}
use Rattle.eco_lists.proofs.Places.{place_of, Contains_at, slice_get-back}
use Rattle.eco_meaning.specs.declared.kind.Kind.TheVariants.{Buf}
use Rattle.eco_meaning.specs.declared.name.Operand.{Operand}
use Rattle.eco_meaning.specs.declared.name.Operand.TheVariants.{Zero, One, Named}
use Rattle.eco_meaning.specs.Gates.{FitsKind}
use Rattle.eco_meaning.specs.Circuit.{NamedGate, Reads, IsSignal, IsTarget, IsReadBy, IsLoopFree, IsDriven}
use Rattle.eco_aig.specs.declared.edge.Edge.{Edge}
use Rattle.eco_aig.specs.declared.node.Node.{Node}
use Rattle.eco_aig.specs.Edges.{plain}
use Rattle.eco_aig.specs.Graph.{IsGraph, inputs_of}
use Rattle.eco_netlist.specs.Netlists.{IsChecked, name_at}
use Rattle.eco_netlist.proofs.NameSets.{IsDistinct-append, distinct_front, distinct_back, distinct_apart}
use Rattle.eco_text.specs.Prefix.{numbered}
use Rattle.eco_splice.specs.GraphPatch.{wires_from, net_of}
use Rattle.eco_splice.proofs.Ranges.{wires_member, distinct_wires}
use Rattle.eco_splice.proofs.PatchShape.{patch_of, IsChecked-patch, IsLoopFree-by_rank}
use Rattle.eco_splice.proofs.GraphNets.{name_place}
use Rattle.eco_splice.proofs.GraphShape.{zipped_at, named_injective, constant_term, rank_of}
use Rattle.eco_splice.proofs.GraphValues.{zip_at}
use Rattle.eco_splice.specs.declared.line.Line.{Line}
use Rattle.eco_splice.specs.Lines.{IsLine}
use Rattle.eco_splice.specs.LineGates.{edges_in, first_place, wire_count, outs_from, nets_in, line_term, line_gate, line_circuit, StandsBefore, AreReady}
use Rattle.eco_splice.proofs.FirstPlaces.{place_found}
use Rattle.eco_splice.proofs.LineNets.{AreNamed, target_at, length-outs, out_target, out_cases, wire_out, distinct_outs}

-- what the parts of a patch from lines have to meet
pub record AreLineParts (prefix : List ℕ) (nodes : List Node) (lines : List Line) (targets base : List (List ℕ)) (roots : List Edge) : Type 0 where
  pub graph : IsGraph nodes
  pub lines_fit : (k : ℕ) (line : Line) → slice_get lines k ≡ Some line → IsLine nodes line
  pub inputs : length (inputs_of nodes) ≡ length base
  pub count : length targets ≡ length roots
  pub distinct : IsDistinct bytes_eq (targets ++ base)
  pub own : (number : ℕ) → Contains (targets ++ base) (numbered prefix number) → ⊥
  pub room : wire_count lines + 1 < 2 ^ 64
  pub ready : AreReady nodes roots lines

-- the nets of the lines, those of all edges, and the gates
abbrev pub outs_of : List ℕ → List (List ℕ) → List Line → List (List ℕ)
outs_of prefix targets lines = outs_from prefix targets 1 lines

abbrev pub gates_of : List ℕ → List Node → List Line → List (List ℕ) → List (List ℕ) → List NamedGate
gates_of prefix nodes lines targets base = (line_circuit prefix (edges_in nodes lines) lines targets base).gates

pub named : (prefix : List ℕ) (nodes : List Node) (lines : List Line) (targets base : List (List ℕ)) (roots : List Edge) → AreLineParts prefix nodes lines targets base roots → AreNamed prefix targets lines
named prefix nodes lines targets base roots are = record {
  within = λ k line i at is.
      let within = slice_get_within roots i line.edge (are.ready.drive.own k line i at is) in
      let count = are.count in
      omega (arith, within, count);
  once = are.ready.drive.once;
  distinct = distinct_front targets base are.distinct;
  apart = λ number c. are.own number (Contains-append_left targets base (numbered prefix number) c);
}

-- how many nets there are
pub length-edges : (nodes : List Node) (lines : List Line) → length (edges_in nodes lines) ≡ length (inputs_of nodes) + length lines
length-edges nodes lines =
    let all = length-append (map plain (inputs_of nodes)) (map (λ (line : Line). line.edge) lines) in
    let left = length-map (inputs_of nodes) plain in
    let right = length-map lines (λ (line : Line). line.edge) in
    omega (arith, all, left, right)

pub length-nets : (prefix : List ℕ) (targets base : List (List ℕ)) (lines : List Line) → length (nets_in prefix targets base lines) ≡ length base + length lines
length-nets prefix targets base lines =
    let all = length-append base (outs_of prefix targets lines) in
    let outs = length-outs prefix targets 1 lines in
    omega (arith, all, outs)

-- the edge and the net of a line, among all edges and nets
pub edge_at : (nodes : List Node) (lines : List Line) (k : ℕ) (line : Line) → slice_get lines k ≡ Some line → slice_get (edges_in nodes lines) (length (inputs_of nodes) + k) ≡ Some line.edge
edge_at nodes lines k line at =
    let left = length-map (inputs_of nodes) plain in
    slice_get-back (map plain (inputs_of nodes)) (map (λ (l : Line). l.edge) lines) (length (inputs_of nodes) + k) k (omega (arith, left))
    ∙ slice_get-map (λ (l : Line). l.edge) lines k ∙ ap (option_map (λ (l : Line). l.edge)) at

pub net_behind : (prefix : List ℕ) (targets base : List (List ℕ)) (lines : List Line) (b k : ℕ) (out : List ℕ) → b ≡ length base → slice_get (outs_of prefix targets lines) k ≡ Some out → slice_get (nets_in prefix targets base lines) (b + k) ≡ Some out
net_behind prefix targets base lines b k out count at =
    slice_get-back base (outs_of prefix targets lines) (b + k) k (omega (arith, count)) ∙ at

-- a gate, with the line that it stands for
pub record IsLineGate (prefix : List ℕ) (nodes : List Node) (lines : List Line) (targets base : List (List ℕ)) (g : NamedGate) : Type 0 where
  pub place : ℕ
  pub line : Line
  pub at : slice_get lines place ≡ Some line
  pub out : slice_get (outs_of prefix targets lines) place ≡ Some g.out
  pub kind : g.kind ≡ line.kind
  pub terms : g.terms ≡ map (line_term (edges_in nodes lines) (nets_in prefix targets base lines)) line.operands.items

pub gate_line : (prefix : List ℕ) (nodes : List Node) (lines : List Line) (targets base : List (List ℕ)) (g : NamedGate) → Contains (gates_of prefix nodes lines targets base) g → IsLineGate prefix nodes lines targets base g
gate_line prefix nodes lines targets base g c =
    let edges = edges_in nodes lines in
    let nets = nets_in prefix targets base lines in
    let gate_of : Line × List ℕ → NamedGate = λ p. line_gate edges nets p.0 p.1 in
    let pairs = zip lines (outs_of prefix targets lines) in
    let found = map-Contains gate_of pairs g c in
    let at = place_of pairs found.0 found.1 in
    let sides = zipped_at lines (outs_of prefix targets lines) found.0 at.0 at.1 in
    record {
      place = at.0;
      line = found.0.0;
      at = sides.0;
      out = sides.1 ∙ ap (λ (h : NamedGate). Some h.out) found.2;
      kind = sym (ap (λ (h : NamedGate). h.kind) found.2);
      terms = sym (ap (λ (h : NamedGate). h.terms) found.2);
    }

-- each line has its gate
pub line_stands : (prefix : List ℕ) (nodes : List Node) (lines : List Line) (targets base : List (List ℕ)) (k : ℕ) (line : Line) (out : List ℕ) → slice_get lines k ≡ Some line → slice_get (outs_of prefix targets lines) k ≡ Some out → Contains (gates_of prefix nodes lines targets base) (line_gate (edges_in nodes lines) (nets_in prefix targets base lines) line out)
line_stands prefix nodes lines targets base k line out at at_out =
    let edges = edges_in nodes lines in
    let nets = nets_in prefix targets base lines in
    let gate_of : Line × List ℕ → NamedGate = λ p. line_gate edges nets p.0 p.1 in
    let pairs = zip lines (outs_of prefix targets lines) in
    Contains-map gate_of pairs (line, out) (Contains_at pairs k (line, out) (zip_at lines (outs_of prefix targets lines) k line out at at_out))

-- the nets of the gates, in order
pub outs_are : (prefix : List ℕ) (nodes : List Node) (lines : List Line) (targets base : List (List ℕ)) → map (λ g. g.out) (gates_of prefix nodes lines targets base) ≡ outs_of prefix targets lines
outs_are prefix nodes lines targets base =
    let edges = edges_in nodes lines in
    let nets = nets_in prefix targets base lines in
    let gate_of : Line × List ℕ → NamedGate = λ p. line_gate edges nets p.0 p.1 in
    map-map gate_of (λ (g : NamedGate). g.out) (zip lines (outs_of prefix targets lines)) ∙ seconds-zip lines (outs_of prefix targets lines) (length-outs prefix targets 1 lines)

-- a net that an operand reads
pub record IsOperandNet (prefix : List ℕ) (nodes : List Node) (lines : List Line) (targets base : List (List ℕ)) (below : ℕ) (operand : Edge) (name : List ℕ) : Type 0 where
  pub place : ℕ
  pub before : place < below
  pub edge : slice_get (edges_in nodes lines) place ≡ Some operand
  pub net : slice_get (nets_in prefix targets base lines) place ≡ Some name

-- the net of an operand that isn't constant
pub operand_net : (prefix : List ℕ) (nodes : List Node) (lines : List Line) (targets base : List (List ℕ)) (below : ℕ) (e : Edge) → length (inputs_of nodes) ≡ length base → below ≤ length (edges_in nodes lines) → first_place (edges_in nodes lines) e < below → IsOperandNet prefix nodes lines targets base below e (net_of (edges_in nodes lines) (nets_in prefix targets base lines) e)
operand_net prefix nodes lines targets base below e inputs most low =
    let edges = length-edges nodes lines in
    let nets = length-nets prefix targets base lines in
    record {
      place = first_place (edges_in nodes lines) e;
      before = low;
      edge = place_found (edges_in nodes lines) e (omega (arith, low, most));
      net = slice_get-get_or (nets_in prefix targets base lines) (first_place (edges_in nodes lines) e) [] (omega (arith, low, most, edges, nets, inputs));
    }

-- what a term that is a net reads
pub term_reads : (edges : List Edge) (nets : List (List ℕ)) (e : Edge) (name : List ℕ) → line_term edges nets e ≡ Named name → (e.node ≢ 0) × (net_of edges nets e ≡ name)
term_reads edges nets e name is =
    elim (eqb e.node 0) as (λ b. eqb e.node 0 ≡ b → cond b (cond e.complemented One Zero) (Named (net_of edges nets e)) ≡ Named name → (e.node ≢ 0) × (net_of edges nets e ≡ name)) [
      | true ↦ λ none term. absurd (constant_term e.complemented name term)
      | false ↦ λ some term. ((λ none. false≢true (sym some ∙ eq-eqb e.node 0 none)), named_injective (net_of edges nets e) name term)
    ] refl is

-- the operand of a gate that reads a net stands before the gate's line
pub record IsReadAt (prefix : List ℕ) (nodes : List Node) (lines : List Line) (targets base : List (List ℕ)) (g : NamedGate) (name : List ℕ) : Type 0 where
  pub gate : IsLineGate prefix nodes lines targets base g
  pub operand : Edge
  pub listed : Contains gate.line.operands.items operand
  pub net : IsOperandNet prefix nodes lines targets base (length (inputs_of nodes) + gate.place) operand name

pub read_at : (prefix : List ℕ) (nodes : List Node) (lines : List Line) (targets base : List (List ℕ)) (roots : List Edge) → AreLineParts prefix nodes lines targets base roots → (g : NamedGate) (name : List ℕ) → Contains (gates_of prefix nodes lines targets base) g → Reads g name → IsReadAt prefix nodes lines targets base g name
read_at prefix nodes lines targets base roots are g name c reads =
    let edges = edges_in nodes lines in
    let nets = nets_in prefix targets base lines in
    let gate = gate_line prefix nodes lines targets base g c in
    let found = map-Contains (line_term edges nets) gate.line.operands.items (Named name) (subst (λ (l : List Operand). Contains l (Named name)) gate.terms reads) in
    let term = term_reads edges nets found.0 name found.2 in
    let within = slice_get_within lines gate.place gate.line gate.at in
    let count = length-edges nodes lines in
    record {
      gate = gate;
      operand = found.0;
      listed = found.1;
      net = elim (All-contains (StandsBefore edges (length (inputs_of nodes) + gate.place)) gate.line.operands.items found.0 (are.ready.earlier gate.place gate.line gate.at) found.1) [
        | inl none ↦ absurd (term.0 none)
        | inr low ↦ subst (λ (n : List ℕ). IsOperandNet prefix nodes lines targets base (length (inputs_of nodes) + gate.place) found.0 n) term.1
            (operand_net prefix nodes lines targets base (length (inputs_of nodes) + gate.place) found.0 are.inputs (omega (arith, within, count)) low)
      ];
    }

-- all names differ
pub wires_apart : (prefix : List ℕ) (nodes : List Node) (lines : List Line) (targets base : List (List ℕ)) (roots : List Edge) → AreLineParts prefix nodes lines targets base roots → (name : List ℕ) → Contains (targets ++ base) name → Contains (wires_from prefix 1 (wire_count lines)) name → ⊥
wires_apart prefix nodes lines targets base roots are name port wire =
    let w = wires_member prefix 1 (wire_count lines) name wire in
    are.own w.0 (subst (λ (x : List ℕ). Contains (targets ++ base) x) (sym w.3) port)

pub all_distinct : (prefix : List ℕ) (nodes : List Node) (lines : List Line) (targets base : List (List ℕ)) (roots : List Edge) → AreLineParts prefix nodes lines targets base roots → IsDistinct bytes_eq ((targets ++ base) ++ wires_from prefix 1 (wire_count lines))
all_distinct prefix nodes lines targets base roots are =
    let room = are.room in
    IsDistinct-append (targets ++ base) (wires_from prefix 1 (wire_count lines)) are.distinct (distinct_wires prefix 1 (wire_count lines) (omega (arith, room)))
    (wires_apart prefix nodes lines targets base roots are)

pub nets_distinct : (prefix : List ℕ) (nodes : List Node) (lines : List Line) (targets base : List (List ℕ)) (roots : List Edge) → AreLineParts prefix nodes lines targets base roots → IsDistinct bytes_eq (nets_in prefix targets base lines)
nets_distinct prefix nodes lines targets base roots are =
    let room = are.room in
    let names = named prefix nodes lines targets base roots are in
    IsDistinct-append base (outs_of prefix targets lines) (distinct_back targets base are.distinct) (distinct_outs prefix targets 1 lines names (omega (arith, room)))
    (λ name signal out. elim (out_cases prefix targets 1 lines name out) [
      | inl target ↦ distinct_apart targets base are.distinct name (Contains_at targets target.target name (target_at targets target.target (names.within target.place target.line target.target target.at target.is) ∙ ap Some target.same)) signal
      | inr wire ↦ are.own wire.number (subst (λ (x : List ℕ). Contains (targets ++ base) x) (sym wire.same) (Contains-append_right targets base name signal))
    ])

-- each net of a line is driven, and so are the targets and the wires
out_driven : (prefix : List ℕ) (nodes : List Node) (lines : List Line) (targets base : List (List ℕ)) (name : List ℕ) → Contains (outs_of prefix targets lines) name → IsDriven (line_circuit prefix (edges_in nodes lines) lines targets base) name
out_driven prefix nodes lines targets base name c =
    map-Contains (λ (g : NamedGate). g.out) (gates_of prefix nodes lines targets base) name (subst (λ (l : List (List ℕ)). Contains l name) (sym (outs_are prefix nodes lines targets base)) c)

-- the line that drives a target
pub record IsDriverOf (prefix : List ℕ) (lines : List Line) (targets : List (List ℕ)) (roots : List Edge) (i : ℕ) (target : List ℕ) : Type 0 where
  pub place : ℕ
  pub line : Line
  pub at : slice_get lines place ≡ Some line
  pub out : slice_get (outs_of prefix targets lines) place ≡ Some target
  pub root : slice_get roots i ≡ Some line.edge

pub driver_of : (prefix : List ℕ) (nodes : List Node) (lines : List Line) (targets base : List (List ℕ)) (roots : List Edge) → AreLineParts prefix nodes lines targets base roots → (i : ℕ) (target : List ℕ) → slice_get targets i ≡ Some target → IsDriverOf prefix lines targets roots i target
driver_of prefix nodes lines targets base roots are i target at =
    let within = slice_get_within targets i target at in
    let count = are.count in
    let found = are.ready.drive.all i (omega (arith, within, count)) in
    let same : name_at targets i ≡ target = same_Some (name_at targets i) target (sym (target_at targets i within) ∙ at) in
    record {
      place = found.0;
      line = found.1;
      at = found.2;
      out = out_target prefix targets 1 lines found.0 found.1 i found.2 found.3 ∙ ap Some same;
      root = are.ready.drive.own found.0 found.1 i found.2 found.3;
    }

target_out : (prefix : List ℕ) (nodes : List Node) (lines : List Line) (targets base : List (List ℕ)) (roots : List Edge) → AreLineParts prefix nodes lines targets base roots → (name : List ℕ) → Contains targets name → Contains (outs_of prefix targets lines) name
target_out prefix nodes lines targets base roots are name c =
    let at = place_of targets name c in
    let driver = driver_of prefix nodes lines targets base roots are at.0 name at.1 in
    Contains_at (outs_of prefix targets lines) driver.place name driver.out

wire_driven : (prefix : List ℕ) (targets : List (List ℕ)) (lines : List Line) (name : List ℕ) → Contains (wires_from prefix 1 (wire_count lines)) name → Contains (outs_of prefix targets lines) name
wire_driven prefix targets lines name c =
    let w = wires_member prefix 1 (wire_count lines) name c in
    subst (λ (x : List ℕ). Contains (outs_of prefix targets lines) x) w.3 (wire_out prefix targets 1 lines w.0 w.1 w.2)

-- a wire of a range is listed
wire_listed : (prefix : List ℕ) (first count number : ℕ) → first ≤ number → number < first + count → Contains (wires_from prefix first count) (numbered prefix number)
wire_listed prefix first count number low high =
    Contains-map (numbered prefix) (range_with_len first count) number (member_of_range first count number low high)

-- each net of a line is a net of the patch
out_declared : (prefix : List ℕ) (nodes : List Node) (lines : List Line) (targets base : List (List ℕ)) (roots : List Edge) → AreLineParts prefix nodes lines targets base roots → (name : List ℕ) → Contains (outs_of prefix targets lines) name → Contains ((targets ++ base) ++ wires_from prefix 1 (wire_count lines)) name
out_declared prefix nodes lines targets base roots are name c =
    let names = named prefix nodes lines targets base roots are in
    let wires = wires_from prefix 1 (wire_count lines) in
    elim (out_cases prefix targets 1 lines name c) [
      | inl target ↦
          let own = Contains_at targets target.target name (target_at targets target.target (names.within target.place target.line target.target target.at target.is) ∙ ap Some target.same) in
          Contains-append_left (targets ++ base) wires name (Contains-append_left targets base name own)
      | inr wire ↦
          let own = subst (λ (x : List ℕ). Contains wires x) wire.same (wire_listed prefix 1 (wire_count lines) wire.number wire.low wire.high) in
          Contains-append_right (targets ++ base) wires name own
    ]

net_declared : (prefix : List ℕ) (nodes : List Node) (lines : List Line) (targets base : List (List ℕ)) (roots : List Edge) → AreLineParts prefix nodes lines targets base roots → (name : List ℕ) → Contains (nets_in prefix targets base lines) name → Contains ((targets ++ base) ++ wires_from prefix 1 (wire_count lines)) name
net_declared prefix nodes lines targets base roots are name c =
    let wires = wires_from prefix 1 (wire_count lines) in
    elim (Contains-append_cases base (outs_of prefix targets lines) name c) [
      | inl signal ↦ Contains-append_left (targets ++ base) wires name (Contains-append_right targets base name signal)
      | inr out ↦ out_declared prefix nodes lines targets base roots are name out
    ]

-- each net of the patch is an input or driven
settled : (prefix : List ℕ) (nodes : List Node) (lines : List Line) (targets base : List (List ℕ)) (roots : List Edge) → AreLineParts prefix nodes lines targets base roots → (name : List ℕ) → Contains ((targets ++ base) ++ wires_from prefix 1 (wire_count lines)) name → IsSignal (line_circuit prefix (edges_in nodes lines) lines targets base) name
settled prefix nodes lines targets base roots are name c =
    elim (Contains-append_cases (targets ++ base) (wires_from prefix 1 (wire_count lines)) name c) [
      | inl port ↦ elim (Contains-append_cases targets base name port) [
        | inl target ↦ inr (out_driven prefix nodes lines targets base name (target_out prefix nodes lines targets base roots are name target))
        | inr input ↦ inl input
      ]
      | inr wire ↦ inr (out_driven prefix nodes lines targets base name (wire_driven prefix targets lines name wire))
    ]

pub closed_lines : (prefix : List ℕ) (nodes : List Node) (lines : List Line) (targets base : List (List ℕ)) (roots : List Edge) → AreLineParts prefix nodes lines targets base roots → (name : List ℕ) → IsTarget (line_circuit prefix (edges_in nodes lines) lines targets base) name → ⊥
closed_lines prefix nodes lines targets base roots are name target =
    target.free (settled prefix nodes lines targets base roots are name target.net)

-- a gate stands behind those that drive what it reads
rank_is : (prefix : List ℕ) (nodes : List Node) (lines : List Line) (targets base : List (List ℕ)) (roots : List Edge) → AreLineParts prefix nodes lines targets base roots → (i : ℕ) (g : NamedGate) → slice_get (nets_in prefix targets base lines) i ≡ Some g.out → rank_of (nets_in prefix targets base lines) g ≡ i
rank_is prefix nodes lines targets base roots are i g at =
    name_place (nets_in prefix targets base lines) i g.out (nets_distinct prefix nodes lines targets base roots are) at

rises : (prefix : List ℕ) (nodes : List Node) (lines : List Line) (targets base : List (List ℕ)) (roots : List Edge) → AreLineParts prefix nodes lines targets base roots → (g h : NamedGate) → Contains (gates_of prefix nodes lines targets base) g → Contains (gates_of prefix nodes lines targets base) h → IsReadBy g h → rank_of (nets_in prefix targets base lines) g < rank_of (nets_in prefix targets base lines) h
rises prefix nodes lines targets base roots are g h c d reads =
    let read = read_at prefix nodes lines targets base roots are h g.out d reads in
    let low = rank_is prefix nodes lines targets base roots are read.net.place g read.net.net in
    let own = net_behind prefix targets base lines (length (inputs_of nodes)) read.gate.place h.out are.inputs read.gate.out in
    let high = rank_is prefix nodes lines targets base roots are (length (inputs_of nodes) + read.gate.place) h own in
    let before = read.net.before in
    omega (arith, low, high, before)

pub loop_free_lines : (prefix : List ℕ) (nodes : List Node) (lines : List Line) (targets base : List (List ℕ)) (roots : List Edge) → AreLineParts prefix nodes lines targets base roots → IsLoopFree (line_circuit prefix (edges_in nodes lines) lines targets base)
loop_free_lines prefix nodes lines targets base roots are =
    IsLoopFree-by_rank _ (rank_of (nets_in prefix targets base lines)) (rises prefix nodes lines targets base roots are)

-- the ports of a patch are checked, whatever its gates are: they are, with gates that read nothing
abbrev idle_gates : List (List ℕ) → List NamedGate
idle_gates nets = map (λ (net : List ℕ). let g : NamedGate = record { kind = Buf; out = net; terms = One ∷ [] } in g) nets

idle_reads : (nets : List (List ℕ)) (g : NamedGate) (name : List ℕ) → Contains (idle_gates nets) g → Reads g name → ⊥
idle_reads nets g name c reads =
    let found = map-Contains (λ (net : List ℕ). let h : NamedGate = record { kind = Buf; out = net; terms = One ∷ [] } in h) nets g c in
    let one = only_one One (Named name) (subst (λ (h : NamedGate). Contains h.terms (Named name)) (sym found.2) reads) in
    constant_term true name one

idle_fits : (nets : List (List ℕ)) (g : NamedGate) → Contains (idle_gates nets) g → FitsKind g.kind (length g.terms)
idle_fits nets g c =
    let found = map-Contains (λ (net : List ℕ). let h : NamedGate = record { kind = Buf; out = net; terms = One ∷ [] } in h) nets g c in
    subst (λ (h : NamedGate). FitsKind h.kind (length h.terms)) found.2 refl

idle_outs : (nets : List (List ℕ)) → map (λ g. g.out) (idle_gates nets) ≡ nets
idle_outs [] = refl
idle_outs (net ∷ nets) = ap (λ (l : List (List ℕ)). net ∷ l) (idle_outs nets)

checked_ports : (targets base wires : List (List ℕ)) → IsDistinct bytes_eq ((targets ++ base) ++ wires) → IsChecked (patch_of (codes "patch") targets base wires (idle_gates (wires ++ targets)))
checked_ports targets base wires distinct =
    IsChecked-patch (codes "patch") targets base wires (idle_gates (wires ++ targets)) (record {
      distinct = distinct;
      outs = idle_outs (wires ++ targets);
      reads = λ g c name reads. absurd (idle_reads (wires ++ targets) g name c reads);
      arities = idle_fits (wires ++ targets);
      loop_free = IsLoopFree-by_rank _ (λ (g : NamedGate). 0) (λ g h c d reads. absurd (idle_reads (wires ++ targets) h g.out d reads));
    })

-- the patch is checked
pub checked_lines : (prefix : List ℕ) (nodes : List Node) (lines : List Line) (targets base : List (List ℕ)) (roots : List Edge) → AreLineParts prefix nodes lines targets base roots → IsChecked (line_circuit prefix (edges_in nodes lines) lines targets base)
checked_lines prefix nodes lines targets base roots are =
    let room = are.room in
    let outs = outs_of prefix targets lines in
    let distinct = all_distinct prefix nodes lines targets base roots are in
    let ports = checked_ports targets base (wires_from prefix 1 (wire_count lines)) distinct in
    record {
      distinct = distinct;
      inputs = ports.inputs;
      outputs = ports.outputs;
      directed = ports.directed;
      driven_nets = λ g c.
          let gate = gate_line prefix nodes lines targets base g c in
          out_declared prefix nodes lines targets base roots are g.out (Contains_at outs gate.place g.out gate.out);
      read_nets = λ g c name reads.
          let read = read_at prefix nodes lines targets base roots are g name c reads in
          net_declared prefix nodes lines targets base roots are name (Contains_at (nets_in prefix targets base lines) read.net.place name read.net.net);
      arities = λ g c.
          let gate = gate_line prefix nodes lines targets base g c in
          let terms : length g.terms ≡ length gate.line.operands.items = ap length gate.terms ∙ length-map gate.line.operands.items (line_term (edges_in nodes lines) (nets_in prefix targets base lines)) in
          rw (gate.kind, terms) (are.lines_fit gate.place gate.line gate.at).fits;
      driven_once = subst (λ (l : List (List ℕ)). IsDistinct bytes_eq l) (sym (outs_are prefix nodes lines targets base))
          (distinct_back base outs (nets_distinct prefix nodes lines targets base roots are));
      inputs_free = λ name input driven.
          let gate = gate_line prefix nodes lines targets base driven.0 driven.1 in
          distinct_apart base outs (nets_distinct prefix nodes lines targets base roots are) name input
          (subst (λ (x : List ℕ). Contains outs x) driven.2 (Contains_at outs gate.place driven.0.out gate.out));
      undriven = λ name net free. absurd (free (settled prefix nodes lines targets base roots are name net));
      loop_free = loop_free_lines prefix nodes lines targets base roots are;
    }
