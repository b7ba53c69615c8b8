-- Gates by lines: their nets, what they read, and the patch that they make.
use Rattle.std.specs.Prelude.{◌≡◌, ◌⊎◌, ℕ, ◌+◌, ◌<◌, ◌==◌, List, [], ◌∷◌, ◌++◌, Option, None, Some, map, length, codes, All, Contains, slice_get, if◌then◌else◌}
use Rattle.std.specs.List.{position_or_len, zip}
use Rattle.eco_meaning.specs.declared.name.Operand.{Operand}
use Rattle.eco_meaning.specs.declared.name.Operand.TheVariants as operand
use Rattle.eco_meaning.specs.Circuit.{Circuit, NamedGate, names, AreTargets}
use Rattle.eco_netlist.specs.Netlists.{name_at}
use Rattle.eco_text.specs.Prefix.{IsFreshPrefix, numbered}
use Rattle.eco_aig.specs.declared.edge.Edge.{Edge}
use Rattle.eco_aig.specs.declared.node.Node.{Node}
use Rattle.eco_aig.specs.Edges.{plain}
use Rattle.eco_aig.specs.Graph.{IsEdge, inputs_of}
use Rattle.eco_aig.specs.Reached.{IsReached}
use Rattle.eco_splice.specs.GraphPatch.{same_edge, netted, net_of, wires_from}
use Rattle.eco_splice.specs.declared.line.Line.{Line}

-- the edges that have a net, in order: those to the inputs, then those of the lines
abbrev pub edges_in : List Node → List Line → List Edge
edges_in nodes lines = netted nodes (map (λ line. line.edge) lines)

-- the first place of an edge among these, or their number
abbrev pub first_place : List Edge → Edge → ℕ
first_place edges e = position_or_len (same_edge e) edges

-- a line that drives no target has one wire
abbrev pub own_wires : Option ℕ → ℕ
own_wires None = 1
own_wires (Some target) = 0

-- how many wires the lines have
abbrev pub wire_count : List Line → ℕ
wire_count [] = 0
wire_count (line ∷ lines) = own_wires line.target + wire_count lines

-- the net of a line: its target, or the wire of this number
abbrev pub out_name : List ℕ → List (List ℕ) → ℕ → Option ℕ → List ℕ
out_name prefix targets number None = numbered prefix number
out_name prefix targets number (Some target) = name_at targets target

-- the nets of the lines, where their wires have the numbers from the first one on
abbrev pub outs_from : List ℕ → List (List ℕ) → ℕ → List Line → List (List ℕ)
outs_from prefix targets first [] = []
outs_from prefix targets first (line ∷ lines) =
    out_name prefix targets first line.target ∷ outs_from prefix targets (first + own_wires line.target) lines

-- the nets of the edges, in order: the base signals, then those of the lines
abbrev pub nets_in : List ℕ → List (List ℕ) → List (List ℕ) → List Line → List (List ℕ)
nets_in prefix targets base lines = base ++ outs_from prefix targets 1 lines

-- what a gate reads for an operand: a constant, or the net that the edge has first
abbrev pub line_term : List Edge → List (List ℕ) → Edge → Operand
line_term edges nets e =
    if e.node == 0 then (if e.complemented then operand.One else operand.Zero) else operand.Named (net_of edges nets e)

-- the gate of a line that drives this net
abbrev pub line_gate : List Edge → List (List ℕ) → Line → List ℕ → NamedGate
line_gate edges nets line out = record {
  kind = line.kind;
  out = out;
  terms = map (line_term edges nets) line.operands.items;
}

-- the gates of lines that drive these nets
abbrev pub line_gates : List Edge → List (List ℕ) → List Line → List (List ℕ) → List NamedGate
line_gates edges nets lines outs = map (λ p. line_gate edges nets p.0 p.1) (zip lines outs)

-- the patch of the lines, where these edges have nets
abbrev pub line_circuit : List ℕ → List Edge → List Line → List (List ℕ) → List (List ℕ) → Circuit
line_circuit prefix edges lines targets base = record {
  title = codes "patch";
  ports = targets ++ base;
  inputs = base;
  outputs = targets;
  wires = wires_from prefix 1 (wire_count lines);
  gates = line_gates edges (nets_in prefix targets base lines) lines (outs_from prefix targets 1 lines);
}

-- the edge is a constant, or has a place before this one
abbrev pub StandsBefore : List Edge → ℕ → Edge → Type 0
StandsBefore edges place e = (e.node ≡ 0) ⊎ (first_place edges e < place)

-- what a line reads is constant, or has a net before that of the line
abbrev pub ReadEarlier : List Edge → ℕ → List Line → Type 0
ReadEarlier edges inputs lines =
    (k : ℕ) (line : Line) → slice_get lines k ≡ Some line → All (StandsBefore edges (inputs + k)) line.operands.items

-- each root is the edge of just one line that drives the target of its number, and no line drives another target
pub record DriveTargets (roots : List Edge) (lines : List Line) : Type 0 where
  pub own : (k : ℕ) (line : Line) (i : ℕ) → slice_get lines k ≡ Some line → line.target ≡ Some i → slice_get roots i ≡ Some line.edge
  pub once : (k j : ℕ) (line other : Line) (i : ℕ) → slice_get lines k ≡ Some line → slice_get lines j ≡ Some other →
      line.target ≡ Some i → other.target ≡ Some i → k ≡ j
  pub all : (i : ℕ) → i < length roots → (k : ℕ) × (line : Line) × (slice_get lines k ≡ Some line) × (line.target ≡ Some i)

-- each input that a root reaches is an operand of some line
abbrev pub ReadInputs : List Node → List Edge → List Line → Type 0
ReadInputs nodes roots lines =
    (node : ℕ) → Contains (inputs_of nodes) node → IsReached nodes roots node →
    (line : Line) × Contains lines line × Contains line.operands.items (plain node)

-- the lines, whose edges are of the graph, make a patch of these roots
pub record AreReady (nodes : List Node) (roots : List Edge) (lines : List Line) : Type 0 where
  pub within : All (λ line. IsEdge nodes line.edge) lines
  pub earlier : ReadEarlier (edges_in nodes lines) (length (inputs_of nodes)) lines
  pub drive : DriveTargets roots lines
  pub inputs : ReadInputs nodes roots lines

-- the patch of these lines for f's first targets, over these base signals
pub record IsLinePatch (f : Circuit) (nodes : List Node) (count : ℕ) (base : List (List ℕ)) (lines : List Line) (p : Circuit) : Type 0 where
  pub prefix : List ℕ
  pub targets : List (List ℕ)
  pub later : List (List ℕ)
  pub fresh : IsFreshPrefix (codes "eco") (names f) prefix
  pub enough : length targets ≡ count
  pub first : AreTargets f (targets ++ later)
  pub made : p ≡ line_circuit prefix (edges_in nodes lines) lines targets base
