-- What holds of the patch of lines.
use Rattle.std.proofs.Common.{◌≡◌, ℕ, ◌+◌, ◌^◌, ◌<◌, inl, inr, List, ◌++◌, length, refl, sym, ◌∙◌, ap, subst}
use Rattle.std.specs.List.{All, Contains, IsDistinct}
use Rattle.std.specs.Prelude.{codes}
use Rattle.std.specs.Fmt.{decimal}
use Rattle.std.specs.Str.{bytes_eq}
use Rattle.std.proofs.lemmas.List.{length-map}
use Rattle.std.proofs.lemmas.List.Elements.{All-contains, Contains-append_left, Contains-append_cases}
use Rattle.eco_lists.proofs.Places.{All_at}
use Rattle.eco_meaning.specs.Circuit.{Circuit, NamedGate, names, IsSignal, IsTarget}
use Rattle.eco_aig.specs.declared.edge.Edge.{Edge}
use Rattle.eco_aig.specs.declared.node.Node.{Node}
use Rattle.eco_aig.specs.Graph.{IsGraph, inputs_of}
use Rattle.eco_netlist.specs.Netlists.{IsChecked}
use Rattle.eco_netlist.proofs.BehindLemmas.{targets_distinct}
use Rattle.eco_netlist.proofs.NameSets.{IsDistinct-append, distinct_front}
use Rattle.eco_text.specs.Prefix.{numbered}
use Rattle.eco_text.proofs.NumberedNames.{fresh_numbered}
use Rattle.eco_splice.specs.GraphPatch.{AreRooted}
use Rattle.eco_splice.specs.declared.line.Line.{Line}
use Rattle.eco_splice.specs.Lines.{IsLine}
use Rattle.eco_splice.specs.Written.{IsWrittenPatch}
use Rattle.eco_splice.specs.LineGates.{edges_in, wire_count, line_circuit, AreReady, IsLinePatch}
use Rattle.eco_splice.proofs.LineNets.{length-outs}
use Rattle.eco_splice.proofs.LineShape.{AreLineParts, gates_of, outs_are, checked_lines}
use Rattle.eco_splice.proofs.LineFits.{fits_first, reads_lines}
use Rattle.eco_splice.proofs.LineValues.{line_values}

-- what is known of a graph, of base signals, of lines and of their patch
pub record ArePatched (f : Circuit) (nodes : List Node) (roots : List Edge) (base : List (List ℕ)) (lines : List Line) (p : Circuit) : Type 0 where
  pub graph : IsGraph nodes
  pub nets : All (Contains (names f)) base
  pub distinct : IsDistinct bytes_eq base
  pub signals : All (IsSignal f) base
  pub inputs : length (inputs_of nodes) ≡ length base
  pub lines_fit : All (IsLine nodes) lines
  pub ready : AreReady nodes roots lines
  pub is : IsLinePatch f nodes (length roots) base lines p
  pub room : wire_count lines + 1 < 2 ^ 64

parts : (f : Circuit) (nodes : List Node) (roots : List Edge) (base : List (List ℕ)) (lines : List Line) (p : Circuit) → (are : ArePatched f nodes roots base lines p) → AreLineParts are.is.prefix nodes lines are.is.targets base roots
parts f nodes roots base lines p are =
    let is = are.is in
    let whole = targets_distinct f (is.targets ++ is.later) is.first in
    let free : (name : List ℕ) → Contains is.targets name → IsTarget f name = λ name c. All-contains (IsTarget f) (is.targets ++ is.later) name is.first.sound (Contains-append_left is.targets is.later name c) in
    record {
      graph = are.graph;
      lines_fit = λ k line at. All_at (IsLine nodes) lines k line are.lines_fit at;
      inputs = are.inputs;
      count = is.enough;
      distinct = IsDistinct-append is.targets base (distinct_front is.targets is.later whole) are.distinct (λ name target signal. (free name target).free (All-contains (IsSignal f) base name are.signals signal));
      own = λ number c. elim (Contains-append_cases is.targets base (numbered is.prefix number) c) [
        | inl target ↦ fresh_numbered (codes "eco") (names f) is.prefix is.fresh (decimal number) (free (numbered is.prefix number) target).net
        | inr signal ↦ fresh_numbered (codes "eco") (names f) is.prefix is.fresh (decimal number) (All-contains (Contains (names f)) base (numbered is.prefix number) are.nets signal)
      ];
      room = are.room;
      ready = are.ready;
    }

-- the draft spells out a checked netlist
pub patch_checked : (f : Circuit) (nodes : List Node) (roots : List Edge) (base : List (List ℕ)) (lines : List Line) (p : Circuit) → ArePatched f nodes roots base lines p → IsChecked p
patch_checked f nodes roots base lines p are =
    let is = are.is in
    subst IsChecked (sym is.made) (checked_lines is.prefix nodes lines is.targets base roots (parts f nodes roots base lines p are))

-- there is a gate for each line
gate_count : (prefix : List ℕ) (nodes : List Node) (lines : List Line) (targets base : List (List ℕ)) → length (gates_of prefix nodes lines targets base) ≡ length lines
gate_count prefix nodes lines targets base =
    sym (length-map (gates_of prefix nodes lines targets base) (λ (g : NamedGate). g.out))
    ∙ ap length (outs_are prefix nodes lines targets base)
    ∙ length-outs prefix targets 1 lines

-- the netlist is the patch that is promised
pub patch_written : (f : Circuit) (nodes : List Node) (roots : List Edge) (base : List (List ℕ)) (lines : List Line) (p : Circuit) → ArePatched f nodes roots base lines p → AreRooted f nodes roots base → IsWrittenPatch f nodes roots base (length lines) p
patch_written f nodes roots base lines p are rooted =
    let is = are.is in
    let own = parts f nodes roots base lines p are in
    let whole : IsWrittenPatch f nodes roots base (length lines) (line_circuit is.prefix (edges_in nodes lines) lines is.targets base) = record {
      checked = checked_lines is.prefix nodes lines is.targets base roots own;
      title = refl;
      fits = fits_first f is.prefix nodes lines is.targets is.later base roots is.fresh are.signals own is.first rooted;
      ports = refl;
      inputs = refl;
      values = λ u w valuation consistent inputs. line_values is.prefix nodes lines is.targets base roots u w (record { parts = own; valuation = valuation; consistent = consistent; inputs = inputs });
      reads = reads_lines is.prefix nodes lines is.targets base roots own;
      gates = gate_count is.prefix nodes lines is.targets base;
    } in
    subst (λ (n : Circuit). IsWrittenPatch f nodes roots base (length lines) n) (sym is.made) whole
