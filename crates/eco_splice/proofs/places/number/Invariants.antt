use Rattle.std.proofs.Common.{◌≡◌, ◌+◌, ◌<◌, length, drop}
use Rattle.eco_aig.specs.declared.edge.Edge.{Edge}
use Rattle.eco_splice.specs.Marking.{place_at}
use Rattle.eco_splice.specs.LineGates.{first_place}
use Rattle.eco_splice.proofs.places.number.Given as goal

abbrev pub invariant-loop-place : goal.invariant-loop-place
invariant-loop-place l = record {
  plain : length l.plain.items ≡ length l.fn.plain.items;
  complemented : length l.complemented.items ≡ length l.fn.plain.items;
  first : (e : Edge) → e.node < length l.fn.plain.items →
      place_at l.plain.items l.complemented.items e ≡ l.place + first_place (drop l.place l.edges) e;
}
