use Rattle.std.proofs.Common.{◌≡◌, ℕ, ◌<◌, Some, length}
use Rattle.std.specs.List.{slice_get}
use Rattle.eco_aig.specs.declared.edge.Edge.{Edge}
use Rattle.eco_splice.specs.Marking.{place_at}
use Rattle.eco_splice.proofs.nets.number.Given as goal

abbrev pub invariant-loop-place : goal.invariant-loop-place
invariant-loop-place l = record {
  plain : length l.plain.items ≡ length l.fn.plain.items;
  complemented : length l.complemented.items ≡ length l.fn.plain.items;
  places : (i : ℕ) (e : Edge) → i < l.place → slice_get l.edges i ≡ Some e → place_at l.plain.items l.complemented.items e ≡ i;
}
