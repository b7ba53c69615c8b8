-- The inputs so far have their literals.
use Rattle.std.proofs.Common.{◌≡◌, ℕ, List, length, map, take}
use Rattle.eco_meaning.specs.Circuit.{names}
use Rattle.eco_trace.specs.declared.clause.Lit.{Lit}
use Rattle.eco_equality.specs.Numbers.{given_literal}
use Rattle.eco_equality.proofs.numbering.given_literals.Given as goal

abbrev pub invariant-loop-place : goal.invariant-loop-place
invariant-loop-place l = record {
  len : length l.given.items ≡ length (names l.netlist);
  marks : (shared : List ℕ → Lit) → l.inputs ≡ map shared l.netlist.inputs → l.given.items ≡ map (given_literal shared (take l.place l.netlist.inputs)) (names l.netlist);
}
