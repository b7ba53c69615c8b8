-- What merging does to the size of a patch.
use Rattle.std.specs.Prelude.{◌≤◌, ◌++◌, ◌∷◌, [], ℕ, List, length}
use Rattle.eco_meaning.specs.Circuit.{Circuit, names}
use Rattle.eco_gates.specs.declared.gate.NetId.{NetId}
use Rattle.eco_netlist.specs.Netlists.{names_at}
use Rattle.eco_trace.specs.declared.clause.Var.{Var}
use Rattle.eco_trace.specs.Split.{Split}
use Rattle.eco_splice.specs.GraphPatch.{IsGraphPatch}
use Rattle.eco_functions.specs.Functions.{FunctionsValue, AreFunctions, HasOneMore}
use Rattle.eco_functions.specs.Merged.{ReachNoMore}
use Rattle.eco_functions.specs.Standing.{IsPatchWith}

-- the patch of the functions with one more target has at most as many gates as the patch that is written of the older roots and
-- the new one as they were before the merging
abbrev pub MergingAddsNoGate : Type 0
MergingAddsNoGate =
    (old : FunctionsValue) (more : List NetId) (split : Split) (shared : List Var) (most : ℕ) (new : FunctionsValue) →
    AreFunctions new → HasOneMore old more new → (merging : ReachNoMore old more split shared most new) →
    (f p q : Circuit) → IsGraphPatch f merging.nodes (old.roots ++ merging.root ∷ []) (names_at (names f) new.base) p →
    IsPatchWith f new q → length q.gates ≤ length p.gates
