-- No target has a function yet.
use Rattle.std.proofs.Common.{◌≡◌, ◌<◌, ℕ, Some, List, [], length, take, sym, ◌∙◌, ap, subst, arith}
use Rattle.std.specs.List.{slice_get}
use Rattle.std.proofs.lemmas.List.Elements.{All-nil}
use Rattle.std.proofs.lemmas.Option.{none-some}
use Rattle.eco_meaning.specs.Circuit.{Circuit, names, AreTargets}
use Rattle.eco_meaning.specs.Meaning.{IsRectifiable}
use Rattle.eco_meaning.specs.Cost.{weight_of}
use Rattle.eco_meaning.specs.Choice.{IsKept}
use Rattle.eco_meaning.specs.Report.{BaseSignal}
use Rattle.eco_laws.proofs.Keeping.{kept_is_rectifiable}
use Rattle.eco_laws.proofs.Reaching.{no_gates_take}
use Rattle.eco_gates.specs.declared.gate.NetId.{NetId}
use Rattle.eco_netlist.specs.Netlists.{AreNets, names_at}
use Rattle.eco_query.specs.Problem.{ProblemValue, HasSomeTargets}
use Rattle.eco_pose.specs.Questions.{AreDistinct}
use Rattle.eco_splice.specs.GraphPatch.{HasTargets}
use Rattle.eco_functions.specs.Functions.{FunctionsValue, ReadEarlier}
use Rattle.eco_functions.specs.Standing.{IsPatchWith}
use Rattle.eco_progress.specs.declared.progress.Progress.{Progress}
use Rattle.eco_progress.specs.Progress.{AreGroupsOf, HaveCounts, IsProgress}
use Rattle.eco_progress.proofs.GroupLaws.{no_group}

-- no signals may be read
pub no_nets : (list : List (List ℕ)) (nets : List NetId) → nets ≡ [] → AreNets list nets
no_nets list nets none = subst (AreNets list) (sym none) (All-nil (λ (net : NetId). net.0 < length list))

pub none_distinct : (list : List (List ℕ)) (nets : List NetId) → nets ≡ [] → AreDistinct (names_at list nets)
none_distinct list nets none = subst (λ l. AreDistinct (names_at list l)) (sym none) (λ i j d less within. absurd (omega (arith, less, within)))

pub none_read : (f : Circuit) (functions : FunctionsValue) → functions.base ≡ [] → ReadEarlier f functions
none_read f functions none targets are k count place name at_count within at =
    absurd (none-some name (sym (ap (λ l. slice_get (names_at (names f) l) place) none) ∙ at))

pub no_targets : (f : Circuit) (count : ℕ) → HasSomeTargets f → count ≡ 0 → HasTargets f count
no_targets f count some none = (some.counted.0, some.counted.1, omega (arith, none))

-- no targets have no groups
no_groups : (problem : ProblemValue) (p : Circuit) → p.outputs ≡ [] → p.inputs ≡ [] → AreGroupsOf problem p []
no_groups problem p outputs inputs = record {
  targets = sym outputs;
  signals = sym inputs;
  candidates = λ before group behind same. absurd (no_group before group behind same);
  weights = All-nil (λ (b : BaseSignal). weight_of problem.implementation problem.weights problem.input_weight b.signal ≡ Some b.weight);
  needed = λ before group behind same. absurd (no_group before group behind same);
}

-- the functions of no target stand in a patch without gates
pub begun : (problem : ProblemValue) (progress : Progress) (targets : List (List ℕ)) → AreTargets problem.implementation targets → IsRectifiable problem.implementation problem.goal →
    progress.functions.base ≡ [] → progress.functions.roots ≡ [] → IsPatchWith problem.implementation progress.functions progress.patch → progress.groups.items ≡ [] → IsProgress problem progress
begun problem progress targets are rectifiable base roots patch groups =
    let f = problem.implementation in
    let p = progress.patch in
    let list = names f in
    let outputs : p.outputs ≡ [] = (patch.fits targets are).0 ∙ ap (λ n. take n targets) (ap length roots) in
    let inputs : p.inputs ≡ [] = patch.inputs ∙ ap (names_at list) base in
    record {
      nets = no_nets list progress.functions.base base;
      distinct = none_distinct list progress.functions.base base;
      patch = patch;
      kept = subst (IsKept f problem.goal p) (sym outputs) ((kept_is_rectifiable f problem.goal p (no_gates_take p (patch.empty roots))).1 rectifiable);
      groups = subst (AreGroupsOf problem p) (sym groups) (no_groups problem p outputs inputs);
      counts = subst (λ l. HaveCounts l progress.functions.counts) (sym groups) (λ before group behind same. absurd (no_group before group behind same));
    }
