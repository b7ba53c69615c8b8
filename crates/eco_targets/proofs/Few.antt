-- A patch reads at most as many signals as the implementation has nets.
use Rattle.std.proofs.Common.{◌≡◌, ℕ, ◌≤◌, List, length, ◌∙◌, ap, arith}
use Rattle.std.specs.List.{All, Contains}
use Rattle.std.proofs.lemmas.List.{length-map}
use Rattle.std.proofs.lemmas.List.Elements.{All-contains}
use Rattle.std.proofs.lemmas.Map.Made.{IsDistinct-from_AllPairs, length-le_from_is_member}
use Rattle.std.proofs.lemmas.Slice.Eq.{bytes_eq-Decides}
use Rattle.eco_lists.proofs.Names.{bytes_eq_equiv}
use Rattle.eco_meaning.specs.Circuit.{names}
use Rattle.eco_meaning.specs.Report.{BaseSignal, base_in, signals_in}
use Rattle.eco_netlist.specs.Netlists.{names_at}
use Rattle.eco_netlist.proofs.NameSets.{Contains-from_has, has-from_Contains}
use Rattle.eco_netlist.proofs.NetNames.{All-names_at}
use Rattle.eco_query.specs.Problem.{ProblemValue}
use Rattle.eco_pose.specs.Questions.{AreDistinct}
use Rattle.eco_progress.specs.declared.progress.Progress.{Progress}
use Rattle.eco_progress.specs.Progress.{IsProgress}

-- distinct members of a list are no more than the list has
few_names : (list all : List (List ℕ)) → AreDistinct list → All (Contains all) list → length list ≤ length all
few_names list all distinct within =
    length-le_from_is_member bytes_eq_equiv list all (IsDistinct-from_AllPairs bytes_eq-Decides list distinct)
    (λ name member. has-from_Contains all name (All-contains (Contains all) list name within (Contains-from_has list name member)))

pub few_signals : (problem : ProblemValue) (progress : Progress) → IsProgress problem progress → length (base_in progress.groups.items) ≤ length (names problem.implementation)
few_signals problem progress is =
    let list = names problem.implementation in
    let named = names_at list progress.functions.base in
    let told : length (signals_in progress.groups.items) ≡ length named = ap length (is.groups.signals ∙ is.patch.inputs) in
    let count : length (signals_in progress.groups.items) ≡ length (base_in progress.groups.items) =
    length-map (base_in progress.groups.items) (λ (b : BaseSignal). b.signal) in
    let few = few_names named list is.distinct (All-names_at list progress.functions.base is.nets) in
    omega (arith, told, count, few)
