-- What rows of tuples say of a problem's patches.
use Rattle.std.proofs.Common.{◌≡◌, ℕ, Bool, List, [], ◌∷◌, Some, None, Option, option_map, slice_get, map, sym, ◌∙◌, ap, subst, arith}
use Rattle.std.specs.Prelude.{unwrap_or, IfSome}
use Rattle.std.specs.List.{All}
use Rattle.std.proofs.lemmas.Option.{slice_get-map, slice_get_within, same_Some}
use Rattle.std.proofs.lemmas.List.{length-map}
use Rattle.std.proofs.lemmas.List.Elements.{All-nil, All-cons, All-append}
use Rattle.eco_lists.proofs.Places.{item_at}
use Rattle.eco_meaning.specs.Circuit.{names, AreTargets}
use Rattle.eco_meaning.specs.Cost.{weight_of, AreTurns}
use Rattle.eco_meaning.specs.Patch.{OfTarget}
use Rattle.eco_netlist.specs.Netlists.{name_at, names_at}
use Rattle.eco_netlist.proofs.SoundNetlists.{sound_netlist}
use Rattle.eco_gates.specs.declared.gate.NetId.{NetId}
use Rattle.eco_query.specs.Problem.{ProblemValue, IsProblem}
use Rattle.eco_floor.specs.Sets.{IsFloor}
use Rattle.eco_clash.specs.Clashes.{IsClash}
use Rattle.eco_clash.specs.Costs.{AreWeights, IsClashRow}
use Rattle.eco_clash.proofs.FloorLaws.{rows_bound_patches}
use Rattle.eco_tuples.specs.Bounds.{AddsSome, IsTogether, weight_at}
use Rattle.eco_tuples.specs.Rows.{IsSteadyBeside}

-- the weights of nets are those of the signals that they are
pub weights_are : (problem : ProblemValue) (signals : List NetId) (weights : List ℕ) → weights ≡ map (weight_at problem) signals →
    AreWeights problem.implementation problem.weights problem.input_weight (names_at (names problem.implementation) signals) weights
weights_are problem signals weights are k weight name at weighs =
    let f = problem.implementation in
    let name_of = λ (net : NetId). name_at (names f) net.0 in
    let within = slice_get_within (names_at (names f) signals) k name at in
    let (net, here) = item_at signals k (omega (arith, within, length-map signals name_of)) in
    let same : name_of net ≡ name = same_Some (name_of net) name (sym (slice_get-map name_of signals k ∙ ap (option_map name_of) here) ∙ at) in
    ap (λ list. slice_get list k) are ∙ slice_get-map (weight_at problem) signals k ∙ ap (option_map (weight_at problem)) here
    ∙ ap (λ n. Some (unwrap_or (weight_of f problem.weights problem.input_weight n) 0)) same ∙ ap (λ w. Some (unwrap_or w 0)) weighs

-- a row of a tuple that clashes
pub row_is : (problem : ProblemValue) (signals : List (List ℕ)) (tuple : List (List Bool)) (row : List ℕ) →
    ((targets : List (List ℕ)) → AreTargets problem.implementation targets → IsClash problem.implementation problem.goal targets tuple) →
    IsSteadyBeside problem.implementation signals tuple row → IsClashRow problem.implementation problem.goal signals row
row_is problem signals tuple row clash steady targets are = record { tuple = tuple; clash = clash targets are; others = steady targets are }

-- what each set of columns with one of each row weighs, each patch costs
pub together : (problem : ProblemValue) (i : ℕ) (signals : List NetId) (weights : List ℕ) (rows : List (List ℕ)) (least : ℕ) → IsProblem problem.implementation problem.goal →
    OfTarget problem.implementation i (λ earlier target. AreTurns problem.implementation problem.weights problem.input_weight earlier [] (names_at (names problem.implementation) signals)) →
    weights ≡ map (weight_at problem) signals → All (IsClashRow problem.implementation problem.goal (names_at (names problem.implementation) signals)) rows → IsFloor rows weights least →
    IsTogether problem i least
together problem i signals weights rows least is turns weighed are_rows floor earlier target behind are count =
    let f = problem.implementation in
    rows_bound_patches f problem.goal problem.weights problem.input_weight earlier (names_at (names f) signals) weights rows least
    (sound_netlist f is.implementation) (λ care some name c. ((is.care care some).inputs name).1 c)
    (turns earlier target behind are count) (weights_are problem signals weights weighed) are_rows floor

-- one row more, where there is one
pub rows_more : (P : List ℕ → Type 0) (old new : List (List ℕ)) (row : Option (List ℕ)) → All P old → IfSome row P → AddsSome old new row → All P new
rows_more P old new None all is same = subst (All P) (sym same) all
rows_more P old new (Some row) all is same = subst (All P) (sym same) (All-append P old (row ∷ []) all (All-cons P row [] is (All-nil P)))
