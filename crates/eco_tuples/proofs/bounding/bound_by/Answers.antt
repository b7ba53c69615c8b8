-- The floor of the rows is what each patch costs at least.
use Rattle.std.proofs.Common.{◌≡◌, ℕ, List, map, subst}
use Rattle.eco_floor.specs.Sets.{IsFloor}
use Rattle.eco_meaning.specs.Circuit.{names}
use Rattle.eco_netlist.specs.Netlists.{names_at}
use Rattle.eco_clash.specs.Costs.{IsClashRow}
use Rattle.std.specs.List.{All}
use Rattle.eco_tuples.specs.Bounds.{weight_at}
use Rattle.eco_tuples.proofs.BoundLaws.{together}
use Rattle.eco_tuples.proofs.bounding.bound_by.Goals as goal

pub returns : goal.returns
returns g c =
    let problem = c.args.problem.now in
    let signals = c.in_ok-signals.signals.items in
    let rows = c.in_ok-rows.rows.items in
    let weights = c.in_ok-weights.weights.items in
    let least = c.in_ok-least.least in
    together problem c.args.i signals weights rows least c.implementation.ensures.problem c.in_ok-signals.ensures.turns
    (subst (λ nets. weights ≡ map (weight_at problem) nets) c.as_slice-2.ensures.value c.in_ok-weights.ensures)
    (subst (λ nets. All (IsClashRow problem.implementation problem.goal (names_at (names problem.implementation) nets)) rows) c.as_slice.ensures.value c.in_ok-rows.ensures)
    (subst (λ (list : List ℕ). IsFloor rows list least) c.as_slice-4.ensures.value
    (subst (λ (list : List (List ℕ)). IsFloor list c.as_slice-4.result.now least) c.as_slice-3.ensures.value c.in_ok-least.ensures))
