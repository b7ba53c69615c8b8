-- A bound is asked for where there is one target, and goes into the report of what was made.
use Rattle.std.proofs.Common.{◌≡◌, inl, inr, ℕ, zero, suc, ◌≤◌, true, List, [], ◌∷◌, length, Some, sym, ◌∙◌, subst, refl, arith}
use Rattle.std.specs.Prelude.{slice_get}
use Rattle.std.proofs.lemmas.Bool.{false≢true}
use Rattle.std.proofs.lemmas.List.{length-map}
use Rattle.std.proofs.lemmas.List.Elements.{All-weaker}
use Rattle.eco_meaning.specs.Bound.{Bound}
use Rattle.eco_meaning.specs.Choice.{IsNeeded}
use Rattle.eco_meaning.specs.Circuit.{Circuit, AreTargets}
use Rattle.eco_meaning.specs.Report.{BaseSignal, TargetGroup, PatchReport, signals_in, targets_in, targets_of, Meets}
use Rattle.eco_netlist.specs.Netlists.{IsChecked}
use Rattle.eco_netlist.proofs.SoundNetlists.{sound_netlist}
use Rattle.eco_laws.specs.Kept.{TakesAnyInputs}
use Rattle.eco_laws.proofs.Reaching.{takes_any_inputs}
use Rattle.eco_query.specs.Problem.{HasTargets, HasSomeTargets, ProblemValue}
use Rattle.eco_bound.specs.Lower.{AreForcedPairs, IsForcedPair, IsLowerBound}
use Rattle.eco_words.specs.CommandLine.{SynthOptions}
use Rattle.eco_cli.specs.Synth.{CanBound, IsChosenFor, IsMadeFor}
use Rattle.eco_inputs.proofs.PairLaws.{one_count}

two_at_least : (count : ℕ) → 1 ≤ count → (count ≡ 1 → ⊥) → 2 ≤ count
two_at_least zero least other = absurd (omega arith)
two_at_least (suc zero) least other = absurd (other refl)
two_at_least (suc (suc count)) least other = omega arith

-- a problem whose number of targets isn't one has several
pub several_targets : (f : Circuit) (count : ℕ) → HasTargets f count → HasSomeTargets f → (count ≡ 1 → ⊥) → 2 ≤ count
several_targets f count counted some other =
    two_at_least count (subst (λ n. 1 ≤ n) (sym (one_count f count some.count counted some.counted)) some.some) other

-- where a bound is asked for, there is one target
pub one_target : (options : SynthOptions) (problem : ProblemValue) → CanBound options problem → options.bound ≡ true → HasTargets problem.implementation 1
one_target options problem (inl unasked) asked = absurd (false≢true (sym unasked ∙ asked))
one_target options problem (inr single) asked = single

-- ---- the pairs of the report

-- there is one group for each target
pub group_count : (problem : ProblemValue) (p out : Circuit) (r : PatchReport) → Meets problem.implementation problem.goal problem.weights problem.input_weight p out r → HasTargets problem.implementation 1 → length r.groups ≡ 1
group_count problem p out r meets single =
    sym (length-map r.groups (λ (g : TargetGroup). g.target))
    ∙ one_count problem.implementation (length (targets_of r)) 1 (targets_of r, meets.reported.targets, refl) single

one_group : (groups : List TargetGroup) (group : TargetGroup) → slice_get groups 0 ≡ Some group → length groups ≡ 1 → groups ≡ group ∷ []
one_group [] group at count = absurd (omega arith)
one_group (first ∷ []) group at count = cc
one_group (first ∷ (second ∷ more)) group at count = absurd (omega arith)

-- its pairs force the single target
pub forced_pairs : (problem : ProblemValue) (p out : Circuit) (r : PatchReport) (group : TargetGroup) → TakesAnyInputs p → Meets problem.implementation problem.goal problem.weights problem.input_weight p out r → HasTargets problem.implementation 1 → slice_get r.groups 0 ≡ Some group → AreForcedPairs problem group.base
forced_pairs problem p out r group takes meets single at =
    let groups : r.groups ≡ group ∷ [] = one_group r.groups group at (group_count problem p out r meets single) in
    record {
      p = p;
      takes = takes;
      target = group.target;
      single = subst (λ (list : List TargetGroup). AreTargets problem.implementation (targets_in list)) groups meets.reported.targets;
      forced = All-weaker
          (λ (b : BaseSignal). IsNeeded problem.implementation problem.goal p [] group.target (signals_in (group ∷ [])) b.signal b.force1 b.force0)
          (IsForcedPair problem p group.target) (λ b needed. record { one = needed.one; zero = needed.zero }) group.base
          (meets.needed [] group [] groups);
    }

-- ---- the report with the bound

-- a checked netlist takes any inputs
pub checked_takes : (p : Circuit) → IsChecked p → TakesAnyInputs p
checked_takes p checked = takes_any_inputs p (sound_netlist p checked)

-- what was chosen, with the bound in its report
pub made_with : (options : SynthOptions) (problem : ProblemValue) (p out : Circuit) (r : PatchReport) (bound : Bound) → IsChosenFor options problem p out r → options.bound ≡ true → IsLowerBound problem p bound → IsMadeFor options problem (record { patch = p; out = out; report = record { cost = r.cost; gates = r.gates; groups = r.groups; bound = Some bound; least = r.least } })
made_with options problem p out r bound chosen asked least =
    let meets = chosen.meets in
    record {
      rectifiable = chosen.rectifiable;
      meets = record {
        patched = meets.patched;
        reported = record {
          targets = meets.reported.targets;
          outputs = meets.reported.outputs;
          inputs = meets.reported.inputs;
          ports = meets.reported.ports;
          candidates = meets.reported.candidates;
          weights = meets.reported.weights;
          cost = meets.reported.cost;
          gates = meets.reported.gates;
        };
        needed = meets.needed;
        bound = (least.target, least.is_bound);
      };
      thrifty = record {
        read = chosen.thrifty.read;
        greedy = chosen.thrifty.greedy;
        untold = chosen.thrifty.untold;
        least = λ effort is.
            let told = chosen.thrifty.least effort is in
            record { count = told.count; told = told.told };
      };
      bound = record { unasked = λ unasked. absurd (false≢true (sym unasked ∙ asked)); asked = λ _. (bound, refl, least) };
      closed = chosen.closed;
    }
