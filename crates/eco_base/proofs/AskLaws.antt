-- What the answers of questions say at a scene.
use Rattle.std.proofs.Common.{◌≡◌, ◌↔◌, ℕ, zero, suc, ◌+◌, ◌≤◌, Bool, true, false, not, Option, None, Some, List, [], ◌∷◌, ◌++◌, length, take, drop, refl, sym, ◌∙◌, ap, subst, arith}
use Rattle.std.specs.List.{Contains}
use Rattle.std.specs.Prelude.{IsTrue}
use Rattle.std.proofs.lemmas.List.{length-append}
use Rattle.std.proofs.lemmas.List.Elements.{All-weaker}
use Rattle.std.proofs.Math.Seq.{drop-append_seam, take-append_seam}
use Rattle.eco_meaning.specs.Circuit.{Circuit, names, IsSignal, AreTargets}
use Rattle.eco_meaning.specs.Patch.{IsBehindOnly}
use Rattle.eco_meaning.specs.Cost.{IsCandidate}
use Rattle.eco_meaning.specs.Meaning.{Goal}
use Rattle.eco_gates.specs.declared.gate.NetId.{NetId}
use Rattle.eco_netlist.specs.Netlists.{AreNets, name_at, names_at}
use Rattle.eco_netlist.proofs.MisfitLemmas.{targets_unique}
use Rattle.eco_laws.specs.Asked.{IsForcedAmong, IsFixed, IsUnfixed}
use Rattle.eco_laws.proofs.AskedLemmas.{separated_is_conflict, fixed_rest_is_new, fixed_rest_fits}
use Rattle.eco_trace.specs.Clauses.{Clauses, Valuation, Satisfies, IsUnsatisfiable, valuation_of, read}
use Rattle.eco_trace.specs.Resolution.{Proof, EndsEmpty}
use Rattle.eco_trace.specs.Verdicts.{IsModel, IsRefutation}
use Rattle.eco_pose.specs.Posing.{PosedValue}
use Rattle.eco_pose.specs.Questions.{IsAskable, IsOfProblem}
use Rattle.eco_pose.specs.Answers.{AsksFor}
use Rattle.eco_query.specs.Problem.{ProblemValue}
use Rattle.eco_pose.specs.declared.asking.Asked.{Asked}
use Rattle.eco_pose.specs.declared.asking.Asked.TheVariants.{Found}
use Rattle.eco_pose.specs.Stuck.{IsPosed, IsAnswered, NoneCompared}
use Rattle.eco_pose.specs.declared.question.Question.TheVariants.{Separate, Fix}
use Rattle.eco_base.specs.declared.stage.Stage.{Stage}
use Rattle.eco_base.specs.declared.separating.Pair.{Pair}
use Rattle.eco_base.specs.Scenes.{Scene, AtScene, IsScene, IsStage, IsUnhelped, IsHelpedBy, IsSeparatedHere, IsConflictHere, AreValuesHere, scene_of}
use Rattle.eco_base.specs.Asking.{AreReadableHere, AreRests, IsFurther, IsRestBehind, IsRefuted, IsJudged, IsPairRead, IsNewRest, names_here}
use Rattle.eco_base.proofs.SceneLaws.{targets_at}

-- refuted clauses have no model
pub no_model : (result : Bool) (c : Clauses) (p : Proof) → IsRefutation c p → IsTrue result ↔ EndsEmpty p → (IsTrue result → IsUnsatisfiable p.originals) → (v : Valuation) → Satisfies v c.clauses → ⊥
no_model result c p refuted ends refutes v sat =
    refutes (ends.1 refuted.ends) v (subst (Satisfies v) (sym refuted.originals) sat)

-- so no values of the targets are right
pub none_fixed : (f : Circuit) (goal : Goal) (targets : List (List ℕ)) (fixed x : List Bool) (posed : PosedValue) → AsksFor (IsFixed f goal targets fixed x) posed.targets posed.clauses.clauses →
    ((v : Valuation) → Satisfies v posed.clauses.clauses → ⊥) → IsUnfixed f goal targets fixed x
none_fixed f goal targets fixed x posed asks none bits found =
    let (v, sat, same) = asks.answers bits found in
    none v sat

-- what the model is read as begins with the fixed values
pub model_begins : (stage : Stage) (fixed x : List Bool) (posed : PosedValue) (model : List Bool) → IsStage stage → IsPosed stage.problem.now (Fix x fixed) posed → IsModel posed.clauses model →
    (rest : List Bool) × (read (valuation_of model) posed.targets ≡ fixed ++ rest)
model_begins stage fixed x posed model is posed_is model_is =
    let (before, target, behind, are, len) = targets_at stage is in
    let found = (posed_is.asks (before ++ target ∷ behind) are).models (valuation_of model) model_is.satisfies in
    (found.rest, found.begins)

-- and goes on with what stands behind them
pub model_rest : (stage : Stage) (fixed x : List Bool) (posed : PosedValue) (model rest : List Bool) (count : ℕ) → IsPosed stage.problem.now (Fix x fixed) posed → IsModel posed.clauses model → count ≡ length fixed →
    rest ≡ drop count (read (valuation_of model) posed.targets) → IsRestBehind stage x fixed (Some rest)
model_rest stage fixed x posed model rest count posed_is model_is long same targets are =
    let bits = read (valuation_of model) posed.targets in
    let found = (posed_is.asks targets are).models (valuation_of model) model_is.satisfies in
    (bits, found, sym (same ∙ ap (λ n. drop n bits) long ∙ ap (drop (length fixed)) found.begins ∙ drop-append_seam fixed found.rest))

-- the targets before this one are as many as its number
pub targets_before : (stage : Stage) (nets : List NetId) (before : List (List ℕ)) (target : List ℕ) (behind : List (List ℕ)) → AreTargets stage.problem.now.implementation (names_here stage nets) →
    AreTargets stage.problem.now.implementation (before ++ target ∷ behind) → names_here stage nets ≡ before ++ target ∷ behind
targets_before stage nets before target behind are_nets are =
    targets_unique stage.problem.now.implementation (names_here stage nets) (before ++ target ∷ behind) are_nets are

-- there are more targets than its number
pub more_targets : (stage : Stage) (targets : List (List ℕ)) → IsStage stage → AreTargets stage.problem.now.implementation targets → stage.number + 1 ≤ length targets
more_targets stage targets is are_these =
    let (before, target, behind, are, len) = targets_at stage is in
    let same = targets_unique stage.problem.now.implementation targets (before ++ target ∷ behind) are_these are in
    omega (arith, ap length same, length-append before (target ∷ behind), len)

-- the first of them are those before this one
first_names : (list : List (List ℕ)) (nets : List NetId) (k : ℕ) → names_at list (take k nets) ≡ take k (names_at list nets)
first_names list [] zero = refl
first_names list [] (suc k) = refl
first_names list (net ∷ nets) zero = refl
first_names list (net ∷ nets) (suc k) = ap (λ rest. name_at list net.0 ∷ rest) (first_names list nets k)

pub before_are : (stage : Stage) (nets : List NetId) (before : List (List ℕ)) (target : List ℕ) (behind : List (List ℕ)) → AreTargets stage.problem.now.implementation (names_here stage nets) →
    AreTargets stage.problem.now.implementation (before ++ target ∷ behind) → length before ≡ stage.number → names_here stage (take stage.number nets) ≡ before
before_are stage nets before target behind are_nets are len =
    let list = names stage.problem.now.implementation in
    first_names list nets stage.number ∙ ap (take stage.number) (targets_before stage nets before target behind are_nets are)
    ∙ ap (λ k. take k (before ++ target ∷ behind)) (sym len) ∙ take-append_seam before (target ∷ behind)

-- what is found behind the earlier targets' values and the other bit
pub rest_is_further : (stage : Stage) (x values fixed : List Bool) (bit : Bool) (r : Option (List Bool)) → fixed ≡ values ++ not bit ∷ [] → AtScene stage (λ s. AreValuesHere s s.before x values) →
    IsRestBehind stage x fixed r → IsFurther stage x bit r
rest_is_further stage x values fixed bit None same are none = λ before target behind all len. record {
  values = values;
  are = are before target behind all len;
  unfixed = subst (λ list. IsUnfixed stage.problem.now.implementation stage.problem.now.goal (before ++ target ∷ behind) list x) same (none (before ++ target ∷ behind) all);
}
rest_is_further stage x values fixed bit (Some rest) same are some = λ before target behind all len.
    let f = stage.problem.now.implementation in
    let goal = stage.problem.now.goal in
    let found = subst (λ list. (bits : List Bool) × (found : IsFixed f goal (before ++ target ∷ behind) list x bits) × (found.rest ≡ rest)) same (some (before ++ target ∷ behind) all) in
    record { values = values; are = are before target behind all len; bits = found.0; fixed = found.1; is = found.2 }

-- what helps at an input that forces the bit among the rests isn't listed
pub new_rest : (s : Scene) (rests : List (List Bool)) (x : List Bool) (bit : Bool) (rest : List Bool) → IsScene s →
    IsForcedAmong s.problem.implementation s.problem.goal s.patches s.before s.target s.behind rests x bit → IsHelpedBy s x bit rest → IsNewRest s rests rest
new_rest s rests x bit rest scene among helped = record {
  len = sym (ap length helped.is) ∙ fixed_rest_fits s.problem.implementation s.problem.goal s.patches s.before s.target s.behind x bit helped.values helped.bits helped.are helped.fixed;
  absent = λ listed. fixed_rest_is_new s.problem.implementation s.problem.goal s.patches s.before s.target s.behind rests x bit helped.values helped.bits scene.patch among helped.are helped.fixed
      (subst (Contains rests) (sym helped.is) listed);
}

-- two separated inputs at which nothing helps are a conflict
true_conflict : (s : Scene) (rests : List (List Bool)) (base : List (List ℕ)) (x y : List Bool) → IsSeparatedHere s rests base x y → IsUnhelped s x true → IsUnhelped s y false →
    IsConflictHere s (Contains base) x y
true_conflict s rests base x y separated first second =
    separated_is_conflict s.problem.implementation s.problem.goal s.patches s.before s.target s.behind rests base x y first.values second.values separated first.are first.unfixed second.are second.unfixed

-- where nothing helps at the first of them, what is found of the second
pub judged_at_zero : (stage : Stage) (rests : List (List Bool)) (base : List (List ℕ)) (pair : Pair) (r : Option (List Bool)) → IsStage stage → AtScene stage (λ s. IsSeparatedHere s rests base pair.one pair.zero) →
    IsFurther stage pair.one true None → IsFurther stage pair.zero false r → IsJudged stage rests base pair r
judged_at_zero stage rests base pair None is separated first second = λ before target behind are len.
    true_conflict (scene_of stage before target behind) rests base pair.one pair.zero (separated before target behind are len) (first before target behind are len) (second before target behind are len)
judged_at_zero stage rests base pair (Some rest) is separated first second = λ before target behind are len.
    new_rest (scene_of stage before target behind) rests pair.zero false rest (is.scene before target behind are len) (separated before target behind are len).zero (second before target behind are len)

-- the question can be asked
pub askable : (stage : Stage) (base : List NetId) (rests : List (List Bool)) → IsStage stage → AreNets (names stage.problem.now.implementation) base →
    AtScene stage (λ s. AreReadableHere s (names_here stage base)) → AtScene stage (λ s. AreRests s rests) →
    IsAskable stage.problem.now.implementation (Separate stage.number stage.patches base rests)
askable stage base rests is nets readable some = (
  is.number,
  nets,
  λ before target behind are len.
      let f = stage.problem.now.implementation in
      let scene = is.scene before target behind are len in
      let base_is = readable before target behind are len in
      record {
        outputs = scene.outputs;
        fits = scene.fits;
        signals = All-weaker (IsCandidate f stage.problem.now.weights stage.problem.now.input_weight before) (IsSignal f) (λ name is. is.signal) (names_here stage base) base_is.candidates;
        apart = All-weaker (IsCandidate f stage.problem.now.weights stage.problem.now.input_weight before) (IsBehindOnly f before) (λ name is. is.apart) (names_here stage base) base_is.candidates;
        distinct = base_is.distinct;
        rests = (some before target behind are len).rows;
      },
)

-- and is one of the problem
pub is_of_problem : (stage : Stage) (base : List NetId) (rests : List (List Bool)) → IsStage stage → AtScene stage (λ s. AreReadableHere s (names_here stage base)) → AtScene stage (λ s. AreRests s rests) →
    IsOfProblem stage.problem.now NoneCompared (Separate stage.number stage.patches base rests)
is_of_problem stage base rests is readable some =
    let (before, target, behind, are, len) = targets_at stage is in (
      (some before target behind are len).distinct,
      λ before target behind are len. record {
        candidates = (readable before target behind are len).candidates;
        kept = (is.scene before target behind are len).kept;
        first = (is.scene before target behind are len).first;
      },
    )

-- where it has no answer
pub refuted_here : (stage : Stage) (base : List NetId) (rests : List (List Bool)) (posed : PosedValue) (trace : Proof) → IsPosed stage.problem.now (Separate stage.number stage.patches base rests) posed →
    IsRefutation posed.clauses trace → ((v : Valuation) → Satisfies v posed.clauses.clauses → ⊥) → IsRefuted stage rests base (record { posed = posed; trace = trace })
refuted_here stage base rests posed trace posed_is refuted none = record {
  posed = posed_is;
  refuted = refuted;
  none = λ before target behind are len x y separated.
      let (v, sat, same_one, same_zero) = (posed_is.asks before target behind are len).pairs.answers x y separated in
      none v sat;
}

-- what the model is read as
pub pair_is_separated : (stage : Stage) (base : List NetId) (rests : List (List Bool)) (posed : PosedValue) (model : List Bool) (pair : Pair) → IsPosed stage.problem.now (Separate stage.number stage.patches base rests) posed →
    IsModel posed.clauses model → IsPairRead posed model pair → AtScene stage (λ s. IsSeparatedHere s rests (names_here stage base) pair.one pair.zero)
pair_is_separated stage base rests posed model pair posed_is model_is read_is = λ before target behind are len.
    let s = scene_of stage before target behind in
    let found = (posed_is.asks before target behind are len).pairs.models (valuation_of model) model_is.satisfies in
    subst (λ x. IsSeparatedHere s rests (names_here stage base) x pair.zero) (sym read_is.one)
    (subst (λ y. IsSeparatedHere s rests (names_here stage base) (read (valuation_of model) posed.first) y) (sym read_is.zero) found)

-- so they are where the question of the stage's problem is answered by the model
pub answered_pair : (stage : Stage) (base : List NetId) (rests : List (List Bool)) (problem : ProblemValue) (asked : Asked) (posed : PosedValue) (model : List Bool) (pair : Pair) → problem ≡ stage.problem.now → asked ≡ Found posed model →
    IsAnswered problem (Separate stage.number stage.patches base rests) asked → IsPairRead posed model pair → AtScene stage (λ s. IsSeparatedHere s rests (names_here stage base) pair.one pair.zero)
answered_pair stage base rests problem asked posed model pair same is answered read_is =
    let question = Separate stage.number stage.patches base rests in
    let (posed_is, model_is) = subst (IsAnswered stage.problem.now question) is (subst (λ (p : ProblemValue). IsAnswered p question asked) same answered) in
    pair_is_separated stage base rests posed model pair posed_is model_is read_is

-- both inputs have a bit for each input of f
pub separated_lengths : (stage : Stage) (rests : List (List Bool)) (base : List (List ℕ)) (x y : List Bool) → IsStage stage → AtScene stage (λ s. IsSeparatedHere s rests base x y) →
    (length x ≡ length stage.problem.now.implementation.inputs) × (length y ≡ length stage.problem.now.implementation.inputs)
separated_lengths stage rests base x y is separated =
    let (before, target, behind, are, len) = targets_at stage is in
    ((separated before target behind are len).one.len, (separated before target behind are len).zero.len)
