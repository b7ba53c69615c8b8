-- Patches of the first targets that read inputs alone, and questions behind them.
use Rattle.std.proofs.Common.{◌≡◌, ◌<◌, ◌↔◌, ℕ, Bool, List, ◌∷◌, ◌++◌, length, Option, Some, take, drop, refl, sym, ◌∙◌, ap, subst, inl, arith}
use Rattle.std.specs.List.{All, Contains, IsDistinct}
use Rattle.std.specs.Str.{bytes_eq}
use Rattle.std.proofs.lemmas.List.{length-map}
use Rattle.std.proofs.lemmas.List.Elements.{All-weaker, All-contains_itself, Contains-append_left, Contains-append_right}
use Rattle.std.proofs.Math.Seq.{take-append_seam, drop-append_seam}
use Rattle.eco_lists.proofs.Places.{Contains_at}
use Rattle.eco_meaning.specs.Circuit.{Circuit, names, IsSignal, AreTargets}
use Rattle.eco_meaning.specs.Choice.{IsKept}
use Rattle.eco_meaning.specs.Cost.{Weights, IsCandidate, IsUnpaid, AreTurns}
use Rattle.eco_meaning.specs.Meaning.{Goal, IsRectifiable}
use Rattle.eco_meaning.specs.Patch.{Fits, splice_of}
use Rattle.eco_gates.specs.declared.gate.NetId.{NetId}
use Rattle.eco_netlist.specs.Netlists.{IsChecked, names_at}
use Rattle.eco_equality.specs.Equality.{HaveSamePorts}
use Rattle.eco_equality.proofs.Numbered.{inputs_distinct}
use Rattle.eco_aig.specs.declared.edge.Edge.{Edge}
use Rattle.eco_aig.specs.declared.node.Node.{Node}
use Rattle.eco_aig.specs.Graph.{inputs_of}
use Rattle.eco_aig.specs.Inputs.{AreInputs}
use Rattle.eco_compile.proofs.Problems.{goal_of_problem}
use Rattle.eco_query.specs.Problem.{ProblemValue, HasTargetNumber, IsCareOf, IsClosed, IsProblem}
use Rattle.eco_query.proofs.Turns.{turns_distinct, turns_avoid, input_apart}
use Rattle.eco_splice.specs.GraphPatch.{AreRooted, FitsFirst, HasTargets}
use Rattle.eco_pose.specs.declared.question.Question.{Question}
use Rattle.eco_pose.specs.declared.question.Question.TheVariants.{Separate, Equal}
use Rattle.eco_pose.specs.Questions.{AtTarget, AreDistinct, IsAskable, IsOfProblem, IsSeparable, AreRowsOf}
use Rattle.eco_pose.specs.Stuck.{NoneCompared}
use Rattle.eco_desk.specs.Desks.{AreBefore}
use Rattle.test_engine.specs.Fronts.{IsFrontOf, IsKeptFront, IsBaseOf, AreRests}
use Rattle.test_engine.proofs.TargetCounts.{name_count}

-- inputs are signals, each once
pub inputs_differ : (f : Circuit) (base : List (List ℕ)) → IsChecked f → base ≡ f.inputs → IsDistinct bytes_eq base
inputs_differ f base checked same = subst (IsDistinct bytes_eq) (sym same) (inputs_distinct f checked)

pub inputs_signal : (f : Circuit) (base : List (List ℕ)) → base ≡ f.inputs → All (IsSignal f) base
inputs_signal f base same =
    subst (All (IsSignal f)) (sym same) (All-weaker (Contains f.inputs) (IsSignal f) (λ name input. inl input) f.inputs (All-contains_itself f.inputs))

-- the function of each target may read them
pub inputs_rooted : (f : Circuit) (nodes : List Node) (roots : List Edge) (base : List (List ℕ)) → IsChecked f → base ≡ f.inputs → AreRooted f nodes roots base
inputs_rooted f nodes roots base checked same targets are k root place node name at_root at_node at_name reaches =
    input_apart f (take k targets) name checked (subst (λ list. Contains list name) same (Contains_at base place name at_name))

-- a graph of so many inputs has so many
pub input_count : (nodes : List Node) (edges : List Edge) (count : ℕ) → AreInputs nodes edges → length edges ≡ count → length (inputs_of nodes) ≡ count
input_count nodes edges count are counted = ap length are.all ∙ length-map edges (λ (e : Edge). e.node) ∙ counted

-- a number below the count of the listed targets is one of a target
pub listed_number : (f : Circuit) (nets : List NetId) (number : ℕ) → AreTargets f (names_at (names f) nets) → number < length nets → HasTargetNumber f number
listed_number f nets number named below = (length nets, (names_at (names f) nets, named, name_count (names f) nets), below)

-- there are so many targets before one of them
pub enough_targets : (f : Circuit) (target count : ℕ) → HasTargetNumber f target → count ≡ target → HasTargets f count
enough_targets f target count (all, (targets, are, long), within) same = (targets, are, omega (arith, long, within, same))

-- a patch of the first targets drives those before the next one
pub first_are_before : (f p : Circuit) (count number : ℕ) → count ≡ number → FitsFirst f count p → AtTarget f number (AreBefore f p)
first_are_before f p count number same fits before target behind are len =
    let all = before ++ target ∷ behind in
    let counted : count ≡ length before = same ∙ sym len in
    record {
      outputs = (fits all are).0 ∙ ap (λ n. take n all) counted ∙ take-append_seam before (target ∷ behind);
      fits = subst (Fits f p) (ap (λ n. drop n all) counted ∙ drop-append_seam before (target ∷ behind)) (fits all are).1;
    }

-- what the target's function may read can be a base
pub turns_separable : (f p : Circuit) (w : Weights) (input_weight : ℕ) (paid turns : List (List ℕ)) (rests : List (List Bool)) (before : List (List ℕ)) (target : List ℕ) (behind : List (List ℕ)) →
    AreBefore f p before target behind → AreTurns f w input_weight before paid turns → AreRowsOf behind rests → IsSeparable f p turns rests before target behind
turns_separable f p w input_weight paid turns rests before target behind is are rows = record {
  outputs = is.outputs;
  fits = is.fits;
  signals = All-weaker (IsUnpaid f w input_weight before paid) (IsSignal f) (λ name unpaid. unpaid.candidate.signal) turns are.sound;
  apart = turns_avoid f w input_weight before paid turns are;
  distinct = turns_distinct f w input_weight before paid turns are;
  rests = rows;
}

-- the cared netlist of a problem is one of its specification
pub care_of_specification : (f : Circuit) (goal : Goal) (c : Circuit) → IsProblem f goal → goal.care ≡ Some c → IsCareOf goal.spec c
care_of_specification f goal c is given =
    let care = is.care c given in
    let same = (goal_of_problem f goal is).inputs in
    record {
      checked = care.checked;
      inputs = λ name. (λ there. (care.inputs name).0 ((same name).1 there), λ there. (same name).0 ((care.inputs name).1 there));
      one_output = care.one_output;
      closed = care.closed;
    }

-- with such a base and such rests the question for two inputs can be posed
pub pair_askable : (problem : ProblemValue) (target : ℕ) (patch : Circuit) (base : List NetId) (rests : List (List Bool)) → IsFrontOf problem target patch → IsBaseOf problem target base → AreRests problem target rests →
    IsAskable problem.implementation (Separate target patch base rests)
pair_askable problem target patch base rests front is rows =
    let f = problem.implementation in (
      front.number,
      is.nets,
      λ before name behind are len.
          turns_separable f patch problem.weights problem.input_weight is.left_out (names_at (names f) base) rests before name behind
          (front.before before name behind are len) (is.turns before name behind are len) (rows.rows before name behind are len),
    )

-- whatever the question is called
pub pair_posable : (problem : ProblemValue) (target : ℕ) (patch : Circuit) (base : List NetId) (rests : List (List Bool)) (question : Question) → question ≡ Separate target patch base rests →
    IsFrontOf problem target patch → IsBaseOf problem target base → AreRests problem target rests → IsAskable problem.implementation question
pair_posable problem target patch base rests question same front is rows =
    subst (IsAskable problem.implementation) (sym same) (pair_askable problem target patch base rests front is rows)

-- and it is one of the problem, where the patch keeps it rectifiable
pub pair_of_problem : (problem : ProblemValue) (target : ℕ) (patch : Circuit) (base : List NetId) (rests : List (List Bool)) → IsKeptFront problem target patch → IsBaseOf problem target base → AreDistinct rests →
    IsOfProblem problem NoneCompared (Separate target patch base rests)
pair_of_problem problem target patch base rests front is distinct =
    let f = problem.implementation in (
      distinct,
      λ before name behind are len. record {
        candidates = All-weaker (IsUnpaid f problem.weights problem.input_weight before is.left_out) (IsCandidate f problem.weights problem.input_weight before)
            (λ signal unpaid. unpaid.candidate) (names_at (names f) base) (is.turns before name behind are len).sound;
        kept = front.kept before;
        first = λ none. front.first (sym len ∙ ap length none);
      },
    )

-- a patch keeps what can be rectified with it in place
pub kept_of_spliced : (f p : Circuit) (goal : Goal) (before : List (List ℕ)) → IsRectifiable (splice_of f p) goal → IsKept f goal p before
kept_of_spliced f p goal before rectifiable x lost = rectifiable x (record {
  len = lost.len;
  never = λ v consistent input right. lost.never v (record {
    consistent = λ g there. consistent g (Contains-append_left f.gates p.gates g there);
    input = input;
    follows = (v, λ g there. consistent g (Contains-append_right f.gates p.gates g there), λ name there. refl, λ name there. refl);
  })
      (record { consistent = λ g there. consistent g (Contains-append_left f.gates p.gates g there); agrees = right.agrees });
})

-- whether the specification and another netlist with its ports differ can be asked
pub equal_askable : (problem : ProblemValue) (left right : Circuit) (care : Option Circuit) → IsProblem problem.implementation problem.goal → left ≡ problem.goal.spec → care ≡ problem.goal.care →
    IsChecked right → IsClosed right → HaveSamePorts problem.goal.spec right → IsAskable problem.implementation (Equal left right care)
equal_askable problem left right care is same same_care checked closed ports = (
  record {
    checked = checked;
    inputs = subst (λ (n : Circuit). (name : List ℕ) → Contains n.inputs name ↔ Contains right.inputs name) (sym same) ports.inputs;
    outputs = subst (λ (n : Circuit). (name : List ℕ) → Contains n.outputs name ↔ Contains right.outputs name) (sym same) ports.outputs;
    closed = closed;
    care = λ n given. subst (λ (n' : Circuit). IsCareOf n' n) (sym same) (care_of_specification problem.implementation problem.goal n is (sym same_care ∙ given));
  },
  subst IsClosed (sym same) is.closed,
)
