-- The drawn netlists are a problem.
use Rattle.std.proofs.Common.{◌≡◌, ℕ, ◌+◌, ◌<◌, ◌≤◌, Bool, true, false, not, ◌&&◌, ◌||◌, List, ◌++◌, None, length, map, refl, sym, ◌∙◌, ap, subst, arith}
use Rattle.std.specs.Prelude.{IsTrue}
use Rattle.std.specs.List.{range_with_len, All, Contains}
use Rattle.std.specs.List.Sorted.{IsStrictlyIncreasing}
use Rattle.std.proofs.lemmas.Bool.{false≢true}
use Rattle.std.proofs.lemmas.List.{length-append, length-map, map-id}
use Rattle.std.proofs.lemmas.List.FromFn.{get_or-range_with_len, length-range_with_len}
use Rattle.eco_lists.proofs.Members.{map-map}
use Rattle.eco_lists.proofs.Places.{All_from_places, Contains_at, map_agree}
use Rattle.eco_meaning.specs.Names.{has, is_target_text, target_number}
use Rattle.eco_meaning.specs.Circuit.{AreTargets, IsTarget}
use Rattle.eco_netlist.proofs.MisfitLemmas.{targets_unique}
use Rattle.eco_netlist.proofs.NameSets.{Contains-from_has}
use Rattle.eco_netlist.specs.Refusals.{NeverComes}
use Rattle.eco_query.specs.declared.problem.PairError.{PairError}
use Rattle.eco_query.specs.declared.problem.PairError.TheVariants.{PortsDiffer, CareInputs, CareOutputs, NoTarget, TooManyTargets, OutOfMemory}
use Rattle.eco_query.specs.Pairing.{Refuses}
use Rattle.eco_query.specs.Ports.{is_unlike}
use Rattle.eco_query.specs.Problem.{HasFewNets, IsClosed}
use Rattle.eco_gen.specs.declared.TheConstants.{INPUTS, MOST_GATES}
use Rattle.eco_gen.specs.Cutting.{MayCut}
use Rattle.eco_gen.specs.Instance.{CanDraw}
use Rattle.eco_gen.specs.Drawn.{input_name, input_names, output_name, output_names, target_name, unread_gates, signal_name, drawn_netlist}
use Rattle.eco_gen.proofs.Checked.{apart_ports}
use Rattle.eco_gen.proofs.Ranges.{image_in, from_image, from_range}
use Rattle.eco_gen.proofs.Structure.{few_unread}
use Rattle.eco_gen.proofs.Targets.{is_target, target_named, is_target_text-name, target_number-name}

-- the whole netlist has no target
pub IsClosed-drawn : (seed size : ℕ) → IsClosed (drawn_netlist seed size 0)
IsClosed-drawn seed size name is = let found = target_named seed size 0 name is in omega (arith, found.1)

-- there are few nets
pub HasFewNets-drawn : (seed size targets : ℕ) → size ≤ MOST_GATES → HasFewNets (drawn_netlist seed size targets)
unfolding drawn_netlist
HasFewNets-drawn seed size targets few =
    let unread = few_unread seed size in
    let ports = length-append input_names (output_names seed size) in
    let inputs : length input_names ≡ INPUTS = length-map (range_with_len 0 INPUTS) input_name ∙ length-range_with_len 0 INPUTS in
    let outputs : length (output_names seed size) ≡ length (unread_gates seed size) = length-map (range_with_len 0 (length (unread_gates seed size))) output_name ∙ length-range_with_len 0 (length (unread_gates seed size)) in
    let wires : length (map (λ j. signal_name size targets (INPUTS + j)) (range_with_len 0 size)) ≡ size = length-map (range_with_len 0 size) (λ j. signal_name size targets (INPUTS + j)) ∙ length-range_with_len 0 size in
    let all = length-append (input_names ++ output_names seed size) (map (λ j. signal_name size targets (INPUTS + j)) (range_with_len 0 size)) in
    omega (arith, few, unread, ports, inputs, outputs, wires, all)

-- both netlists have the same ports
alike : (P I O : List (List ℕ)) → ((name : List ℕ) → Contains I name → Contains O name → ⊥) → (name : List ℕ) → ((has P name && not (has P name)) || (has P name && not (has P name)) || (has I name && has O name) || (has O name && has I name)) ≡ false
alike P I O apart name =
    tests (has P name) (has I name) (has O name) (λ a b. apart name (Contains-from_has I name a) (Contains-from_has O name b))
  where
    tests : (p a b : Bool) → (a ≡ true → b ≡ true → ⊥) → ((p && not p) || (p && not p) || (a && b) || (b && a)) ≡ false
    tests p true true h = absurd (h refl refl)
    tests true true false h = refl
    tests false true false h = refl
    tests true false true h = refl
    tests false false true h = refl
    tests true false false h = refl
    tests false false false h = refl

pub ports_alike : (seed size targets : ℕ) → NeverComes (is_unlike (drawn_netlist seed size targets) (drawn_netlist seed size 0))
unfolding drawn_netlist
ports_alike seed size targets name = alike (input_names ++ output_names seed size) input_names (output_names seed size) (apart_ports seed size) name

-- the targets
pub AreTargets-drawn : (seed size targets : ℕ) → MayCut size targets → AreTargets (drawn_netlist seed size targets) (map target_name (range_with_len 0 targets))
AreTargets-drawn seed size targets may = record {
  named = each (λ (name : List ℕ). IsTrue (is_target_text name)) (λ i lt. is_target_text-name i (small i lt));
  ordered = subst (λ (ns : List ℕ). IsStrictlyIncreasing ns) (sym numbers) rising;
  sound = each (IsTarget (drawn_netlist seed size targets)) (λ i lt. is_target seed size targets i may.room lt);
  complete = λ name is.
      let found = target_named seed size targets name is in
      subst (Contains (map target_name (range_with_len 0 targets))) (sym found.2) (image_in target_name targets found.0 found.1);
}
  where
    small : (i : ℕ) → i < targets → i < 8
    small i lt = let few = may.few_targets in omega (arith, lt, few)

    each : (P : List ℕ → Type 0) → ((i : ℕ) → i < targets → P (target_name i)) → All P (map target_name (range_with_len 0 targets))
    each P h =
        All_from_places P (map target_name (range_with_len 0 targets)) (λ k name at.
        let found = from_image target_name targets name (Contains_at (map target_name (range_with_len 0 targets)) k name at) in
        subst P found.2 (h found.0 found.1))

    numbers : map target_number (map target_name (range_with_len 0 targets)) ≡ range_with_len 0 targets
    numbers =
        map-map target_name target_number (range_with_len 0 targets)
        ∙ map_agree (λ i. target_number (target_name i)) (λ i. i) (range_with_len 0 targets) (λ k i at. target_number-name i (small i (from_range targets i (Contains_at (range_with_len 0 targets) k i at))))
        ∙ map-id (range_with_len 0 targets)

    rising : IsStrictlyIncreasing (range_with_len 0 targets)
    rising k lt =
        let below : k + 1 < targets = omega (arith, lt, length-range_with_len 0 targets) in
        let first = get_or-range_with_len 0 targets k 0 (omega arith) in
        let second = get_or-range_with_len 0 targets (k + 1) 0 below in
        omega (arith, first, second)

-- what may be drawn may be cut
pub may_cut : (size targets : ℕ) → CanDraw size targets → MayCut size targets
may_cut size targets can = record { few_gates = can.few_gates; few_targets = can.few_targets; room = can.room }

-- so they are no refusal
pub never_refused : (seed size targets : ℕ) (error : PairError) → MayCut size targets → 1 ≤ targets → Refuses (drawn_netlist seed size targets) (drawn_netlist seed size 0) None error → error ≡ OutOfMemory
never_refused seed size targets (PortsDiffer name) may some is = absurd (false≢true (sym (ports_alike seed size targets name) ∙ is.0))
never_refused seed size targets (CareInputs name) may some is = absurd is.1
never_refused seed size targets (CareOutputs count) may some is = absurd is.2
never_refused seed size targets NoTarget may some is =
    let same = targets_unique (drawn_netlist seed size targets) is.1.0 (map target_name (range_with_len 0 targets)) is.1.1 (AreTargets-drawn seed size targets may) in
    let count = length-map (range_with_len 0 targets) target_name ∙ length-range_with_len 0 targets in
    absurd (omega (arith, ap length same, count, is.1.2, some))
never_refused seed size targets (TooManyTargets count) may some is =
    let same = targets_unique (drawn_netlist seed size targets) is.1.0 (map target_name (range_with_len 0 targets)) is.1.1 (AreTargets-drawn seed size targets may) in
    let long = length-map (range_with_len 0 targets) target_name ∙ length-range_with_len 0 targets in
    let few = may.few_targets in
    absurd (omega (arith, ap length same, long, is.1.2, is.2, few))
never_refused seed size targets OutOfMemory may some is = refl
