-- Posed clauses have few variables.
use Rattle.std.proofs.Common.{◌≡◌, ◌≢◌, ℕ, suc, ◌+◌, ◌*◌, ◌≤◌, Bool, Option, Some, None, List, [], ◌∷◌, length, sym, ◌∙◌, ap, arith}
use Rattle.std.specs.List.{All, AllPairs, filter, sum_by}
use Rattle.std.proofs.Math.Nat.{mul_assoc, mul_comm, suc-mul, mul-le-mul_left}
use Rattle.std.proofs.lemmas.List.{length-append}
use Rattle.std.proofs.lemmas.List.Sums.{sum_by-cons, sum_by-append, length-filter, count_by-le-length}
use Rattle.std.proofs.lemmas.List.Elements.{All-contains}
use Rattle.eco_meaning.specs.declared.kind.Kind.{Kind}
use Rattle.eco_meaning.specs.declared.kind.Kind.TheVariants.{And, Nand, Or, Nor, Xor, Xnor, Buf, Not}
use Rattle.eco_meaning.specs.Circuit.{Circuit, NamedGate, names, IsSignal, IsTarget, AreTargets}
use Rattle.eco_meaning.specs.Names.{has}
use Rattle.eco_lists.proofs.Places.{pairs_from_places}
use Rattle.eco_netlist.proofs.BehindLemmas.{rising_place}
use Rattle.eco_meaning.specs.Meaning.{Goal}
use Rattle.eco_meaning.specs.Patch.{splice_of}
use Rattle.eco_laws.proofs.Members.{few_names}
use Rattle.eco_laws.proofs.OneValue.{signal_net}
use Rattle.eco_netlist.specs.Netlists.{IsChecked}
use Rattle.eco_netlist.proofs.SoundNetlists.{sound_netlist}
use Rattle.eco_compile.specs.Compiled.{needed_nodes}
use Rattle.eco_compile.specs.Joins.{gate_nodes}
use Rattle.eco_compile.specs.Goals.{goal_nodes, care_nodes}
use Rattle.eco_pose.specs.Boards.{row_nodes}
use Rattle.eco_pose.specs.Shapes.{size_of, size_of_some, problem_size}

-- a gate takes at most three nodes for each of its inputs
gate_few : (kind : Kind) (inputs : ℕ) → gate_nodes kind inputs ≤ 3 * inputs
gate_few And inputs = omega arith
gate_few Nand inputs = omega arith
gate_few Or inputs = omega arith
gate_few Nor inputs = omega arith
gate_few Xor inputs = omega arith
gate_few Xnor inputs = omega arith
gate_few Buf inputs = omega arith
gate_few Not inputs = omega arith

-- how many inputs the gates have
abbrev pub terms_of : List NamedGate → ℕ
terms_of gates = sum_by (λ (g : NamedGate). length g.terms) gates

gates_few : (gates : List NamedGate) → sum_by (λ (g : NamedGate). gate_nodes g.kind (length g.terms)) gates ≤ 3 * terms_of gates
gates_few [] = omega arith
gates_few (g ∷ gates) =
    omega (arith, sum_by-cons (λ (g : NamedGate). gate_nodes g.kind (length g.terms)) g gates, sum_by-cons (λ (g : NamedGate). length g.terms) g gates, gate_few g.kind (length g.terms), gates_few gates)

pub needed_few : (n : Circuit) → needed_nodes n ≤ 3 * terms_of n.gates
needed_few n = gates_few n.gates

care_few : (care : Option Circuit) → care_nodes care ≤ 3 * size_of_some care
care_few None = omega arith
care_few (Some c) = omega (arith, needed_few c)

pub goal_few : (goal : Goal) → goal_nodes goal ≤ 3 * (size_of goal.spec + size_of_some goal.care)
goal_few goal = omega (arith, needed_few goal.spec, care_few goal.care)

-- inputs and outputs are nets, each once
ports_few : (n : Circuit) → IsChecked n → (length n.inputs ≤ length (names n)) × (length n.outputs ≤ length (names n))
ports_few n checked = (part n.inputs (has n.inputs) checked.inputs, part n.outputs (has n.outputs) checked.outputs)
  where
    part : (list : List (List ℕ)) (test : List ℕ → Bool) → list ≡ filter test n.ports → length list ≤ length (names n)
    part list test is = omega (arith, ap length is, length-filter test n.ports, count_by-le-length test n.ports, length-append n.ports n.wires)

-- so are targets
targets_few : (f : Circuit) (targets : List (List ℕ)) → AreTargets f targets → length targets ≤ length (names f)
targets_few f targets are =
    few_names targets (names f)
    (pairs_from_places (λ a b. a ≢ b) targets (λ i j a b lt at_i at_j same. rising_place targets f i j a are at_i (at_j ∙ ap Some (sym same)) lt))
    (λ name c. (All-contains (IsTarget f) targets name are.sound c).net)

-- products
four_times : (r s : ℕ) → r * (4 * s) ≡ 4 * (r * s)
four_times r s = sym (mul_assoc r 4 s) ∙ ap (λ x. x * s) (mul_comm r 4) ∙ mul_assoc 4 r s

eight_times : (r s : ℕ) → 8 * (r + 1) * s ≡ 8 * (r * s) + 8 * s
eight_times r s =
    let next : r + 1 ≡ suc r = omega arith in
    let sum : 8 * (r * s + s) ≡ 8 * (r * s) + 8 * s = omega arith in
    mul_assoc 8 (r + 1) s ∙ ap (λ x. 8 * (x * s)) next ∙ ap (λ x. 8 * x) (suc-mul r s) ∙ sum

-- what there is once, and what there is for each row
pub in_all : (vars once each rows s : ℕ) → vars ≤ once + rows * each → once ≤ 8 * s → each ≤ 4 * s → vars ≤ 8 * (rows + 1) * s
in_all vars once each rows s few small row =
    omega (arith, few, small, mul-le-mul_left rows row, four_times rows s, eight_times rows s)

pub row_few : (n : Circuit) → IsChecked n → row_nodes n ≤ 4 * (1 + size_of n)
row_few n checked = omega (arith, needed_few n, (ports_few n checked).1)

-- the rows of an implementation
pub missed_few : (f : Circuit) (goal : Goal) (rows vars : ℕ) → IsChecked f → vars ≤ 1 + length f.inputs + goal_nodes goal + rows * row_nodes f → vars ≤ 8 * (rows + 1) * problem_size f goal
missed_few f goal rows vars checked few =
    in_all vars (1 + length f.inputs + goal_nodes goal) (row_nodes f) rows (problem_size f goal) few
    (omega (arith, (ports_few f checked).0, goal_few goal)) (omega (arith, row_few f checked))

-- bits that are fixed
pub fixed_few : (f : Circuit) (goal : Goal) (targets : List (List ℕ)) (vars : ℕ) → IsChecked f → AreTargets f targets → vars ≤ 1 + length targets + goal_nodes goal + row_nodes f → vars ≤ 8 * problem_size f goal
fixed_few f goal targets vars checked are few = omega (arith, few, goal_few goal, row_few f checked, targets_few f targets are)

-- two netlists
pub differing_few : (left : Circuit) (goal : Goal) (vars : ℕ) → IsChecked left → vars ≤ 1 + length left.inputs + goal_nodes goal + 1 * row_nodes left → vars ≤ 8 * (1 + (size_of left + size_of goal.spec + size_of_some goal.care))
differing_few left goal vars checked few = omega (arith, few, goal_few goal, row_few left checked, (ports_few left checked).0)

-- two sides
pub sides_few : (f p : Circuit) (goal : Goal) (base : List (List ℕ)) (rests vars : ℕ) → IsChecked f → AllPairs (λ a b. a ≢ b) base → All (IsSignal f) base →
    vars ≤ 2 * (1 + length f.inputs + goal_nodes goal + needed_nodes (splice_of f p) + rests * row_nodes (splice_of f p)) + length base →
    vars ≤ 8 * (rests + 1) * (problem_size f goal + size_of p)
sides_few f p goal base rests vars checked distinct signals few =
    omega (arith, few, (ports_few f checked).0, goal_few goal, needed, base_few, mul-le-mul_left rests row, four_times rests s, eight_times rests s)
  where
    s : ℕ
    s = problem_size f goal + size_of p

    needed : needed_nodes (splice_of f p) ≤ 3 * terms_of f.gates + 3 * terms_of p.gates
    needed = omega (arith, needed_few (splice_of f p), sum_by-append (λ (g : NamedGate). length g.terms) f.gates p.gates)

    row : row_nodes (splice_of f p) ≤ 4 * s
    row = omega (arith, needed, (ports_few f checked).1)

    base_few : length base ≤ length (names f)
    base_few = few_names base (names f) distinct (λ name c. signal_net f (sound_netlist f checked) name (All-contains (IsSignal f) base name signals c))
