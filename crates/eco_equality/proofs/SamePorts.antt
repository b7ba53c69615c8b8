-- Ports that are not unlike are the same, and a netlist without listed targets has none.
use Rattle.std.proofs.Common.{◌≡◌, ◌↔◌, inl, inr, ℕ, Bool, true, false, not, ◌&&◌, ◌||◌, List, [], ◌∷◌, refl, sym, ◌∙◌, ap}
use Rattle.std.specs.List.{Contains}
use Rattle.std.proofs.lemmas.Bool.{false≢true, true≢false, not-false}
use Rattle.std.proofs.lemmas.List.Elements.{All-head}
use Rattle.std.proofs.Math.Bool.{and_comm, and-not_self}
use Rattle.eco_lists.proofs.Tests.{neither, second_false, opposite_false}
use Rattle.eco_lists.proofs.Members.{Contains_none}
use Rattle.eco_meaning.specs.Names.{has}
use Rattle.eco_meaning.specs.Circuit.{Circuit, IsTarget, AreTargets}
use Rattle.eco_netlist.specs.Netlists.{IsChecked}
use Rattle.eco_netlist.specs.Refusals.{NeverComes}
use Rattle.eco_netlist.proofs.NameSets.{has-from_Contains, Contains-from_has, absent_from_has}
use Rattle.eco_netlist.proofs.SoundNetlists.{sound_netlist}
use Rattle.eco_netlist.proofs.Plainly.{input_is_port, output_is_port}
use Rattle.eco_query.specs.Ports.{is_unlike}
use Rattle.eco_query.specs.Problem.{IsClosed}
use Rattle.eco_equality.specs.Equality.{HaveSamePorts}

-- a test that is false beside one that is true
first_false : (a b : Bool) → (a && b) ≡ false → b ≡ true → a ≡ false
first_false true true e b_is = absurd (true≢false e)
first_false true false e b_is = absurd (false≢true b_is)
first_false false b e b_is = refl

-- what is no output of a netlist is an input of it, where it is a port, and the other way round
an_input : (n : Circuit) (name : List ℕ) → IsChecked n → has n.ports name ≡ true → has n.outputs name ≡ false → Contains n.inputs name
an_input n name checked port none = Contains-from_has n.inputs name (checked.directed name (Contains-from_has n.ports name port) ∙ ap not none)

an_output : (n : Circuit) (name : List ℕ) → IsChecked n → has n.ports name ≡ true → has n.inputs name ≡ false → Contains n.outputs name
an_output n name checked port none =
    Contains-from_has n.outputs name (opposite_false (has n.inputs name) (has n.outputs name) (checked.directed name (Contains-from_has n.ports name port)) none)

-- what `is_unlike` tests of a name
record IsAlike (left right : Circuit) (name : List ℕ) : Type 0 where
  to_right : (has left.ports name && not (has right.ports name)) ≡ false
  to_left : (has right.ports name && not (has left.ports name)) ≡ false
  input_first : (has left.inputs name && has right.outputs name) ≡ false
  output_first : (has left.outputs name && has right.inputs name) ≡ false

alike : (left right : Circuit) (name : List ℕ) → is_unlike left right name ≡ false → IsAlike left right name
alike left right name e =
    let a = has left.ports name && not (has right.ports name) in
    let b = has right.ports name && not (has left.ports name) in
    let c = has left.inputs name && has right.outputs name in
    let d = has left.outputs name && has right.inputs name in
    let last = neither ((a || b) || c) d e in
    let third = neither (a || b) c last.0 in
    let first = neither a b third.0 in
    record { to_right = first.0; to_left = first.1; input_first = third.1; output_first = last.1 }

-- netlists of which no port is unlike have the same ones
pub same_ports : (left right : Circuit) → IsChecked left → IsChecked right → NeverComes (is_unlike left right) → HaveSamePorts left right
same_ports left right left_checked right_checked never = record {
  inputs = λ name. (
    λ c.
        let is = alike left right name (never name) in
        let port = not-false (has right.ports name) (second_false (has left.ports name) (not (has right.ports name)) is.to_right (has-from_Contains left.ports name (input_is_port left left_checked name c))) in
        an_input right name right_checked port (second_false (has left.inputs name) (has right.outputs name) is.input_first (has-from_Contains left.inputs name c)),
    λ c.
        let is = alike left right name (never name) in
        let port = not-false (has left.ports name) (second_false (has right.ports name) (not (has left.ports name)) is.to_left (has-from_Contains right.ports name (input_is_port right right_checked name c))) in
        an_input left name left_checked port (first_false (has left.outputs name) (has right.inputs name) is.output_first (has-from_Contains right.inputs name c)),
  );
  outputs = λ name. (
    λ c.
        let is = alike left right name (never name) in
        let port = not-false (has right.ports name) (second_false (has left.ports name) (not (has right.ports name)) is.to_right (has-from_Contains left.ports name (output_is_port left left_checked name c))) in
        an_output right name right_checked port (second_false (has left.outputs name) (has right.inputs name) is.output_first (has-from_Contains left.outputs name c)),
    λ c.
        let is = alike left right name (never name) in
        let port = not-false (has left.ports name) (second_false (has right.ports name) (not (has left.ports name)) is.to_left (has-from_Contains right.ports name (output_is_port right right_checked name c))) in
        an_output left name left_checked port (first_false (has left.inputs name) (has right.outputs name) is.input_first (has-from_Contains right.outputs name c)),
  );
}

-- a netlist whose list of targets is empty has none
pub no_target : (n : Circuit) → AreTargets n [] → IsClosed n
no_target n are name target = Contains_none name (are.complete name target)

-- ---- and netlists with the same ports have none that is unlike
has_same : (list others : List (List ℕ)) (name : List ℕ) → Contains list name ↔ Contains others name → has list name ≡ has others name
has_same list others name same = by (has list name) (has others name) refl refl
  where
    by : (a b : Bool) → has list name ≡ a → has others name ≡ b → a ≡ b
    by true true e f = refl
    by false false e f = refl
    by true false e f = absurd (absent_from_has others name f (same.0 (Contains-from_has list name e)))
    by false true e f = absurd (absent_from_has list name e (same.1 (Contains-from_has others name f)))

-- an input or an output is a port, and the other way round
port_of : (left right : Circuit) (name : List ℕ) → IsChecked left → IsChecked right → HaveSamePorts left right → Contains left.ports name → Contains right.ports name
port_of left right name left_checked right_checked same c =
    elim ((sound_netlist left left_checked).ports name c) [
      | inl input ↦ input_is_port right right_checked name ((same.inputs name).0 input)
      | inr output ↦ output_is_port right right_checked name ((same.outputs name).0 output)
    ]

turned : (left right : Circuit) → HaveSamePorts left right → HaveSamePorts right left
turned left right same = record {
  inputs = λ name. ((same.inputs name).1, (same.inputs name).0);
  outputs = λ name. ((same.outputs name).1, (same.outputs name).0);
}

not_other : (b : Bool) → true ≡ not b → b ≡ false
not_other true is = absurd (true≢false is)
not_other false is = refl

-- no name is an input and an output
not_both : (n : Circuit) (name : List ℕ) → IsChecked n → (has n.inputs name && has n.outputs name) ≡ false
not_both n name checked = by (has n.inputs name) refl
  where
    by : (b : Bool) → has n.inputs name ≡ b → (b && has n.outputs name) ≡ false
    by false e = refl
    by true e = not_other (has n.outputs name) (sym e ∙ checked.directed name (input_is_port n checked name (Contains-from_has n.inputs name e)))

pub never_unlike : (left right : Circuit) → IsChecked left → IsChecked right → HaveSamePorts left right → NeverComes (is_unlike left right)
never_unlike left right left_checked right_checked same name =
    let ports = has_same left.ports right.ports name (port_of left right name left_checked right_checked same, port_of right left name right_checked left_checked (turned left right same)) in
    let inputs = has_same left.inputs right.inputs name (same.inputs name) in
    let outputs = has_same left.outputs right.outputs name (same.outputs name) in
    let own = and-not_self (has left.ports name) in
    let first : (has left.ports name && not (has right.ports name)) ≡ false = ap (λ b. has left.ports name && not b) (sym ports) ∙ own in
    let second : (has right.ports name && not (has left.ports name)) ≡ false = ap (λ b. b && not (has left.ports name)) (sym ports) ∙ own in
    let third : (has left.inputs name && has right.outputs name) ≡ false = ap (λ b. has left.inputs name && b) (sym outputs) ∙ not_both left name left_checked in
    let last : (has left.outputs name && has right.inputs name) ≡ false = ap (λ b. b && has right.inputs name) outputs ∙ and_comm (has right.outputs name) (has right.inputs name) ∙ not_both right name right_checked in
    ap (λ b. ((b || (has right.ports name && not (has left.ports name))) || (has left.inputs name && has right.outputs name)) || (has left.outputs name && has right.inputs name)) first
    ∙ ap (λ b. (b || (has left.inputs name && has right.outputs name)) || (has left.outputs name && has right.inputs name)) second
    ∙ ap (λ b. b || (has left.outputs name && has right.inputs name)) third
    ∙ last

-- where there is no target, the list of targets is empty
pub none_listed : (n : Circuit) (targets : List (List ℕ)) → AreTargets n targets → IsClosed n → targets ≡ []
none_listed n [] are closed = refl
none_listed n (target ∷ targets) are closed = absurd (closed target (All-head (IsTarget n) target targets are.sound))
