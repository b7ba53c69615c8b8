-- What is asked in a problem can be asked of its implementation.
use Rattle.std.proofs.Common.{◌≡◌, ℕ, Bool, true, false, not, ◌&&◌, ◌||◌, List, ◌∙◌, ap, subst}
use Rattle.std.specs.Prelude.{◌↔◌}
use Rattle.std.specs.List.{Contains, filter}
use Rattle.std.proofs.lemmas.Bool.{not-false}
use Rattle.eco_lists.proofs.Tests.{neither, excluded, second_false, opposite_false}
use Rattle.eco_meaning.specs.Names.{has}
use Rattle.eco_meaning.specs.Circuit.{Circuit}
use Rattle.eco_meaning.specs.Meaning.{Goal}
use Rattle.eco_lists.proofs.Members.{filter-Contains}
use Rattle.eco_netlist.specs.Refusals.{NeverComes}
use Rattle.eco_netlist.specs.Netlists.{IsChecked}
use Rattle.eco_netlist.proofs.NameSets.{Contains-from_has, has-from_Contains}
use Rattle.eco_query.specs.Ports.{is_unlike}
use Rattle.eco_query.specs.Problem.{IsProblem}
use Rattle.eco_compile.specs.Goals.{IsGoalOf}

-- the name has the same direction in both netlists, where it is a port of one
record IsLike (f g : Circuit) (name : List ℕ) : Type 0 where
  there : has f.ports name ≡ true → has g.ports name ≡ true
  back : has g.ports name ≡ true → has f.ports name ≡ true
  no_output : has f.inputs name ≡ true → has g.outputs name ≡ false
  no_input : has f.outputs name ≡ true → has g.inputs name ≡ false

like_at : (f g : Circuit) (name : List ℕ) → is_unlike f g name ≡ false → IsLike f g name
like_at f g name e =
    let four = neither ((has f.ports name && not (has g.ports name)) || (has g.ports name && not (has f.ports name)) || (has f.inputs name && has g.outputs name)) (has f.outputs name && has g.inputs name) e in
    let three = neither ((has f.ports name && not (has g.ports name)) || (has g.ports name && not (has f.ports name))) (has f.inputs name && has g.outputs name) four.0 in
    let two = neither (has f.ports name && not (has g.ports name)) (has g.ports name && not (has f.ports name)) three.0 in
    record {
      there = λ port. not-false (has g.ports name) (second_false (has f.ports name) (not (has g.ports name)) two.0 port);
      back = λ port. not-false (has f.ports name) (second_false (has g.ports name) (not (has f.ports name)) two.1 port);
      no_output = second_false (has f.inputs name) (has g.outputs name) three.1;
      no_input = second_false (has f.outputs name) (has g.inputs name) four.1;
    }

-- an input or output is a port
kept_port : (list : List (List ℕ)) (n : Circuit) (name : List ℕ) → list ≡ filter (has list) n.ports → has list name ≡ true → has n.ports name ≡ true
kept_port list n name kept is =
    has-from_Contains n.ports name (filter-Contains (has list) n.ports name (subst (λ all. Contains all name) kept (Contains-from_has list name is))).0

-- a port with the one direction hasn't the other
direction : (n : Circuit) (name : List ℕ) → IsChecked n → has n.ports name ≡ true → has n.inputs name ≡ not (has n.outputs name)
direction n name checked port = checked.directed name (Contains-from_has n.ports name port)

opposite : (a b : Bool) → a ≡ not b → b ≡ false → a ≡ true
opposite a b e off = e ∙ ap not off

module _ (f g : Circuit) (checked : IsChecked f) (checked_g : IsChecked g) (alike : NeverComes (is_unlike f g)) where
  like : (name : List ℕ) → IsLike f g name
  like name = like_at f g name (alike name)

  inputs_there : (name : List ℕ) → has f.inputs name ≡ true → has g.inputs name ≡ true
  inputs_there name is =
      let port = (like name).there (kept_port f.inputs f name checked.inputs is) in
      opposite (has g.inputs name) (has g.outputs name) (direction g name checked_g port) ((like name).no_output is)

  inputs_back : (name : List ℕ) → has g.inputs name ≡ true → has f.inputs name ≡ true
  inputs_back name is =
      let port = (like name).back (kept_port g.inputs g name checked_g.inputs is) in
      opposite (has f.inputs name) (has f.outputs name) (direction f name checked port) (excluded (has f.outputs name) (has g.inputs name) (like name).no_input is)

  outputs_there : (name : List ℕ) → has f.outputs name ≡ true → has g.outputs name ≡ true
  outputs_there name is =
      let port = (like name).there (kept_port f.outputs f name checked.outputs is) in
      opposite_false (has g.inputs name) (has g.outputs name) (direction g name checked_g port) ((like name).no_input is)

  outputs_back : (name : List ℕ) → has g.outputs name ≡ true → has f.outputs name ≡ true
  outputs_back name is =
      let port = (like name).back (kept_port g.outputs g name checked_g.outputs is) in
      opposite_false (has f.inputs name) (has f.outputs name) (direction f name checked port) (excluded (has f.inputs name) (has g.outputs name) (like name).no_output is)

  member : (list others : List (List ℕ)) (name : List ℕ) → (has list name ≡ true → has others name ≡ true) → Contains list name → Contains others name
  member list others name there c = Contains-from_has others name (there (has-from_Contains list name c))

  pub same_inputs : (name : List ℕ) → Contains f.inputs name ↔ Contains g.inputs name
  same_inputs name = (member f.inputs g.inputs name (inputs_there name), member g.inputs f.inputs name (inputs_back name))

  pub same_outputs : (name : List ℕ) → Contains f.outputs name ↔ Contains g.outputs name
  same_outputs name = (member f.outputs g.outputs name (outputs_there name), member g.outputs f.outputs name (outputs_back name))

pub goal_of_problem : (f : Circuit) (goal : Goal) → IsProblem f goal → IsGoalOf f goal
goal_of_problem f goal is = record {
  checked = is.specification;
  inputs = same_inputs f goal.spec is.implementation is.specification is.alike;
  outputs = same_outputs f goal.spec is.implementation is.specification is.alike;
  closed = is.closed;
  care = is.care;
}
