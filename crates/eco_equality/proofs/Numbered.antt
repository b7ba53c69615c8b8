-- The literals of the nets of two netlists: which they are, and that they are of the nets' variables.
use Rattle.std.proofs.Common.{◌≡◌, ℕ, ◌+◌, ◌≤◌, Bool, true, false, not, cond, List, length, map, refl, sym, ◌∙◌, ap, subst, arith}
use Rattle.std.specs.List.{All, Contains, IsDistinct}
use Rattle.std.specs.Str.{bytes_eq}
use Rattle.eco_lists.proofs.Members.{Contains-filter}
use Rattle.eco_lists.proofs.Places.{map_agree, Contains_at, All_from_places}
use Rattle.eco_meaning.specs.Names.{has}
use Rattle.eco_meaning.specs.Circuit.{Circuit, names}
use Rattle.eco_gates.specs.declared.gate.NetId.{NetId}
use Rattle.eco_netlist.specs.Netlists.{IsChecked, name_at, names_at}
use Rattle.eco_netlist.proofs.NameSets.{has-from_Contains, Contains-from_has, distinct-filter, distinct_front}
use Rattle.eco_netlist.proofs.SoundNetlists.{sound_netlist}
use Rattle.eco_trace.specs.declared.clause.Lit.{Lit}
use Rattle.eco_trace.specs.Clauses.{Clauses, IsVarWithin}
use Rattle.eco_clauses.specs.Listing.{with_list}
use Rattle.eco_clauses.specs.Numbering.{listed_literal, new_literals}
use Rattle.eco_equality.specs.Numbering.{inner_nets, net_literal, input_literal, left_literal, right_literal, net_variables}
use Rattle.eco_equality.specs.Equality.{HaveSamePorts, with_both, with_differences, equality_of, input_literals}
use Rattle.eco_equality.proofs.Counts.{takes_both, takes_differences}
use Rattle.eco_clauses.proofs.Naming.{new_listed, new-map, all_within, listed_within}

-- ---- which they are
-- a netlist's inputs have different names
pub inputs_distinct : (n : Circuit) → IsChecked n → IsDistinct bytes_eq n.inputs
inputs_distinct n checked = subst (IsDistinct bytes_eq) (sym checked.inputs) (distinct-filter (has n.inputs) n.ports (distinct_front n.ports n.wires checked.distinct))

-- new literals behind the constant, one for each of left's inputs
pub inputs_named : (left : Circuit) (nets : List NetId) (vars : ℕ) (lits : List Lit) → IsChecked left → names_at (names left) nets ≡ left.inputs → vars ≡ 1 → lits ≡ new_literals vars nets → lits ≡ input_literals left
inputs_named left nets vars lits checked named one is =
    is ∙ ap (λ v. new_literals v nets) one
    ∙ sym (new-map (λ (net : NetId). name_at (names left) net.0) 1 nets)
    ∙ ap (new_literals 1) named
    ∙ new_listed 1 left.inputs (inputs_distinct left checked)

-- left's literals at right's inputs are those of left's inputs
pub shared_inputs : (left right : Circuit) → HaveSamePorts left right → map (left_literal left) right.inputs ≡ map (input_literal left) right.inputs
shared_inputs left right same =
    map_agree (left_literal left) (input_literal left) right.inputs (λ k name at.
    let input = has-from_Contains left.inputs name ((same.inputs name).1 (Contains_at right.inputs k name at)) in
    ap (λ b. cond b (input_literal left name) (listed_literal (1 + length left.inputs) (inner_nets left) name)) input)

-- right's inputs are nets of left, and left's outputs are nets of right
pub known_inputs : (left right : Circuit) (list : List (List ℕ)) → IsChecked left → HaveSamePorts left right → list ≡ right.inputs → All (Contains (names left)) list
known_inputs left right list checked same is =
    subst (All (Contains (names left))) (sym is) (All_from_places (Contains (names left)) right.inputs (λ k name at.
    (sound_netlist left checked).inputs name ((same.inputs name).1 (Contains_at right.inputs k name at))))

pub known_outputs : (left right : Circuit) (list : List (List ℕ)) → IsChecked right → HaveSamePorts left right → list ≡ left.outputs → All (Contains (names right)) list
known_outputs left right list checked same is =
    subst (All (Contains (names right))) (sym is) (All_from_places (Contains (names right)) left.outputs (λ k name at.
    (sound_netlist right checked).outputs name ((same.outputs name).0 (Contains_at left.outputs k name at))))

-- ---- that they are within
-- a net's literal, where those of the inputs are within
net_within : (vars used : ℕ) (n : Circuit) (shared : List ℕ → Lit) (name : List ℕ) → ((input : List ℕ) → Contains n.inputs input → IsVarWithin vars (shared input)) → used + length (inner_nets n) ≤ vars → Contains (names n) name → IsVarWithin vars (net_literal n shared used name)
net_within vars used n shared name inputs room net = by (has n.inputs name) refl
  where
    by : (b : Bool) → has n.inputs name ≡ b → IsVarWithin vars (cond b (shared name) (listed_literal used (inner_nets n) name))
    by true e = inputs name (Contains-from_has n.inputs name e)
    by false e = listed_within vars used (inner_nets n) name (Contains-filter (λ x. not (has n.inputs x)) (names n) name net (ap not e)) room

input_within : (left right : Circuit) (name : List ℕ) → Contains left.inputs name → IsVarWithin (net_variables left right) (input_literal left name)
input_within left right name input = listed_within (net_variables left right) 1 left.inputs name input (omega arith)

pub left_within : (left right : Circuit) (name : List ℕ) → Contains (names left) name → IsVarWithin (net_variables left right) (left_literal left name)
left_within left right name net =
    net_within (net_variables left right) (1 + length left.inputs) left (input_literal left) name (input_within left right) (omega arith) net

pub right_within : (left right : Circuit) → HaveSamePorts left right → (name : List ℕ) → Contains (names right) name → IsVarWithin (net_variables left right) (right_literal left right name)
right_within left right same name net =
    net_within (net_variables left right) (1 + length left.inputs + length (inner_nets left)) right (input_literal left) name (λ input c. input_within left right input ((same.inputs input).1 c)) (omega arith) net

-- left's inputs have literals within all variables
pub inputs_within : (left right : Circuit) (c : Clauses) (lits : List Lit) → c ≡ equality_of left right → lits ≡ input_literals left → All (IsVarWithin c.vars) lits
inputs_within left right c lits whole are =
    let both = (takes_both left right).more in
    let last = (takes_differences (with_both left right) (map (left_literal left) left.outputs) (map (right_literal left right) left.outputs)).more in
    let same = ap (λ (d : Clauses). d.vars) whole in
    all_within (net_variables left right) c.vars (input_literal left) left.inputs lits (input_within left right) (omega (arith, both, last, same)) are

-- ---- all clauses
pub whole_equality : (left right : Circuit) (c d : Clauses) (ones others lits : List Lit) → c ≡ with_both left right → ones ≡ map (left_literal left) left.outputs → others ≡ map (right_literal left right) left.outputs → lits ≡ new_literals c.vars ones → d ≡ with_differences c ones others → with_list d lits ≡ equality_of left right
whole_equality left right c d ones others lits both are_ones are_others are_lits is =
    let literals : lits ≡ new_literals (with_both left right).vars left.outputs =
    are_lits ∙ ap (λ (e : Clauses). new_literals e.vars ones) both ∙ ap (new_literals (with_both left right).vars) are_ones ∙ new-map (left_literal left) (with_both left right).vars left.outputs in
    let clauses : d ≡ with_differences (with_both left right) (map (left_literal left) left.outputs) (map (right_literal left right) left.outputs) =
    is ∙ ap (λ e. with_differences e ones others) both ∙ ap (λ os. with_differences (with_both left right) os others) are_ones ∙ ap (with_differences (with_both left right) (map (left_literal left) left.outputs)) are_others in
    ap (λ e. with_list e lits) clauses ∙ ap (with_list (with_differences (with_both left right) (map (left_literal left) left.outputs) (map (right_literal left right) left.outputs))) literals

-- the outputs' literals are within
pub ones_within : (left right : Circuit) (c : Clauses) (ones : List Lit) → IsChecked left → c ≡ with_both left right → ones ≡ map (left_literal left) left.outputs → All (IsVarWithin c.vars) ones
ones_within left right c ones checked both are =
    let takes = (takes_both left right).more in
    let same = ap (λ (d : Clauses). d.vars) both in
    all_within (net_variables left right) c.vars (left_literal left) left.outputs ones (λ name output. left_within left right name ((sound_netlist left checked).outputs name output)) (omega (arith, takes, same)) are

pub others_within : (left right : Circuit) (c : Clauses) (others : List Lit) → IsChecked right → HaveSamePorts left right → c ≡ with_both left right → others ≡ map (right_literal left right) left.outputs → All (IsVarWithin c.vars) others
others_within left right c others checked ports both are =
    let takes = (takes_both left right).more in
    let same = ap (λ (d : Clauses). d.vars) both in
    all_within (net_variables left right) c.vars (right_literal left right) left.outputs others (λ name output. right_within left right ports name ((sound_netlist right checked).outputs name ((ports.outputs name).0 output))) (omega (arith, takes, same)) are
