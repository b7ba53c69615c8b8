-- What is asked at an input, by the edges of the specification and of the cared netlist.
use Rattle.std.proofs.Common.{◌≡◌, ℕ, ◌<◌, Bool, List, [], ◌++◌, Some, None, length, get_or, map, sym, ◌∙◌, ap, subst, arith}
use Rattle.std.specs.Prelude.{option_map}
use Rattle.std.specs.List.{slice_get, All, Contains}
use Rattle.std.proofs.lemmas.List.{length-map, append-nil}
use Rattle.std.proofs.lemmas.Option.{slice_get-get_or, slice_get-map, get_or_from_slice_get}
use Rattle.eco_lists.proofs.Members.{Contains_none}
use Rattle.eco_lists.proofs.Places.{Contains_at, any_default}
use Rattle.eco_meaning.specs.Circuit.{Circuit, Values, names, IsConsistent, AgreeOn, AreTargets}
use Rattle.eco_meaning.specs.Meaning.{Goal}
use Rattle.eco_laws.proofs.AskedLemmas.{map_from_agree}
use Rattle.eco_laws.proofs.OneValue.{same_by_image}
use Rattle.eco_laws.proofs.Sources.{by_targets}
use Rattle.eco_gates.specs.declared.gate.NetId.{NetId}
use Rattle.eco_netlist.specs.Netlists.{IsChecked, name_at, names_at, AreNets}
use Rattle.eco_netlist.proofs.SoundNetlists.{sound_netlist}
use Rattle.eco_query.specs.Problem.{IsClosed, IsCareOf}
use Rattle.eco_aig.specs.declared.edge.Edge.{Edge}
use Rattle.eco_aig.specs.declared.node.Node.{Node}
use Rattle.eco_aig.specs.Edges.{value_of, plain, complement, bits_of}
use Rattle.eco_aig.specs.Graph.{IsGraph, IsValuation, Grows}
use Rattle.eco_aig.proofs.Growing.{valuation_of_older}
use Rattle.eco_aig.proofs.Conjunctions.{one_value}
use Rattle.eco_compile.specs.Compiled.{AreEdges, HasOpenNets, IsBound, values_of}
use Rattle.eco_aig.proofs.Growing.{edges_stay}
use Rattle.eco_compile.specs.Bound.{HasInputEdges, AreNetEdges, AreWanted, IsCaredEdge}
use Rattle.eco_compile.specs.Goals.{AreGoalEdges}
use Rattle.eco_compile.proofs.ByName.{bound_bits, value_at_name, place_in_table}

-- a netlist that is closed has no targets
pub closed_targets : (n : Circuit) → IsClosed n → AreTargets n []
closed_targets n closed = record {
  named = λ k d lt. absurd (omega arith);
  ordered = λ k lt. absurd (omega arith);
  sound = λ k d lt. absurd (omega arith);
  complete = λ name is. absurd (closed name is);
}

-- so its inputs alone are given
given_count : (n : Circuit) (nets : List NetId) (bind : List Edge) → names_at (names n) nets ≡ n.inputs → length bind ≡ length nets → length (n.inputs ++ []) ≡ length bind
given_count n nets bind named count =
    ap length (append-nil n.inputs) ∙ sym (ap length named) ∙ length-map nets (λ (net : NetId). name_at (names n) net.0) ∙ sym count

pub closed_open : (n : Circuit) (nets : List NetId) (bind : List Edge) → IsClosed n → names_at (names n) nets ≡ n.inputs → length bind ≡ length nets → HasOpenNets n (length bind)
closed_open n nets bind closed named count = ([], closed_targets n closed, given_count n nets bind named count)

-- and they determine all nets
closed_nets : (n : Circuit) (v u : Values) → IsChecked n → IsClosed n → IsConsistent n v → IsConsistent n u → AgreeOn n.inputs v u → AgreeOn (names n) v u
closed_nets n v u checked closed v_is u_is agree name net =
    by_targets n v u [] (sound_netlist n checked) v_is u_is agree (λ name c. absurd (Contains_none name c)) name net (λ target is fan. absurd (closed target is))

-- the edges of the nets, where the inputs are bound to the table's
pub net_edges : (f n : Circuit) (table bind edges : List Edge) (nodes : List Node) (nets : List NetId) → IsChecked n → IsClosed n → names_at (names n) nets ≡ n.inputs → length bind ≡ length nets → ((w : ℕ → Bool) → map (values_of f w table) (names_at (names n) nets) ≡ bits_of w bind) → length edges ≡ length (names n) → ((w : ℕ → Bool) → IsValuation nodes w → IsConsistent n (values_of n w edges)) → IsBound n bind edges → AreNetEdges f n table nodes edges
net_edges f n table bind edges nodes nets checked closed named count given len consistent bound = record {
  consistent = consistent;
  inputs = λ w.
      let whole = bound_bits n [] bind edges w checked (closed_targets n closed) (given_count n nets bind named count) len bound in
      let of_edges : map (values_of n w edges) n.inputs ≡ bits_of w bind = sym (ap (map (values_of n w edges)) (append-nil n.inputs)) ∙ whole in
      let of_table : map (values_of f w table) n.inputs ≡ bits_of w bind = sym (ap (map (values_of f w table)) named) ∙ given w in
      same_by_image (values_of f w table) (values_of n w edges) n.inputs (of_table ∙ sym of_edges);
}

-- names of one list are all in another
pub names_within : (list others : List (List ℕ)) (from : List (List ℕ)) (nets : List NetId) → names_at from nets ≡ list → ((name : List ℕ) → Contains list name → Contains others name) → All (Contains others) (names_at from nets)
names_within list others from nets named within =
    subst (All (Contains others)) (sym named) (λ k d lt. within (get_or list k d) (k, lt, any_default list k (get_or list k d) d lt))

-- the specification's outputs
pub wanted_are : (f spec : Circuit) (table edges outputs : List Edge) (nodes : List Node) (nets : List NetId) → IsChecked spec → IsClosed spec → ((name : List ℕ) → Contains f.inputs name → Contains spec.inputs name) → ((name : List ℕ) → Contains spec.inputs name → Contains f.inputs name) → ((name : List ℕ) → Contains f.outputs name → Contains spec.outputs name) → names_at (names f) nets ≡ f.outputs → AreEdges nodes outputs → AreNetEdges f spec table nodes edges → ((w : ℕ → Bool) → map (values_of spec w edges) (names_at (names f) nets) ≡ bits_of w outputs) → AreWanted f spec table nodes outputs
wanted_are f spec table edges outputs nodes nets checked closed inputs no_others outputs_in named within are bits = record {
  within = within;
  some = λ w valuation v agree.
      (values_of spec w edges, are.consistent w valuation, λ name c. agree name c ∙ are.inputs w name (inputs name c));
  outputs_are = λ w valuation v u agree u_is same.
      let all = closed_nets spec u (values_of spec w edges) checked closed u_is (are.consistent w valuation) (λ name c. sym (same name (no_others name c)) ∙ agree name (no_others name c) ∙ are.inputs w name c) in
      map_from_agree u (values_of spec w edges) f.outputs (λ name c. all name ((sound_netlist spec checked).outputs name (outputs_in name c)))
      ∙ sym (ap (map (values_of spec w edges)) named) ∙ bits w;
}

-- without a cared netlist every input is cared
pub cared_everywhere : (f : Circuit) (table : List Edge) (nodes : List Node) → IsGraph nodes → IsCaredEdge f None table nodes (complement (plain 0))
cared_everywhere f table nodes graph =
    let one = one_value nodes graph in
    record { within = one.within; is = λ w valuation v agree. (λ is. tt, λ cared. one.value w valuation) }

-- the cared netlist's output
pub cared_is : (f c : Circuit) (table edges : List Edge) (nodes : List Node) (nets : List NetId) (d : NetId) (other : Edge) → IsCareOf f c → names_at (names c) nets ≡ c.outputs → AreNets (names c) nets → AreEdges nodes edges → length edges ≡ length (names c) → AreNetEdges f c table nodes edges → IsCaredEdge f (Some c) table nodes (get_or edges (get_or nets 0 d).0 other)
cared_is f c table edges nodes nets d other care named within all_edges len are = record {
  within = all_edges net.0 other (subst (λ (n : ℕ). net.0 < n) (sym len) lt);
  is = λ w valuation v agree.
      let s = values_of c w edges in
      let s_is = are.consistent w valuation in
      let bit : s name ≡ value_of w (get_or edges net.0 other) = value_at_name c w edges net.0 name (get_or edges net.0 other) care.checked.distinct len at_name (slice_get-get_or edges net.0 other (place_in_table c edges net.0 name len at_name)) in
      let inputs : AgreeOn c.inputs v s = λ input is. agree input ((care.inputs input).1 is) ∙ are.inputs w input is in (
        λ one u u_is same k d lt.
            let zero : k ≡ 0 = (let count = care.one_output in omega (arith, lt, count)) in
            let here : get_or c.outputs k d ≡ name = ap (λ (n : ℕ). get_or c.outputs n d) zero ∙ first d in
            let alike = closed_nets c u s care.checked care.closed u_is s_is (λ input is. sym (same input is) ∙ inputs input is) name net_is in
            ap u here ∙ alike ∙ bit ∙ one,
        λ cared. sym bit ∙ sym (ap s (first [])) ∙ cared s s_is inputs 0 [] (omega (arith, care.one_output)),
      );
}
  where
    net : NetId
    net = get_or nets 0 d

    name : List ℕ
    name = name_at (names c) net.0

    some : 0 < length nets
    some = omega (arith, care.one_output, ap length named, length-map nets (λ (net : NetId). name_at (names c) net.0))

    lt : net.0 < length (names c)
    lt = within 0 d some

    at_name : slice_get (names c) net.0 ≡ Some name
    at_name = slice_get-get_or (names c) net.0 [] lt

    net_is : Contains (names c) name
    net_is = Contains_at (names c) net.0 name at_name

    first : (none : List ℕ) → get_or c.outputs 0 none ≡ name
    first none =
        get_or_from_slice_get c.outputs 0 name none
        (ap (λ (list : List (List ℕ)). slice_get list 0) (sym named) ∙ slice_get-map (λ (net : NetId). name_at (names c) net.0) nets 0 ∙ ap (option_map (λ (net : NetId). name_at (names c) net.0)) (slice_get-get_or nets 0 d some))

-- what is asked of a netlist with f's ports
pub asked_are : (f : Circuit) (goal : Goal) (table inputs outputs : List Edge) (mid nodes : List Node) (most : ℕ) (cared : Edge) → HasInputEdges f inputs table → AreWanted f goal.spec table mid outputs → Grows mid nodes most → IsCaredEdge f goal.care table nodes cared → AreGoalEdges f goal nodes inputs outputs cared
asked_are f goal table inputs outputs mid nodes most cared given wanted grows is = record {
  within = edges_stay mid nodes most outputs grows wanted.within;
  cared_within = is.within;
  some = λ w valuation v has. wanted.some w (valuation_of_older mid nodes most w grows valuation) v (given w v has);
  outputs_are = λ w valuation v u has. wanted.outputs_are w (valuation_of_older mid nodes most w grows valuation) v u (given w v has);
  cared_is = λ w valuation v has. is.is w valuation v (given w v has);
}
