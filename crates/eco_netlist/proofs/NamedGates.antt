-- The gates of a checked netlist over the numbers of its nets: no two drive one net, and none stand in a circle.
use Rattle.std.proofs.Common.{◌≡◌, ◌≢◌, ℕ, List, [], ◌∷◌, Some, map, refl, sym, ◌∙◌, ap, subst, arith}
use Rattle.std.specs.Prelude.{option_map}
use Rattle.std.specs.List.{slice_get, All, Contains}
use Rattle.std.proofs.lemmas.List.Elements.{All-cons}
use Rattle.std.proofs.lemmas.Option.{slice_get-map, same_Some}
use Rattle.eco_meaning.specs.Circuit.{Circuit, NamedGate, names, IsChain, IsCircle, IsReadBy, last_of}
use Rattle.eco_meaning.specs.declared.name.Operand.TheVariants.{Named}
use Rattle.eco_gates.specs.declared.gate.Term.TheVariants.{Net}
use Rattle.eco_gates.specs.GateValue.{GateValue}
use Rattle.eco_gates.specs.Gates.{IsOnceDriven, ReadsOut}
use Rattle.eco_lists.proofs.Places.{place_of, Contains_at, pairs_from_places}
use Rattle.eco_netlist.specs.Netlists.{IsChecked, AreGates, name_at, named_term, named_gate}
use Rattle.eco_netlist.proofs.NameLemmas.{one_place}
use Rattle.eco_netlist.proofs.ValueLemmas.{IsNamed, named_member}

-- the gates of a checked netlist by their numbers
pub checked_named : (n : Circuit) (gates : List GateValue) → IsChecked n → AreGates n gates → IsNamed n (names n) gates
checked_named n gates checked are = record {
  numbers = refl;
  named = sym are.named;
  within = are.within;
  distinct = checked.distinct;
}

-- no two of them drive one net
pub once_driven : (n : Circuit) (gates : List GateValue) → IsChecked n → IsNamed n (names n) gates → IsOnceDriven gates
once_driven n gates checked is =
    pairs_from_places (λ g h. g.out.0 ≢ h.out.0) gates (λ i j g h lt at_i at_j same.
    let outs = map (λ (g : NamedGate). g.out) n.gates in
    let at_out : (k : ℕ) (g : GateValue) → slice_get gates k ≡ Some g → slice_get outs k ≡ Some (name_at (names n) g.out.0) = λ k g at.
    slice_get-map (λ (g : NamedGate). g.out) n.gates k
    ∙ ap (option_map (λ (g : NamedGate). g.out)) (ap (λ (list : List NamedGate). slice_get list k) is.named ∙ slice_get-map (named_gate (names n)) gates k ∙ ap (option_map (named_gate (names n))) at) in
    let at_j_same : slice_get outs j ≡ Some (name_at (names n) g.out.0) = at_out j h at_j ∙ ap (λ (k : ℕ). Some (name_at (names n) k)) (sym same) in
    let equal = one_place outs i j (name_at (names n) g.out.0) checked.driven_once (at_out i g at_i) at_j_same in
    omega (arith, lt, equal))

-- a gate that reads the output of another by their numbers reads it by their names
reads_by_name : (list : List (List ℕ)) (gates : List GateValue) (i j : ℕ) (g : GateValue) → slice_get gates i ≡ Some g → (reads : ReadsOut gates i j) → IsReadBy (named_gate list g) (named_gate list reads.reader)
reads_by_name list gates i j g at reads =
    let same : reads.driver ≡ g = same_Some reads.driver g (sym reads.driver_at ∙ at) in
    let place = place_of reads.reader.ins (Net reads.driver.out) reads.reads in
    let named : slice_get (map (named_term list) reads.reader.ins) place.0 ≡ Some (Named (name_at list reads.driver.out.0)) = slice_get-map (named_term list) reads.reader.ins place.0 ∙ ap (option_map (named_term list)) place.1 in
    Contains_at (map (named_term list) reads.reader.ins) place.0 (Named (name_at list g.out.0)) (named ∙ ap (λ (d : GateValue). Some (Named (name_at list d.out.0))) same)

-- a circle of gates by their numbers is one by their names
chain_by_name : (n : Circuit) (gates : List GateValue) (i : ℕ) (g : GateValue) (rest : List ℕ) → IsNamed n (names n) gates → slice_get gates i ≡ Some g → IsChain (ReadsOut gates) i rest → (others : List NamedGate) × IsChain IsReadBy (named_gate (names n) g) others × All (Contains n.gates) others × ((h : GateValue) × (slice_get gates (last_of i rest) ≡ Some h) × (last_of (named_gate (names n) g) others ≡ named_gate (names n) h))
chain_by_name n gates i g [] is at chain = ([], tt, (λ k d lt. absurd (omega arith)), (g, at, refl))
chain_by_name n gates i g (j ∷ rest) is at chain =
    let reads = chain.0 in
    let h = reads.reader in
    let more = chain_by_name n gates j h rest is reads.reader_at chain.1 in (
      named_gate (names n) h ∷ more.0,
      (reads_by_name (names n) gates i j g at reads, more.1),
      All-cons (Contains n.gates) (named_gate (names n) h) more.0 (named_member n (names n) gates j h is.named reads.reader_at) more.2,
      more.3,
    )

pub no_circle : (n : Circuit) (gates : List GateValue) (circle : List ℕ) → IsChecked n → IsNamed n (names n) gates → IsCircle (ReadsOut gates) circle → ⊥
no_circle n gates [] checked is circle = circle
no_circle n gates (i ∷ rest) checked is circle =
    let closing = circle.1 in
    let g = closing.reader in
    let more = chain_by_name n gates i g rest is closing.reader_at circle.0 in
    let end = more.3 in
    let closed : IsReadBy (named_gate (names n) end.0) (named_gate (names n) g) = reads_by_name (names n) gates (last_of i rest) i end.0 end.1 closing in
    checked.loop_free (named_gate (names n) g ∷ more.0) (record {
      members = All-cons (Contains n.gates) (named_gate (names n) g) more.0 (named_member n (names n) gates i g is.named closing.reader_at) more.2;
      circle = (more.1, subst (λ (last : NamedGate). IsReadBy last (named_gate (names n) g)) (sym end.2) closed);
    })
