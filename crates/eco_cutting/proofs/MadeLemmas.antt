-- The netlist that cuts make: its nets, its gates, and that it is checked.
use Rattle.std.proofs.Common.{◌≡◌, ◌≢◌, ◌⊎◌, inl, inr, ℕ, List, ◌++◌, map, filter, refl, sym, ◌∙◌, ap, subst, append_assoc}
use Rattle.std.specs.List.{Contains}
use Rattle.std.proofs.lemmas.List.Elements.{All-contains, Contains-append_left, Contains-append_right, Contains-append_cases}
use Rattle.eco_lists.proofs.Members.{Contains-map, map-Contains, Contains-filter, filter-Contains}
use Rattle.eco_lists.proofs.Places.{All_from_places, Contains_at}
use Rattle.eco_meaning.specs.Names.{has}
use Rattle.eco_meaning.specs.Circuit.{Circuit, NamedGate, names, IsDriven, IsSignal, IsTarget}
use Rattle.eco_laws.specs.Sound.{IsSound}
use Rattle.eco_laws.proofs.Members.{cases_member, has-from_Contains}
use Rattle.eco_netlist.proofs.NameSets.{Contains-from_has}
use Rattle.eco_cutting.specs.Cuts.{Cut, driven_for, cut_gate, port_gate, cut_of, IsOldName, AreCuts, CutIsMade}
use Rattle.eco_cutting.proofs.CutNames.{net_of, target_of, old_of, ArePlaced}
use Rattle.eco_cutting.proofs.Picking.{picked_at, picked_not, picked_cases, pairs_across}

abbrev pub out_of : NamedGate → List ℕ
out_of g = g.out

module _ (f : Circuit) (cuts : List Cut) (sound : IsSound f) (are : AreCuts f cuts) where
  pub placed : ArePlaced f cuts
  placed = record { once = are.once; driven = are.driven; new = are.new }

  abbrev pub ports : List Cut
  ports = filter (λ c. has f.outputs c.net) cuts

  abbrev pub new_wires : List (List ℕ)
  new_wires = map target_of cuts ++ map old_of ports

  abbrev pub m : Circuit
  m = cut_of f cuts

  -- the nets are those of f and the new ones
  pub all_names : names m ≡ names f ++ new_wires
  all_names = sym (append_assoc f.ports f.wires new_wires)

  pub old_net : (name : List ℕ) → Contains (names f) name → Contains (names m) name
  old_net name c = subst (λ list. Contains list name) (sym all_names) (Contains-append_left (names f) new_wires name c)

  pub new_net : (name : List ℕ) → Contains new_wires name → Contains (names m) name
  new_net name c = subst (λ list. Contains list name) (sym all_names) (Contains-append_right (names f) new_wires name c)

  pub target_net : (c : Cut) → Contains cuts c → Contains (names m) c.target
  target_net c member = new_net c.target (Contains-append_left (map target_of cuts) (map old_of ports) c.target (Contains-map target_of cuts c member))

  net_cases : (name : List ℕ) → Contains (names m) name → Contains (names f) name ⊎ Contains (map target_of cuts) name ⊎ Contains (map old_of ports) name
  net_cases name c =
      elim (Contains-append_cases (names f) new_wires name (subst (λ list. Contains list name) all_names c)) [
        | inl old ↦ inl old
        | inr new ↦ inr (Contains-append_cases (map target_of cuts) (map old_of ports) name new)
      ]

  pub port_from : (c : Cut) → Contains ports c → Contains cuts c × Contains f.outputs c.net
  port_from c chosen =
      let (member, output) = filter-Contains (λ c. has f.outputs c.net) cuts c chosen in
      (member, Contains-from_has f.outputs c.net output)

  pub port_to : (c : Cut) → Contains cuts c → Contains f.outputs c.net → Contains ports c
  port_to c member output = Contains-filter (λ c. has f.outputs c.net) cuts c member (has-from_Contains f.outputs c.net output)

  pub cut_net : (c : Cut) → Contains cuts c → Contains (names f) c.net
  cut_net c member =
      let (g, has_g, same) = All-contains (λ c. IsDriven f c.net) cuts c are.driven member in
      subst (Contains (names f)) same (sound.driven_nets g has_g)

  -- the old name of a cut is a net
  pub old_named : (c : Cut) → Contains cuts c → Contains (names m) c.old
  old_named c member =
      let named = All-contains (IsOldName f) cuts c are.new.olds member in
      elim (cases_member f.outputs c.net) [
        | inl output ↦ new_net c.old (Contains-append_right (map target_of cuts) (map old_of ports) c.old (Contains-map old_of ports c (port_to c member output)))
        | inr wire ↦ old_net c.old (subst (Contains (names f)) (sym (named.wire wire)) (cut_net c member))
      ]

  -- the gates are those of f with the cuts, and those of ports
  pub gate_cases : (h : NamedGate) → Contains m.gates h → ((g : NamedGate) × Contains f.gates g × (cut_gate cuts g ≡ h)) ⊎ ((c : Cut) × Contains ports c × (port_gate c ≡ h))
  gate_cases h member =
      elim (Contains-append_cases (map (cut_gate cuts) f.gates) (map port_gate ports) h member) [
        | inl plain ↦ inl (map-Contains (cut_gate cuts) f.gates h plain)
        | inr port ↦ inr (map-Contains port_gate ports h port)
      ]

  gate_in : (g : NamedGate) → Contains f.gates g → Contains m.gates (cut_gate cuts g)
  gate_in g member = Contains-append_left (map (cut_gate cuts) f.gates) (map port_gate ports) (cut_gate cuts g) (Contains-map (cut_gate cuts) f.gates g member)

  -- a net is driven under its own name or, if it is cut, under the old one
  pub driven_cases : (name : List ℕ) → ((Contains (map net_of cuts) name → ⊥) × (driven_for cuts name ≡ name)) ⊎ ((c : Cut) × Contains cuts c × (c.net ≡ name) × (driven_for cuts name ≡ c.old))
  driven_cases name =
      elim (picked_cases net_of cuts name) [
        | inr none ↦ inl (none, picked_not net_of old_of cuts name name none)
        | inl some ↦
            let (c, member, same) = some in
            inr (c, member, same, ap (driven_for cuts) (sym same) ∙ picked_at net_of old_of cuts c c.net are.once member)
      ]

  -- nothing drives a target
  pub target_free : (c : Cut) → Contains cuts c → IsDriven m c.target → ⊥
  target_free c member driven =
      let (h, in_m, at) = driven in
      let fresh = All-contains (λ c. Contains (names f) c.target → ⊥) cuts c are.new.fresh member in
      elim (gate_cases h in_m) [
        | inl plain ↦
            let (g, in_f, is) = plain in
            let here : driven_for cuts g.out ≡ c.target = ap out_of is ∙ at in
            elim (driven_cases g.out) [
              | inl uncut ↦ fresh (subst (Contains (names f)) (sym uncut.1 ∙ here) (sound.driven_nets g in_f))
              | inr cut ↦
                  let (d, in_cuts, same, old) = cut in
                  pairs_across (λ a b. a ≢ b) (map target_of cuts) (map old_of cuts) c.target d.old are.new.apart (Contains-map target_of cuts c member) (Contains-map old_of cuts d in_cuts) (sym here ∙ old)
            ]
        | inr port ↦
            let (d, chosen, is) = port in
            fresh (subst (Contains (names f)) (ap out_of is ∙ at) (cut_net d (port_from d chosen).0))
      ]

  -- what a gate drove is driven, and so are the old names
  old_driven : (c : Cut) → Contains cuts c → IsDriven m c.old
  old_driven c member =
      let (g, in_f, same) = All-contains (λ c. IsDriven f c.net) cuts c are.driven member in
      (cut_gate cuts g, gate_in g in_f, ap (driven_for cuts) same ∙ picked_at net_of old_of cuts c c.net are.once member)

  still_driven : (name : List ℕ) → IsDriven f name → IsDriven m name
  still_driven name driven =
      let (g, in_f, at) = driven in
      elim (driven_cases name) [
        | inl uncut ↦ (cut_gate cuts g, gate_in g in_f, ap (driven_for cuts) at ∙ uncut.1)
        | inr cut ↦
            let (c, member, same, old) = cut in
            elim (cases_member f.outputs c.net) [
              | inl output ↦ (port_gate c, Contains-append_right (map (cut_gate cuts) f.gates) (map port_gate ports) (port_gate c) (Contains-map port_gate ports c (port_to c member output)), same)
              | inr wire ↦
                  let named = All-contains (IsOldName f) cuts c are.new.olds member in
                  (cut_gate cuts g, gate_in g in_f, ap (driven_for cuts) at ∙ old ∙ named.wire wire ∙ same)
            ]
      ]

  -- the nets that are left without a driver are those of f and the targets
  pub free_cases : (name : List ℕ) → Contains (names m) name → (IsSignal m name → ⊥) → IsTarget f name ⊎ Contains (map target_of cuts) name
  free_cases name net free =
      elim (net_cases name net) [
        | inl old ↦ inl (record { net = old; free = λ signal. elim signal [ inl input ↦ free (inl input) | inr driven ↦ free (inr (still_driven name driven)) ] })
        | inr new ↦ elim new [
          | inl target ↦ inr target
          | inr port ↦
              let (c, chosen, same) = map-Contains old_of ports name port in
              absurd (free (inr (subst (IsDriven m) same (old_driven c (port_from c chosen).0))))
        ]
      ]

  target_is : (name : List ℕ) → Contains (map target_of cuts) name → IsTarget m name
  target_is name c =
      let (cut, member, same) = map-Contains target_of cuts name c in
      subst (IsTarget m) same (record {
        net = target_net cut member;
        free = λ signal. elim signal [
          | inl input ↦ All-contains (λ c. Contains (names f) c.target → ⊥) cuts cut are.new.fresh member (sound.inputs cut.target input)
          | inr driven ↦ target_free cut member driven
        ];
      })

pub cut_is_made : CutIsMade
cut_is_made f cuts sound closed are = record {
  cuts = cuts;
  named = refl;
  title = refl;
  ports = refl;
  inputs = refl;
  outputs = refl;
  gates = refl;
  targets = record {
    named = are.named;
    ordered = are.ordered;
    sound = All_from_places (IsTarget (cut_of f cuts)) (map target_of cuts) (λ k name at. target_is f cuts sound are name (Contains_at (map target_of cuts) k name at));
    complete = λ name target. elim (free_cases f cuts sound are name target.net target.free) [ inl old ↦ absurd (closed name old) | inr new ↦ new ];
  };
  new = are.new;
}
