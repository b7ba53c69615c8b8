-- Cuts of a checked netlist make a checked netlist.
use Rattle.std.proofs.Common.{◌≡◌, ◌≢◌, ◌⊎◌, inl, inr, ℕ, List, [], ◌∷◌, length, map, IsTrue, refl, sym, ◌∙◌, ap, subst}
use Rattle.std.specs.List.{All, AllPairs, Contains, IsDistinct}
use Rattle.std.specs.Str.{bytes_eq}
use Rattle.std.proofs.lemmas.List.{length-map, map-append}
use Rattle.std.proofs.lemmas.List.Elements.{All-contains, All-cons, All-nil, All-head, All-tail, Contains-append_left, Contains-append_cases}
use Rattle.std.proofs.lemmas.List.Kept.{AllPairs-filter}
use Rattle.std.proofs.lemmas.Map.Made.{IsDistinct-from_AllPairs}
use Rattle.std.proofs.lemmas.Slice.Eq.{bytes_eq-Decides}
use Rattle.eco_lists.proofs.Members.{Contains-map, map-Contains, map-map, only_one}
use Rattle.eco_lists.proofs.Places.{Contains_at, pair_at, pairs_from_places}
use Rattle.eco_meaning.specs.declared.name.Operand.{Operand}
use Rattle.eco_meaning.specs.declared.name.Operand.TheVariants.{Zero, One, Named}
use Rattle.eco_meaning.specs.Gates.{FitsKind}
use Rattle.eco_meaning.specs.Names.{has, is_target_text}
use Rattle.eco_meaning.specs.Circuit.{Circuit, NamedGate, names, Reads, IsDriven, IsChain, IsReadBy, IsLoopFree, last_of}
use Rattle.eco_laws.specs.Sound.{IsSound}
use Rattle.eco_netlist.specs.Netlists.{IsChecked}
use Rattle.eco_netlist.proofs.NameSets.{IsDistinct-append}
use Rattle.eco_netlist.proofs.SoundNetlists.{sound_netlist}
use Rattle.eco_cutting.specs.Cuts.{Cut, read_for, driven_for, read_operand, cut_gate, port_gate, cut_of, IsOldName, AreCuts, CutIsChecked}
use Rattle.eco_cutting.proofs.CutNames.{net_of, target_of, old_of, olds_apart, targets_apart, input_uncut, no_target, old_is_wire}
use Rattle.eco_cutting.proofs.MadeLemmas.{out_of, ports, new_wires, placed, all_names, old_net, target_net, port_from, cut_net, old_named, gate_cases, driven_cases, target_free, free_cases}
use Rattle.eco_cutting.proofs.Picking.{picked_at, picked_not, picked_cases, pairs_across, pairs_to_map, pairs_from_map, one_item}

-- the operand of a cut gate comes from one that the gate had
operand_from : (cuts : List Cut) (term : Operand) (name : List ℕ) → read_operand cuts term ≡ Named name → (own : List ℕ) × (term ≡ Named own) × (read_for cuts own ≡ name)
operand_from cuts Zero name e = absurd (cc e)
operand_from cuts One name e = absurd (cc e)
operand_from cuts (Named own) name e = (own, refl, cc e)

module _ (f : Circuit) (cuts : List Cut) (checked : IsChecked f) (are : AreCuts f cuts) where
  sound : IsSound f
  sound = sound_netlist f checked

  abbrev m : Circuit
  m = cut_of f cuts

  -- what a cut gate reads: the target of a cut, or a net of the gate that isn't cut
  read_cases : (g : NamedGate) → Contains f.gates g → (name : List ℕ) → Reads (cut_gate cuts g) name →
      ((c : Cut) × Contains cuts c × (c.target ≡ name)) ⊎ (Reads g name × (Contains (map net_of cuts) name → ⊥))
  read_cases g member name reads =
      let (term, in_terms, is) = map-Contains (read_operand cuts) g.terms (Named name) reads in
      let (own, named, read) = operand_from cuts term name is in
      let has_own : Contains g.terms (Named own) = subst (Contains g.terms) named in_terms in
      elim (picked_cases net_of cuts own) [
        | inl some ↦
            let (c, in_cuts, same) = some in
            inl (c, in_cuts, sym (picked_at net_of target_of cuts c c.net are.once in_cuts) ∙ ap (read_for cuts) same ∙ read)
        | inr none ↦
            let here : own ≡ name = sym (picked_not net_of target_of cuts own own none) ∙ read in
            inr (subst (λ n. Reads g n) here has_own, subst (λ n. Contains (map net_of cuts) n → ⊥) here none)
      ]

  driven_net : (g : NamedGate) → Contains m.gates g → Contains (names m) g.out
  driven_net h member =
      elim (gate_cases f cuts sound are h member) [
        | inl plain ↦
            let (g, in_f, is) = plain in
            subst (λ (k : NamedGate). Contains (names m) k.out) is (elim (driven_cases f cuts sound are g.out) [
              | inl uncut ↦ subst (Contains (names m)) (sym uncut.1) (old_net f cuts sound are g.out (sound.driven_nets g in_f))
              | inr cut ↦ let (c, in_cuts, same, old) = cut in subst (Contains (names m)) (sym old) (old_named f cuts sound are c in_cuts)
            ])
        | inr port ↦
            let (c, chosen, is) = port in
            subst (λ (k : NamedGate). Contains (names m) k.out) is (old_net f cuts sound are c.net (cut_net f cuts sound are c (port_from f cuts sound are c chosen).0))
      ]

  -- a port's gate reads the target alone
  port_reads : (c : Cut) (name : List ℕ) → Reads (port_gate c) name → c.target ≡ name
  port_reads c name reads = let one = only_one (Named c.target) (Named name) reads in cc one

  read_net : (g : NamedGate) → Contains m.gates g → (name : List ℕ) → Reads g name → Contains (names m) name
  read_net h member name reads =
      elim (gate_cases f cuts sound are h member) [
        | inl plain ↦
            let (g, in_f, is) = plain in
            elim (read_cases g in_f name (subst (λ (k : NamedGate). Reads k name) (sym is) reads)) [
              | inl target ↦ let (c, in_cuts, same) = target in subst (Contains (names m)) same (target_net f cuts sound are c in_cuts)
              | inr own ↦ old_net f cuts sound are name (sound.read_nets g in_f name own.0)
            ]
        | inr port ↦
            let (c, chosen, is) = port in
            subst (Contains (names m)) (port_reads c name (subst (λ (k : NamedGate). Reads k name) (sym is) reads)) (target_net f cuts sound are c (port_from f cuts sound are c chosen).0)
      ]

  arity : (g : NamedGate) → Contains m.gates g → FitsKind g.kind (length g.terms)
  arity h member =
      elim (gate_cases f cuts sound are h member) [
        | inl plain ↦
            let (g, in_f, is) = plain in
            subst (λ (k : NamedGate). FitsKind k.kind (length k.terms)) is (subst (FitsKind g.kind) (sym (length-map g.terms (read_operand cuts))) (checked.arities g in_f))
        | inr port ↦
            let (c, chosen, is) = port in
            subst (λ (k : NamedGate). FitsKind k.kind (length k.terms)) is refl
      ]

  -- the new names of two nets differ if the nets do
  driven_one : (a b : List ℕ) → Contains (names f) a → Contains (names f) b → driven_for cuts a ≡ driven_for cuts b → a ≡ b
  driven_one a b net_a net_b same =
      elim (driven_cases f cuts sound are a) [
        | inl plain_a ↦ elim (driven_cases f cuts sound are b) [
          | inl plain_b ↦ sym plain_a.1 ∙ same ∙ plain_b.1
          | inr cut_b ↦
              let (d, in_cuts, at, old) = cut_b in
              absurd (plain_a.0 (old_is_wire f cuts (placed f cuts sound are) a net_a (subst (Contains (map old_of cuts)) (sym old ∙ sym same ∙ plain_a.1) (Contains-map old_of cuts d in_cuts))).0)
        ]
        | inr cut_a ↦
            let (c, in_a, at_a, old_a) = cut_a in
            elim (driven_cases f cuts sound are b) [
              | inl plain_b ↦
                  absurd (plain_b.0 (old_is_wire f cuts (placed f cuts sound are) b net_b (subst (Contains (map old_of cuts)) (sym old_a ∙ same ∙ plain_b.1) (Contains-map old_of cuts c in_a))).0)
              | inr cut_b ↦
                  let (d, in_b, at_b, old_b) = cut_b in
                  let one : c ≡ d = one_item old_of cuts c d (olds_apart f cuts (placed f cuts sound are)) in_a in_b (sym old_a ∙ same ∙ old_b) in
                  sym at_a ∙ ap net_of one ∙ at_b
            ]
      ]

  driven_once : IsDistinct bytes_eq (map out_of m.gates)
  driven_once =
      let plain = map (cut_gate cuts) f.gates in
      let chosen = ports f cuts sound are in
      let front : AllPairs (λ a b. a ≢ b) (map (λ (g : NamedGate). driven_for cuts g.out) f.gates) =
      pairs_to_map (λ (g : NamedGate). driven_for cuts g.out) f.gates (pairs_from_places (λ g h. driven_for cuts g.out ≢ driven_for cuts h.out) f.gates (λ i j g h less at_i at_j same.
      pair_at (λ (g h : NamedGate). g.out ≢ h.out) f.gates i j g h (pairs_from_map out_of f.gates sound.driven_once) less at_i at_j
      (driven_one g.out h.out (sound.driven_nets g (Contains_at f.gates i g at_i)) (sound.driven_nets h (Contains_at f.gates j h at_j)) same))) in
      let back : AllPairs (λ a b. a ≢ b) (map net_of chosen) =
      pairs_to_map net_of chosen (AllPairs-filter (λ a b. net_of a ≢ net_of b) (λ c. has f.outputs c.net) cuts (pairs_from_map net_of cuts are.once)) in
      subst (IsDistinct bytes_eq) (sym (map-append out_of plain (map port_gate chosen)))
      (IsDistinct-append (map out_of plain) (map out_of (map port_gate chosen))
      (IsDistinct-from_AllPairs bytes_eq-Decides (map out_of plain) (subst (AllPairs (λ a b. a ≢ b)) (sym (map-map (cut_gate cuts) out_of f.gates)) front))
      (IsDistinct-from_AllPairs bytes_eq-Decides (map out_of (map port_gate chosen)) (subst (AllPairs (λ a b. a ≢ b)) (sym (map-map port_gate out_of chosen)) back))
      apart)
    where
      apart : (name : List ℕ) → Contains (map out_of (map (cut_gate cuts) f.gates)) name → Contains (map out_of (map port_gate (ports f cuts sound are))) name → ⊥
      apart name one other =
          let (g, in_f, is) = map-Contains (λ (g : NamedGate). driven_for cuts g.out) f.gates name (subst (λ list. Contains list name) (map-map (cut_gate cuts) out_of f.gates) one) in
          let (c, chosen, at) = map-Contains net_of (ports f cuts sound are) name (subst (λ list. Contains list name) (map-map port_gate out_of (ports f cuts sound are)) other) in
          let (in_cuts, output) = port_from f cuts sound are c chosen in
          elim (driven_cases f cuts sound are g.out) [
            | inl plain ↦ plain.0 (subst (Contains (map net_of cuts)) (at ∙ sym is ∙ plain.1) (Contains-map net_of cuts c in_cuts))
            | inr cut ↦
                let (d, in_d, same, old) = cut in
                (old_is_wire f cuts (placed f cuts sound are) c.net (cut_net f cuts sound are c in_cuts)
                (subst (Contains (map old_of cuts)) (sym old ∙ is ∙ sym at) (Contains-map old_of cuts d in_d))).1 output
          ]

  input_free : (name : List ℕ) → Contains f.inputs name → IsDriven m name → ⊥
  input_free name input driven =
      let (h, member, at) = driven in
      let uncut = input_uncut f sound cuts (placed f cuts sound are) name input in
      elim (gate_cases f cuts sound are h member) [
        | inl plain ↦
            let (g, in_f, is) = plain in
            let here : driven_for cuts g.out ≡ name = ap out_of is ∙ at in
            elim (driven_cases f cuts sound are g.out) [
              | inl own ↦ sound.inputs_free name input (g, in_f, sym own.1 ∙ here)
              | inr cut ↦
                  let (c, in_cuts, same, old) = cut in
                  uncut (old_is_wire f cuts (placed f cuts sound are) name (sound.inputs name input) (subst (Contains (map old_of cuts)) (sym old ∙ here) (Contains-map old_of cuts c in_cuts))).0
            ]
        | inr port ↦
            let (c, chosen, is) = port in
            uncut (subst (Contains (map net_of cuts)) (ap out_of is ∙ at) (Contains-map net_of cuts c (port_from f cuts sound are c chosen).0))
      ]

  distinct : IsDistinct bytes_eq (names m)
  distinct =
      let chosen = ports f cuts sound are in
      let olds : AllPairs (λ a b. a ≢ b) (map old_of chosen) =
      pairs_to_map old_of chosen (AllPairs-filter (λ a b. old_of a ≢ old_of b) (λ c. has f.outputs c.net) cuts (pairs_from_map old_of cuts (olds_apart f cuts (placed f cuts sound are)))) in
      let new : IsDistinct bytes_eq (new_wires f cuts sound are) =
      IsDistinct-append (map target_of cuts) (map old_of chosen)
      (IsDistinct-from_AllPairs bytes_eq-Decides (map target_of cuts) (targets_apart f cuts (placed f cuts sound are)))
      (IsDistinct-from_AllPairs bytes_eq-Decides (map old_of chosen) olds)
      (λ name target old.
      let (c, in_ports, same) = map-Contains old_of chosen name old in
      pairs_across (λ a b. a ≢ b) (map target_of cuts) (map old_of cuts) name name are.new.apart target
      (subst (Contains (map old_of cuts)) same (Contains-map old_of cuts c (port_from f cuts sound are c in_ports).0)) refl) in
      subst (IsDistinct bytes_eq) (sym (all_names f cuts sound are))
      (IsDistinct-append (names f) (new_wires f cuts sound are) checked.distinct new (λ name net other.
      elim (Contains-append_cases (map target_of cuts) (map old_of chosen) name other) [
        | inl target ↦ no_target f cuts (placed f cuts sound are) name net target
        | inr old ↦
            let (c, in_ports, same) = map-Contains old_of chosen name old in
            let (in_cuts, output) = port_from f cuts sound are c in_ports in
            (All-contains (IsOldName f) cuts c are.new.olds in_cuts).port output (subst (Contains (names f)) (sym same) net)
      ]))

  -- a gate that reads the output of another is a gate of f with the cuts
  reader_from : (g h : NamedGate) → Contains m.gates g → Contains m.gates h → IsReadBy g h → (k : NamedGate) × Contains f.gates k × (cut_gate cuts k ≡ h)
  reader_from g h in_g in_h reads =
      elim (gate_cases f cuts sound are h in_h) [
        | inl plain ↦ plain
        | inr port ↦
            let (c, chosen, is) = port in
            let at : c.target ≡ g.out = port_reads c g.out (subst (λ (k : NamedGate). Reads k g.out) (sym is) reads) in
            absurd (target_free f cuts sound are c (port_from f cuts sound are c chosen).0 (g, in_g, sym at))
      ]

  -- a gate with the cuts that reads another one's output did so before
  read_before : (g h : NamedGate) → Contains f.gates g → Contains f.gates h → IsReadBy (cut_gate cuts g) (cut_gate cuts h) → IsReadBy g h
  read_before g h in_g in_h reads =
      elim (read_cases h in_h (driven_for cuts g.out) reads) [
        | inl target ↦
            let (c, in_cuts, same) = target in
            absurd (target_free f cuts sound are c in_cuts (cut_gate cuts g, Contains-append_left (map (cut_gate cuts) f.gates) (map port_gate (ports f cuts sound are)) (cut_gate cuts g) (Contains-map (cut_gate cuts) f.gates g in_g), sym same))
        | inr own ↦ elim (driven_cases f cuts sound are g.out) [
          | inl plain ↦ subst (λ n. Reads h n) plain.1 own.0
          | inr cut ↦
              let (c, in_cuts, same, old) = cut in
              absurd (own.1 (old_is_wire f cuts (placed f cuts sound are) (driven_for cuts g.out) (sound.read_nets h in_h (driven_for cuts g.out) own.0)
              (subst (Contains (map old_of cuts)) (sym old) (Contains-map old_of cuts c in_cuts))).0)
        ]
      ]

  -- a chain of gates was one before
  chain_before : (g : NamedGate) → Contains f.gates g → (hs : List NamedGate) → All (Contains m.gates) hs → IsChain IsReadBy (cut_gate cuts g) hs →
      (ks : List NamedGate) × All (Contains f.gates) ks × IsChain IsReadBy g ks × Contains f.gates (last_of g ks) × (last_of (cut_gate cuts g) hs ≡ cut_gate cuts (last_of g ks))
  chain_before g in_f [] members chain = ([], All-nil (Contains f.gates), tt, in_f, refl)
  chain_before g in_f (h ∷ hs) members chain =
      let in_m = Contains-append_left (map (cut_gate cuts) f.gates) (map port_gate (ports f cuts sound are)) (cut_gate cuts g) (Contains-map (cut_gate cuts) f.gates g in_f) in
      let (k, in_k, is) = reader_from (cut_gate cuts g) h in_m (All-head (Contains m.gates) h hs members) chain.0 in
      let (ks, in_ks, more, in_last, last) = chain_before k in_k hs (All-tail (Contains m.gates) h hs members) (subst (λ x. IsChain IsReadBy x hs) (sym is) chain.1) in
      let step : IsReadBy g k = read_before g k in_f in_k (subst (IsReadBy (cut_gate cuts g)) (sym is) chain.0) in
      (k ∷ ks, All-cons (Contains f.gates) k ks in_k in_ks, (step, more), in_last, ap (λ x. last_of x hs) (sym is) ∙ last)

  last_member : (h : NamedGate) (hs : List NamedGate) → All (Contains m.gates) (h ∷ hs) → Contains m.gates (last_of h hs)
  last_member h [] members = All-head (Contains m.gates) h [] members
  last_member h (x ∷ xs) members = last_member x xs (All-tail (Contains m.gates) h (x ∷ xs) members)

  loop_free : IsLoopFree m
  loop_free [] is = is.circle
  loop_free (h ∷ hs) is =
      let (k, in_k, same) = reader_from (last_of h hs) h (last_member h hs is.members) (All-head (Contains m.gates) h hs is.members) is.circle.1 in
      let (ks, in_ks, chain, in_last, last) = chain_before k in_k hs (All-tail (Contains m.gates) h hs is.members) (subst (λ x. IsChain IsReadBy x hs) (sym same) is.circle.0) in
      let closing : IsReadBy (cut_gate cuts (last_of k ks)) (cut_gate cuts k) =
      subst (λ x. IsReadBy x (cut_gate cuts k)) (ap (λ x. last_of x hs) (sym same) ∙ last) (subst (IsReadBy (last_of h hs)) (sym same) is.circle.1) in
      sound.loop_free (k ∷ ks) (record {
        members = All-cons (Contains f.gates) k ks in_k in_ks;
        circle = (chain, read_before (last_of k ks) k in_last in_k closing);
      })

  pub all_checked : IsChecked m
  all_checked = record {
    distinct = distinct;
    inputs = checked.inputs;
    outputs = checked.outputs;
    directed = checked.directed;
    driven_nets = driven_net;
    read_nets = read_net;
    arities = arity;
    driven_once = driven_once;
    inputs_free = input_free;
    undriven = λ name net free. elim (free_cases f cuts sound are name net free) [
      | inl old ↦ checked.undriven name old.net old.free
      | inr target ↦ All-contains (λ target. IsTrue (is_target_text target)) (map target_of cuts) name are.named target
    ];
    loop_free = loop_free;
  }

pub cut_is_checked : CutIsChecked
cut_is_checked f cuts checked are = all_checked f cuts checked are
