-- Netlists whose outputs are targets and whose inputs are base signals, with gates that drive exactly their wires and
-- the targets: they are checked, and have no target of their own.
use Rattle.std.proofs.Common.{◌≡◌, ℕ, ◌<◌, ◌≤◌, inl, inr, Bool, false, not, List, [], ◌∷◌, ◌++◌, length, map, refl, sym, ◌∙◌, subst, arith}
use Rattle.std.specs.List.{All, Contains, IsDistinct, filter}
use Rattle.std.specs.Str.{bytes_eq}
use Rattle.std.proofs.lemmas.List.{append-nil}
use Rattle.std.proofs.lemmas.List.Elements.{All-head, All-tail, Contains-append_left, Contains-append_right, Contains-append_cases, filter-append}
use Rattle.eco_lists.proofs.Members.{Contains-map, Contains_first, Contains_later, map-Contains}
use Rattle.eco_meaning.specs.Gates.{FitsKind}
use Rattle.eco_meaning.specs.Names.{has}
use Rattle.eco_meaning.specs.Circuit.{Circuit, NamedGate, Reads, IsSignal, IsTarget, IsReadBy, IsChain, IsLoopFree, last_of}
use Rattle.eco_netlist.specs.Netlists.{IsChecked}
use Rattle.eco_netlist.proofs.NameSets.{filter_all, has-from_Contains, has-from_absent, IsDistinct-append, distinct_front, distinct_back, distinct_apart}

abbrev pub patch_of : List ℕ → List (List ℕ) → List (List ℕ) → List (List ℕ) → List NamedGate → Circuit
patch_of title targets base wires gates = record {
  title = title;
  ports = targets ++ base;
  inputs = base;
  outputs = targets;
  wires = wires;
  gates = gates;
}

pub record IsPatchShape (title : List ℕ) (targets base wires : List (List ℕ)) (gates : List NamedGate) : Type 0 where
  pub distinct : IsDistinct bytes_eq (targets ++ base ++ wires)
  pub outs : map (λ g. g.out) gates ≡ wires ++ targets
  pub reads : (g : NamedGate) → Contains gates g → (name : List ℕ) → Reads g name → Contains (targets ++ base ++ wires) name
  pub arities : (g : NamedGate) → Contains gates g → FitsKind g.kind (length g.terms)
  pub loop_free : IsLoopFree (patch_of title targets base wires gates)

-- a test that no element passes keeps none
filter_none : {X : Type 0} (p : X → Bool) (xs : List X) → ((x : X) → Contains xs x → p x ≡ false) → filter p xs ≡ []
filter_none p [] h = refl
filter_none p (x ∷ xs) h = rw (h x (Contains_first x xs)) (filter_none p xs (λ y c. h y (Contains_later x y xs c)))

-- targets and base signals have no name in common, nor have they with the wires
targets_apart : (targets base wires : List (List ℕ)) → IsDistinct bytes_eq (targets ++ base ++ wires) → (name : List ℕ) → Contains targets name → Contains base name → ⊥
targets_apart targets base wires d = distinct_apart targets base (distinct_front (targets ++ base) wires d)

-- the gates drive the wires and the targets
drives_all : (wires targets : List (List ℕ)) (gates : List NamedGate) → map (λ g. g.out) gates ≡ wires ++ targets → (name : List ℕ) → Contains (wires ++ targets) name → (g : NamedGate) × Contains gates g × (g.out ≡ name)
drives_all wires targets gates outs name c =
    map-Contains (λ (g : NamedGate). g.out) gates name (subst (λ l. Contains l name) (sym outs) c)

drives_only : (wires targets : List (List ℕ)) (gates : List NamedGate) → map (λ g. g.out) gates ≡ wires ++ targets → (g : NamedGate) → Contains gates g → Contains (wires ++ targets) g.out
drives_only wires targets gates outs g c =
    subst (λ l. Contains l g.out) outs (Contains-map (λ (h : NamedGate). h.out) gates g c)

-- each net is a signal
settled : (title : List ℕ) (targets base wires : List (List ℕ)) (gates : List NamedGate) → IsPatchShape title targets base wires gates → (name : List ℕ) → Contains (targets ++ base ++ wires) name → IsSignal (patch_of title targets base wires gates) name
settled title targets base wires gates shape name c =
    elim (Contains-append_cases (targets ++ base) wires name c) [
      | inl port ↦ elim (Contains-append_cases targets base name port) [
        | inl target ↦ inr (drives_all wires targets gates shape.outs name (Contains-append_right wires targets name target))
        | inr input ↦ inl input
      ]
      | inr wire ↦ inr (drives_all wires targets gates shape.outs name (Contains-append_left wires targets name wire))
    ]

pub closed_patch : (title : List ℕ) (targets base wires : List (List ℕ)) (gates : List NamedGate) → IsPatchShape title targets base wires gates → (name : List ℕ) → IsTarget (patch_of title targets base wires gates) name → ⊥
closed_patch title targets base wires gates shape name target =
    target.free (settled title targets base wires gates shape name target.net)

directions : (targets base : List (List ℕ)) → ((name : List ℕ) → Contains targets name → Contains base name → ⊥) → (name : List ℕ) → Contains (targets ++ base) name → has base name ≡ not (has targets name)
directions targets base apart name c =
    elim (Contains-append_cases targets base name c) [
      | inl target ↦ rw (has-from_Contains targets name target, has-from_absent base name (apart name target)) refl
      | inr input ↦ rw (has-from_Contains base name input, has-from_absent targets name (λ target. apart name target input)) refl
    ]

pub IsChecked-patch : (title : List ℕ) (targets base wires : List (List ℕ)) (gates : List NamedGate) → IsPatchShape title targets base wires gates → IsChecked (patch_of title targets base wires gates)
IsChecked-patch title targets base wires gates shape =
    let apart = targets_apart targets base wires shape.distinct in
    let wires_apart = distinct_apart (targets ++ base) wires shape.distinct in
    record {
      distinct = shape.distinct;
      inputs = sym (filter-append (has base) targets base
          ∙ rw (filter_none (has base) targets (λ name c. has-from_absent base name (apart name c))) (filter_all (has base) base (λ name c. has-from_Contains base name c)));
      outputs = sym (filter-append (has targets) targets base
          ∙ rw (filter_none (has targets) base (λ name c. has-from_absent targets name (λ target. apart name target c)), append-nil) (filter_all (has targets) targets (λ name c. has-from_Contains targets name c)));
      directed = directions targets base apart;
      driven_nets = λ g c. elim (Contains-append_cases wires targets g.out (drives_only wires targets gates shape.outs g c)) [
        | inl wire ↦ Contains-append_right (targets ++ base) wires g.out wire
        | inr target ↦ Contains-append_left (targets ++ base) wires g.out (Contains-append_left targets base g.out target)
      ];
      read_nets = shape.reads;
      arities = shape.arities;
      driven_once = subst (λ l. IsDistinct bytes_eq l) (sym shape.outs)
          (IsDistinct-append wires targets (distinct_back (targets ++ base) wires shape.distinct)
          (distinct_front targets base (distinct_front (targets ++ base) wires shape.distinct))
          (λ name wire target. wires_apart name (Contains-append_left targets base name target) wire));
      inputs_free = λ name input driven. elim (Contains-append_cases wires targets name (subst (λ x. Contains (wires ++ targets) x) driven.2 (drives_only wires targets gates shape.outs driven.0 driven.1))) [
        | inl wire ↦ wires_apart name (Contains-append_right targets base name input) wire
        | inr target ↦ apart name target input
      ];
      undriven = λ name net free. absurd (free (settled title targets base wires gates shape name net));
      loop_free = shape.loop_free;
    }

-- a netlist whose gates have ranks that rise from each gate to those that read it has no loop
rank_rises : (n : Circuit) (rank : NamedGate → ℕ) → ((g h : NamedGate) → Contains n.gates g → Contains n.gates h → IsReadBy g h → rank g < rank h) → (g : NamedGate) (gates : List NamedGate) → All (Contains n.gates) (g ∷ gates) → IsChain IsReadBy g gates → (rank g ≤ rank (last_of g gates)) × Contains n.gates (last_of g gates)
rank_rises n rank rises g [] all chain = (omega arith, All-head (Contains n.gates) g [] all)
rank_rises n rank rises g (h ∷ gates) all chain =
    let others = All-tail (Contains n.gates) g (h ∷ gates) all in
    let rest = rank_rises n rank rises h gates others chain.1 in
    let step = rises g h (All-head (Contains n.gates) g (h ∷ gates) all) (All-head (Contains n.gates) h gates others) chain.0 in
    (omega arith, rest.1)

pub IsLoopFree-by_rank : (n : Circuit) (rank : NamedGate → ℕ) → ((g h : NamedGate) → Contains n.gates g → Contains n.gates h → IsReadBy g h → rank g < rank h) → IsLoopFree n
IsLoopFree-by_rank n rank rises [] loop = loop.circle
IsLoopFree-by_rank n rank rises (g ∷ gates) loop =
    let up = rank_rises n rank rises g gates loop.members loop.circle.0 in
    let back = rises (last_of g gates) g up.1 (All-head (Contains n.gates) g gates loop.members) loop.circle.1 in
    omega arith
