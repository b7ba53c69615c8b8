-- What goes from the nets that a gate reads to the net that it drives holds of all nets, as there is no loop.
use Rattle.std.proofs.Common.{◌≡◌, ◌≢◌, inl, inr, ℕ, zero, suc, ◌+◌, ◌<◌, ◌≤◌, List, [], ◌∷◌, length, get_or, map, take, refl, sym, ◌∙◌, ap, subst, arith}
use Rattle.std.specs.List.{All, AllPairs, Contains}
use Rattle.std.proofs.lemmas.List.{get_or-map, length-map}
use Rattle.std.proofs.lemmas.List.Elements.{All-cons, All-take, All-contains, All-tail, All-head, All-nil, Contains-get_or}
use Rattle.std.proofs.lemmas.List.Kept.{AllPairs-cons}
use Rattle.eco_lists.proofs.Members.{Contains-map, map-Contains}
use Rattle.eco_meaning.specs.Circuit.{Circuit, NamedGate, names, Reads, IsDriven, IsReadBy, IsChain, last_of}
use Rattle.eco_laws.specs.Sound.{IsSound}
use Rattle.eco_laws.proofs.Members.{few_names}
use Rattle.eco_laws.proofs.Drivers.{out_of, cases_driven}

-- a front of a chain, and its last member
chain_front : {X : Type 0} (F : X → X → Type 0) (x : X) (xs : List X) (k : ℕ) → IsChain F x xs → IsChain F x (take k xs)
chain_front F x xs zero chain = tt
chain_front F x [] (suc k) chain = tt
chain_front F x (y ∷ ys) (suc k) chain = (chain.0, chain_front F y ys k chain.1)

last_of_front : {X : Type 0} (x : X) (xs : List X) (k : ℕ) (d : X) → k < length (x ∷ xs) → last_of x (take k xs) ≡ get_or (x ∷ xs) k d
last_of_front x xs zero d within = refl
last_of_front x [] (suc k) d within = absurd (omega arith)
last_of_front x (y ∷ ys) (suc k) d within = last_of_front y ys k d (omega arith)

-- gates of n, each of which is read by the next one, with different outputs
record IsWalk (n : Circuit) (first : NamedGate) (others : List NamedGate) : Type 0 where
  members : All (Contains n.gates) (first ∷ others)
  chain : IsChain IsReadBy first others
  apart : AllPairs (λ a b. a ≢ b) (map out_of (first ∷ others))

walk_is_short : (n : Circuit) (first : NamedGate) (others : List NamedGate) → IsWalk n first others → length (first ∷ others) ≤ length n.gates
walk_is_short n first others walk =
    let few = few_names (map out_of (first ∷ others)) (map out_of n.gates) walk.apart (λ name c.
    let g = map-Contains out_of (first ∷ others) name c in
    subst (Contains (map out_of n.gates)) g.2 (Contains-map out_of n.gates g.0 (All-contains (Contains n.gates) (first ∷ others) g.0 walk.members g.1))) in
    omega (arith, few, length-map (first ∷ others) out_of, length-map n.gates out_of)

-- a walk doesn't come back to a net
no_return : (n : Circuit) → IsSound n → (first : NamedGate) (others : List NamedGate) → IsWalk n first others → (name : List ℕ) → Reads first name → Contains (map out_of (first ∷ others)) name → ⊥
no_return n sound first others walk name reads c =
    let within : c.0 < length (first ∷ others) = omega (arith, c.1, length-map (first ∷ others) out_of) in
    let last : (last_of first (take c.0 others)).out ≡ name =
    ap out_of (last_of_front first others c.0 first within) ∙ sym (get_or-map out_of (first ∷ others) c.0 first name within) ∙ c.2 in
    sound.loop_free (first ∷ take c.0 others) record {
      members = All-cons (Contains n.gates) first (take c.0 others) (All-head (Contains n.gates) first others walk.members) (All-take (Contains n.gates) c.0 others (All-tail (Contains n.gates) first others walk.members));
      circle = (chain_front IsReadBy first others c.0 walk.chain, subst (Reads first) (sym last) reads);
    }

module _ (n : Circuit) (sound : IsSound n) (P : List ℕ → Type 0) (free : (name : List ℕ) → Contains (names n) name → (IsDriven n name → ⊥) → P name) (step : (g : NamedGate) → Contains n.gates g → ((name : List ℕ) → Reads g name → P name) → P g.out) where
  along_walk : (fuel : ℕ) (first : NamedGate) (others : List NamedGate) → IsWalk n first others → length n.gates < length (first ∷ others) + fuel → P first.out
  along_walk zero first others walk long =
      absurd (omega (arith, walk_is_short n first others walk, long))
  along_walk (suc fuel) first others walk long =
      let member = All-head (Contains n.gates) first others walk.members in
      step first member (λ name reads. elim (cases_driven n name) [
        | inr none ↦ free name (sound.read_nets first member name reads) none
        | inl driven ↦
            let g = driven.0 in
            let is : g.out ≡ name = driven.2 in
            subst P is (along_walk fuel g (first ∷ others) (record {
              members = All-cons (Contains n.gates) g (first ∷ others) driven.1 walk.members;
              chain = (subst (Reads first) (sym is) reads, walk.chain);
              apart =
                  AllPairs-cons (λ a b. a ≢ b) g.out (map out_of (first ∷ others))
                  (λ k d lt same. no_return n sound first others walk name reads (subst (Contains (map out_of (first ∷ others))) (sym same ∙ is) (Contains-get_or (map out_of (first ∷ others)) k d lt)))
                  walk.apart;
            }) (omega (arith, long)))
      ])

  pub along_reads : (name : List ℕ) → Contains (names n) name → P name
  along_reads name net =
      elim (cases_driven n name) [
        | inr none ↦ free name net none
        | inl driven ↦
            let g = driven.0 in
            subst P driven.2 (along_walk (length n.gates) g [] (record {
              members = All-cons (Contains n.gates) g [] driven.1 (All-nil (Contains n.gates));
              chain = tt;
              apart = λ i j d less within. absurd (omega arith);
            }) (omega arith))
      ]
