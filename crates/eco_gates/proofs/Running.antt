-- Values given gate by gate: what one more gate leaves, and that consistent values are determined by the nets that
-- no gate drives.
use Rattle.std.proofs.Common.{◌≡◌, ◌≢◌, ℕ, zero, suc, ◌+◌, ◌<◌, ◌≤◌, ◌⊎◌, inl, inr, Bool, false, List, [], ◌∷◌, Some, length, set, take, refl, sym, ◌∙◌, ap, subst, arith, length-set, unwrap_or}
use Rattle.std.specs.List.{slice_get, Contains}
use Rattle.std.proofs.lemmas.Bool.{cases_eq}
use Rattle.std.proofs.lemmas.Option.{slice_get_within, same_Some, unwrap_or-slice_get}
use Rattle.std.proofs.lemmas.List.Elements.{All-cons, All-nil}
use Rattle.eco_gates.specs.declared.gate.NetId.{NetId}
use Rattle.eco_gates.specs.declared.gate.Term.{Term}
use Rattle.eco_gates.specs.declared.gate.Term.TheVariants.{Zero, One, Net}
use Rattle.eco_gates.specs.GateValue.{GateValue}
use Rattle.eco_gates.specs.Gates.{IsGateWithin, IsWithin, IsOnceDriven, IsUndriven}
use Rattle.eco_gates.specs.Evaluation.{term_value, gate_value, IsConsistentAt, AgreeUndriven}
use Rattle.eco_gates.specs.Ordering.{IsOrder}
use Rattle.eco_meaning.specs.Gates.{apply}
use Rattle.eco_lists.proofs.Places.{place_of, Contains_at, All_at, All_from_places, same_place_by, same_place, slice_get-set_same, slice_get-set_other, place_in_front, map_agree, same_by_places}

-- a net is the output of a gate, or no gate drives it
pub driven_cases : (gates : List GateValue) (net : ℕ) → ((j : ℕ) × (g : GateValue) × (slice_get gates j ≡ Some g) × (g.out.0 ≡ net)) ⊎ IsUndriven gates net
driven_cases [] net = inr (All-nil (λ g. g.out.0 ≢ net))
driven_cases (g ∷ gates) net =
    elim (cases_eq g.out.0 net) [
      | inl e ↦ inl (0, g, refl, e)
      | inr ne ↦ elim (driven_cases gates net) [
        | inl d ↦ inl (suc d.0, d.1, d.2, d.3)
        | inr none ↦ inr (All-cons (λ g. g.out.0 ≢ net) g gates ne none)
      ]
    ]

-- two lists of bits with the same bits at the nets that a term reads give it one value
term_agree : (values bits : List Bool) (t : Term) → ((net : NetId) → t ≡ Net net → slice_get values net.0 ≡ slice_get bits net.0) → term_value values t ≡ term_value bits t
term_agree values bits Zero h = refl
term_agree values bits One h = refl
term_agree values bits (Net net) h =
    sym (unwrap_or-slice_get values net.0 false) ∙ ap (λ o. unwrap_or o false) (h net refl) ∙ unwrap_or-slice_get bits net.0 false

-- the same for a gate
gate_agree : (values bits : List Bool) (g : GateValue) → ((net : NetId) → Contains g.ins (Net net) → slice_get values net.0 ≡ slice_get bits net.0) → gate_value values g ≡ gate_value bits g
gate_agree values bits g h =
    ap (apply g.kind) (map_agree (term_value values) (term_value bits) g.ins (λ k t e. term_agree values bits t (λ net is. h net (Contains_at g.ins k (Net net) (e ∙ ap Some is)))))

-- a gate that does not read a net keeps its value where that net gets a bit
gate_value-set : (values : List Bool) (out : NetId) (bit : Bool) (g : GateValue) → (Contains g.ins (Net out) → ⊥) → gate_value (set values out.0 bit) g ≡ gate_value values g
gate_value-set values out bit g free =
    gate_agree (set values out.0 bit) values g (λ net reads. slice_get-set_other values out.0 net.0 bit (λ e. free (let n : net ≡ out = ap (λ (n : ℕ). let r : NetId = record { 0 = n } in r) e in subst (λ (n : NetId). Contains g.ins (Net n)) n reads)))

-- the first k gates of the order have their values, and the nets that no gate drives have the bits that they had
pub record IsRunTo (gates : List GateValue) (order : List ℕ) (old : List Bool) (k : ℕ) (values : List Bool) : Type 0 where
  pub len : length values ≡ length old
  pub settled : (m i : ℕ) (g : GateValue) → m < k → slice_get order m ≡ Some i → slice_get gates i ≡ Some g → slice_get values g.out.0 ≡ Some (gate_value values g)
  pub kept : AgreeUndriven gates values old

-- no gate before place k reads the output of the gate at place k, and neither does that gate itself
pub reads_behind : (gates : List GateValue) (order : List ℕ) (k m i j : ℕ) (g h : GateValue) → IsOrder gates order → m ≤ k → slice_get order k ≡ Some i → slice_get gates i ≡ Some g → slice_get order m ≡ Some j → slice_get gates j ≡ Some h → Contains h.ins (Net g.out) → ⊥
reads_behind gates order k m i j g h o le at_k gate_i at_m gate_j reads =
    let before = place_of (take m order) i (o.behind m j i at_m (record { driver = g; reader = h; driver_at = gate_i; reader_at = gate_j; reads = reads })) in
    let front = place_in_front m order before.0 i before.1 in
    let same = same_place order before.0 k i o.once front.1 at_k in
    omega (arith, front.0, same, le)

-- one more gate
pub run_more : (gates : List GateValue) (order : List ℕ) (old values : List Bool) (k i : ℕ) (g : GateValue) → IsWithin (length old) gates → IsOnceDriven gates → IsOrder gates order → slice_get order k ≡ Some i → slice_get gates i ≡ Some g → IsRunTo gates order old k values → IsRunTo gates order old (k + 1) (set values g.out.0 (gate_value values g))
run_more gates order old values k i g within once o at_k gate_i run =
    let bit : Bool = gate_value values g in
    let room : g.out.0 < length values = subst (λ n. g.out.0 < n) (sym run.len) (All_at (IsGateWithin (length old)) gates i g within gate_i).out in
    record {
      len = length-set values g.out.0 bit ∙ run.len;
      settled = λ m j h lt at_m gate_j.
          let stays = gate_value-set values g.out bit h (reads_behind gates order k m i j g h o (omega arith) at_k gate_i at_m gate_j) in
          elim (cases_eq h.out.0 g.out.0) [
            | inl e ↦
                let ij : j ≡ i = same_place_by (λ (g : GateValue). g.out.0) gates j i h g once gate_j gate_i e in
                let gh : h ≡ g = same_Some h g (sym gate_j ∙ ap (slice_get gates) ij ∙ gate_i) in
                ap (slice_get (set values g.out.0 bit)) e ∙ slice_get-set_same values g.out.0 bit room ∙ ap Some (sym (stays ∙ ap (gate_value values) gh))
            | inr ne ↦
                let earlier : m < k = elim (cases_eq m k) [
                  | inl mk ↦ absurd (ne (let ij : j ≡ i = same_Some j i (sym at_m ∙ ap (slice_get order) mk ∙ at_k) in ap (λ (g : GateValue). g.out.0) (same_Some h g (sym gate_j ∙ ap (slice_get gates) ij ∙ gate_i))))
                  | inr mk ↦ omega arith
                ] in
                slice_get-set_other values g.out.0 h.out.0 bit ne ∙ run.settled m j h earlier at_m gate_j ∙ ap Some (sym stays)
          ];
      kept = λ net free. slice_get-set_other values g.out.0 net bit (λ e. All_at (λ (g : GateValue). g.out.0 ≢ net) gates i g free gate_i (sym e)) ∙ run.kept net free;
    }

-- all gates
pub run_all : (gates : List GateValue) (order : List ℕ) (old values : List Bool) (k : ℕ) → IsOrder gates order → length order ≤ k → IsRunTo gates order old k values → IsConsistentAt gates values
run_all gates order old values k o le run =
    All_from_places (λ g. slice_get values g.out.0 ≡ Some (gate_value values g)) gates (λ i g gate_i.
    let at = place_of order i (o.complete i (slice_get_within gates i g gate_i)) in
    let within = slice_get_within order at.0 i at.1 in
    run.settled at.0 i g (omega (arith, within, le)) at.1 gate_i)

-- consistent values that agree on the nets that no gate drives agree on the outputs of the first k gates
outputs_agree : (gates : List GateValue) (order : List ℕ) (values bits : List Bool) → IsOrder gates order → IsConsistentAt gates values → IsConsistentAt gates bits → AgreeUndriven gates values bits → (k m i : ℕ) (g : GateValue) → m < k → slice_get order m ≡ Some i → slice_get gates i ≡ Some g → slice_get values g.out.0 ≡ slice_get bits g.out.0
outputs_agree gates order values bits o c d agree zero m i g lt at_m gate_i = absurd (omega arith)
outputs_agree gates order values bits o c d agree (suc k) m i g lt at_m gate_i =
    let same_inputs : gate_value values g ≡ gate_value bits g = gate_agree values bits g (λ net reads.
    elim (driven_cases gates net.0) [
      | inl driver ↦
          let n : driver.1.out ≡ net = ap (λ (n : ℕ). let r : NetId = record { 0 = n } in r) driver.3 in
          let before = place_of (take m order) driver.0 (o.behind m i driver.0 at_m (record { driver = driver.1; reader = g; driver_at = driver.2; reader_at = gate_i; reads = subst (λ (n : NetId). Contains g.ins (Net n)) (sym n) reads })) in
          let front = place_in_front m order before.0 driver.0 before.1 in
          let earlier = outputs_agree gates order values bits o c d agree k before.0 driver.0 driver.1 (omega (arith, front.0, lt)) front.1 driver.2 in
          subst (λ (n : ℕ). slice_get values n ≡ slice_get bits n) driver.3 earlier
      | inr free ↦ agree net.0 free
    ]) in
    All_at (λ g. slice_get values g.out.0 ≡ Some (gate_value values g)) gates i g c gate_i ∙ ap Some same_inputs ∙ sym (All_at (λ g. slice_get bits g.out.0 ≡ Some (gate_value bits g)) gates i g d gate_i)

-- at most one list of consistent bits has given bits at the nets that no gate drives
pub consistent_unique : (gates : List GateValue) (order : List ℕ) (values bits : List Bool) → IsOrder gates order → length values ≡ length bits → IsConsistentAt gates values → IsConsistentAt gates bits → AgreeUndriven gates values bits → values ≡ bits
consistent_unique gates order values bits o same c d agree =
    same_by_places values bits same (λ net lt.
    elim (driven_cases gates net) [
      | inl driver ↦
          let at = place_of order driver.0 (o.complete driver.0 (slice_get_within gates driver.0 driver.1 driver.2)) in
          let earlier = outputs_agree gates order values bits o c d agree (suc at.0) at.0 driver.0 driver.1 (omega arith) at.1 driver.2 in
          subst (λ (n : ℕ). slice_get values n ≡ slice_get bits n) driver.3 earlier
      | inr free ↦ agree net free
    ])
