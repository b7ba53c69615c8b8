-- Numbers spread along the gates, gate by gate.
use Rattle.std.proofs.Common.{◌≡◌, ℕ, ◌+◌, ◌<◌, ◌≤◌, ◌⊎◌, inl, inr, List, [], ◌∷◌, Some, length, get_or, set, max, refl, sym, ◌∙◌, ap, subst, arith, length-set}
use Rattle.std.specs.List.{slice_get, Contains}
use Rattle.std.proofs.Math.Nat.{le-max_left, le-max_right, max-eq_left, max-eq_right}
use Rattle.std.proofs.lemmas.Bool.{cases_eq, cases_lt}
use Rattle.std.proofs.lemmas.List.{get_or-set_same, get_or-set_other}
use Rattle.std.proofs.lemmas.List.Elements.{All-contains}
use Rattle.std.proofs.lemmas.Option.{slice_get_within, same_Some}
use Rattle.eco_lists.proofs.Members.{Contains_first, only_one}
use Rattle.eco_lists.proofs.Places.{place_of, Contains_at, All_at}
use Rattle.eco_gates.specs.declared.gate.NetId.{NetId}
use Rattle.eco_gates.specs.declared.gate.Term.{Term}
use Rattle.eco_gates.specs.declared.gate.Term.TheVariants.{Zero, One, Net}
use Rattle.eco_gates.specs.GateValue.{GateValue}
use Rattle.eco_gates.specs.Gates.{IsGateWithin, IsTermBelow, IsWithin}
use Rattle.eco_gates.specs.Ordering.{IsOrder}
use Rattle.eco_gates.specs.Reach.{FanNet, itself, next}
use Rattle.eco_gates.specs.Spread.{AreGreatest, AreLeast, AreLowered, IsGreatestRead, number_at, term_number}
use Rattle.eco_gates.proofs.Reaching.{same_net}
use Rattle.eco_gates.proofs.Running.{reads_behind}

-- ---- forwards
-- one more term
pub greatest_more : (numbers : List ℕ) (own : ℕ) (terms : List Term) (k greatest : ℕ) (term : Term) → slice_get terms k ≡ Some term → IsGreatestRead numbers own terms k greatest → IsGreatestRead numbers own terms (k + 1) (max greatest (term_number numbers term))
greatest_more numbers own terms k greatest term at is =
    let number = term_number numbers term in
    let left = le-max_left greatest number in
    let right = le-max_right greatest number in
    record {
      own_at_most = let before = is.own_at_most in omega (arith, before, left);
      read = λ j t lt at_j. elim (cases_eq j k) [
        | inl e ↦ subst (λ (t : Term). term_number numbers t ≤ max greatest number) (same_Some term t (sym at ∙ ap (slice_get terms) (sym e) ∙ at_j)) right
        | inr ne ↦ let before = is.read j t (omega arith) at_j in omega (arith, before, left)
      ];
      some = elim (cases_lt greatest number) [
        | inl above ↦ inr (from_term term at above)
        | inr none ↦ subst (λ (n : ℕ). (own ≡ n) ⊎ ((net : NetId) × Contains terms (Net net) × (number_at numbers net ≡ n))) (sym (max-eq_left none)) is.some
      ];
    }
  where
    from_term : (t : Term) → slice_get terms k ≡ Some t → greatest < term_number numbers t → (net : NetId) × Contains terms (Net net) × (number_at numbers net ≡ max greatest (term_number numbers t))
    from_term Zero at above = absurd (omega (arith, above))
    from_term One at above = absurd (omega (arith, above))
    from_term (Net net) at above = (net, Contains_at terms k (Net net) at, sym (max-eq_right (omega (arith, above))))

-- the numbers after the first k gates of the order
pub record IsSpreadTo (gates : List GateValue) (order starts : List ℕ) (k : ℕ) (numbers : List ℕ) : Type 0 where
  pub len : length numbers ≡ length starts
  pub own : (net : NetId) → number_at starts net ≤ number_at numbers net
  pub reached : (net : NetId) → net.0 < length starts → (source : NetId) × (source.0 < length starts) × FanNet gates (source ∷ []) net × (number_at starts source ≡ number_at numbers net)
  pub closed : (m i : ℕ) (g : GateValue) (net : NetId) → m < k → slice_get order m ≡ Some i → slice_get gates i ≡ Some g → Contains g.ins (Net net) → number_at numbers net ≤ number_at numbers g.out

pub spread_none : (gates : List GateValue) (order starts : List ℕ) → IsSpreadTo gates order starts 0 starts
spread_none gates order starts = record {
  len = refl;
  own = λ net. omega arith;
  reached = λ net lt. (net, lt, itself net (Contains_first net []), refl);
  closed = λ m i g net lt a b reads. absurd (omega arith);
}

pub spread_more : (gates : List GateValue) (order starts : List ℕ) (k i : ℕ) (g : GateValue) (numbers : List ℕ) (greatest : ℕ) → IsWithin (length starts) gates → IsOrder gates order → slice_get order k ≡ Some i → slice_get gates i ≡ Some g → IsGreatestRead numbers (number_at numbers g.out) g.ins (length g.ins) greatest → IsSpreadTo gates order starts k numbers → IsSpreadTo gates order starts (k + 1) (set numbers g.out.0 greatest)
spread_more gates order starts k i g numbers greatest within o at_k gate_i is spread =
    let inside = All_at (IsGateWithin (length starts)) gates i g within gate_i in
    let room : g.out.0 < length numbers = subst (λ (n : ℕ). g.out.0 < n) (sym spread.len) inside.out in
    let out : get_or (set numbers g.out.0 greatest) g.out.0 0 ≡ greatest = get_or-set_same numbers g.out.0 greatest 0 room in
    let kept : (net : NetId) → (net.0 ≡ g.out.0 → ⊥) → number_at (set numbers g.out.0 greatest) net ≡ number_at numbers net = λ net ne. get_or-set_other numbers g.out.0 net.0 greatest 0 ne in
    let up : (net : NetId) → number_at numbers net ≤ number_at (set numbers g.out.0 greatest) net = λ net. elim (cases_eq net.0 g.out.0) [
      | inl e ↦ subst (λ (n : NetId). number_at numbers n ≤ number_at (set numbers g.out.0 greatest) n) (sym (same_net net g.out e)) (subst (λ (n : ℕ). number_at numbers g.out ≤ n) (sym out) is.own_at_most)
      | inr ne ↦ let same = kept net ne in omega (arith, same)
    ] in
    record {
      len = length-set numbers g.out.0 greatest ∙ spread.len;
      own = λ net. let before = spread.own net in let after = up net in omega (arith, before, after);
      reached = λ net lt. elim (cases_eq net.0 g.out.0) [
        | inl e ↦ subst (λ (n : NetId). (source : NetId) × (source.0 < length starts) × FanNet gates (source ∷ []) n × (number_at starts source ≡ number_at (set numbers g.out.0 greatest) n)) (sym (same_net net g.out e))
            (elim is.some [
              | inl own ↦
                  let old = spread.reached g.out inside.out in
                  (old.0, old.1, old.2, old.3 ∙ own ∙ sym out)
              | inr read ↦
                  let below : read.0.0 < length starts = All-contains (IsTermBelow (length starts)) g.ins (Net read.0) inside.ins read.1 in
                  let old = spread.reached read.0 below in
                  (old.0, old.1, next g (Contains_at gates i g gate_i) read.0 read.1 old.2, old.3 ∙ read.2 ∙ sym out)
            ])
        | inr ne ↦
            let old = spread.reached net lt in
            (old.0, old.1, old.2, old.3 ∙ sym (kept net ne))
      ];
      closed = λ m j h net lt at_m gate_j reads. elim (cases_eq net.0 g.out.0) [
        | inl e ↦ absurd (reads_behind gates order k m i j g h o (omega arith) at_k gate_i at_m gate_j (subst (λ (n : NetId). Contains h.ins (Net n)) (same_net net g.out e) reads))
        | inr ne ↦ subst (λ (n : ℕ). n ≤ number_at (set numbers g.out.0 greatest) h.out) (sym (kept net ne)) (elim (cases_eq m k) [
          | inl mk ↦
              let ij : j ≡ i = same_Some j i (sym at_m ∙ ap (slice_get order) mk ∙ at_k) in
              let hg : h ≡ g = same_Some h g (sym gate_j ∙ ap (slice_get gates) ij ∙ gate_i) in
              let at = place_of g.ins (Net net) (subst (λ (x : GateValue). Contains x.ins (Net net)) hg reads) in
              let below = is.read at.0 (Net net) (slice_get_within g.ins at.0 (Net net) at.1) at.1 in
              subst (λ (x : GateValue). number_at numbers net ≤ number_at (set numbers g.out.0 greatest) x.out) (sym hg) (subst (λ (n : ℕ). number_at numbers net ≤ n) (sym out) below)
          | inr earlier ↦
              let before = spread.closed m j h net (omega arith) at_m gate_j reads in
              let after = up h.out in
              omega (arith, before, after)
        ])
      ];
    }

-- along a fan-out the numbers rise
rising : (gates : List GateValue) (numbers : List ℕ) → ((g : GateValue) (net : NetId) → Contains gates g → Contains g.ins (Net net) → number_at numbers net ≤ number_at numbers g.out) → (source net : NetId) → FanNet gates (source ∷ []) net → number_at numbers source ≤ number_at numbers net
rising gates numbers closed source _ (itself net c) = let same = ap (number_at numbers) (only_one source net c) in omega (arith, same)
rising gates numbers closed source _ (next g c read reads fan) =
    let before = rising gates numbers closed source read fan in
    let last = closed g read c reads in
    omega (arith, before, last)

pub spread_all : (gates : List GateValue) (order starts : List ℕ) (k : ℕ) (numbers : List ℕ) → IsOrder gates order → length order ≤ k → IsSpreadTo gates order starts k numbers → AreGreatest gates starts numbers
spread_all gates order starts k numbers o le spread = record {
  len = spread.len;
  reached = spread.reached;
  greatest = λ source net fan.
      let first = spread.own source in
      let last = rising gates numbers (λ g read c reads.
      let i = place_of gates g c in
      let m = place_of order i.0 (o.complete i.0 (slice_get_within gates i.0 g i.1)) in
      let lt = slice_get_within order m.0 i.0 m.1 in
      spread.closed m.0 i.0 g read (omega (arith, lt, le)) m.1 i.1 reads) source net fan in
      omega (arith, first, last);
}

-- the fan-out of what lies in a fan-out
onwards : (gates : List GateValue) (a b c : NetId) → FanNet gates (a ∷ []) b → FanNet gates (b ∷ []) c → FanNet gates (a ∷ []) c
onwards gates a b _ first (itself c at) = subst (λ (n : NetId). FanNet gates (a ∷ []) n) (only_one b c at) first
onwards gates a b _ first (next g c read reads fan) = next g c read reads (onwards gates a b read first fan)

-- the numbers after the gates of the order from place k on
pub record IsSpreadFrom (gates : List GateValue) (order ends : List ℕ) (k : ℕ) (numbers : List ℕ) : Type 0 where
  pub len : length numbers ≡ length ends
  pub own : (net : NetId) → number_at numbers net ≤ number_at ends net
  pub reached : (net : NetId) → net.0 < length ends → (end : NetId) × (end.0 < length ends) × FanNet gates (net ∷ []) end × (number_at ends end ≡ number_at numbers net)
  pub closed : (m i : ℕ) (g : GateValue) (net : NetId) → k ≤ m → slice_get order m ≡ Some i → slice_get gates i ≡ Some g → Contains g.ins (Net net) → number_at numbers net ≤ number_at numbers g.out

pub spread_from_none : (gates : List GateValue) (order ends : List ℕ) → IsSpreadFrom gates order ends (length order) ends
spread_from_none gates order ends = record {
  len = refl;
  own = λ net. omega arith;
  reached = λ net lt. (net, lt, itself net (Contains_first net []), refl);
  closed = λ m i g net le at gate reads. let lt = slice_get_within order m i at in absurd (omega (arith, lt));
}

pub spread_from_more : (gates : List GateValue) (order ends : List ℕ) (k i : ℕ) (g : GateValue) (numbers new : List ℕ) → IsWithin (length ends) gates → IsOrder gates order → slice_get order k ≡ Some i → slice_get gates i ≡ Some g → AreLowered g.ins (length g.ins) (number_at numbers g.out) numbers new → IsSpreadFrom gates order ends (k + 1) numbers → IsSpreadFrom gates order ends k new
spread_from_more gates order ends k i g numbers new within o at_k gate_i are spread =
    let inside = All_at (IsGateWithin (length ends)) gates i g within gate_i in
    record {
      len = are.len ∙ spread.len;
      own = λ net. let before = spread.own net in let after = are.lower net in omega (arith, before, after);
      reached = λ net lt. elim (are.some net) [
        | inl same ↦
            let old = spread.reached net lt in
            (old.0, old.1, old.2, old.3 ∙ sym same)
        | inr low ↦
            let old = spread.reached g.out inside.out in
            let step : FanNet gates (net ∷ []) g.out = next g (Contains_at gates i g gate_i) net low.1 (itself net (Contains_first net [])) in
            (old.0, old.1, onwards gates net g.out old.0 step old.2, old.3 ∙ sym low.0)
      ];
      closed = λ m j h net le at_m gate_j reads.
          let out_stays : number_at new h.out ≡ number_at numbers h.out = elim (are.some h.out) [
            | inl same ↦ same
            | inr low ↦ absurd (reads_behind gates order m k j i h g o le at_m gate_j at_k gate_i low.1)
          ] in
          elim (cases_eq m k) [
            | inl mk ↦
                let ij : j ≡ i = same_Some j i (sym at_m ∙ ap (slice_get order) mk ∙ at_k) in
                let hg : h ≡ g = same_Some h g (sym gate_j ∙ ap (slice_get gates) ij ∙ gate_i) in
                let at = place_of g.ins (Net net) (subst (λ (x : GateValue). Contains x.ins (Net net)) hg reads) in
                let below = are.read at.0 net (slice_get_within g.ins at.0 (Net net) at.1) at.1 in
                let same = ap (λ (x : GateValue). number_at numbers x.out) hg in
                omega (arith, below, out_stays, same)
            | inr later ↦
                let before = spread.closed m j h net (omega arith) at_m gate_j reads in
                let after = are.lower net in
                omega (arith, before, after, out_stays)
          ];
    }

pub spread_from_all : (gates : List GateValue) (order ends : List ℕ) (numbers : List ℕ) → IsOrder gates order → IsSpreadFrom gates order ends 0 numbers → AreLeast gates ends numbers
spread_from_all gates order ends numbers o spread = record {
  len = spread.len;
  reached = spread.reached;
  least = λ net end fan.
      let first = rising gates numbers (λ g read c reads.
      let i = place_of gates g c in
      let m = place_of order i.0 (o.complete i.0 (slice_get_within gates i.0 g i.1)) in
      spread.closed m.0 i.0 g read (omega arith) m.1 i.1 reads) net end fan in
      let last = spread.own end in
      omega (arith, first, last);
}
