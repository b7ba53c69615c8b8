-- Marks of nets in the fan-out, gate by gate.
use Rattle.std.proofs.Common.{◌≡◌, ℕ, zero, suc, ◌+◌, ◌<◌, ◌≤◌, inl, inr, Bool, true, false, ◌||◌, ◌↔◌, List, [], ◌∷◌, Some, length, get_or, set, refl, sym, ◌∙◌, ap, subst, arith, length-set}
use Rattle.std.specs.List.{slice_get, All, Contains, list_any}
use Rattle.std.proofs.lemmas.Bool.{cases_eq, or_cases, or_left, or_right, false≢true}
use Rattle.std.proofs.lemmas.Option.{slice_get_within, get_or_from_slice_get, same_Some}
use Rattle.eco_gates.specs.declared.gate.NetId.{NetId}
use Rattle.eco_gates.specs.declared.gate.Term.{Term}
use Rattle.eco_gates.specs.declared.gate.Term.TheVariants.{Zero, One, Net}
use Rattle.eco_gates.specs.GateValue.{GateValue}
use Rattle.eco_gates.specs.Gates.{IsGateWithin, IsWithin}
use Rattle.eco_gates.specs.Ordering.{IsOrder}
use Rattle.eco_gates.specs.Reach.{FanNet, itself, next, is_marked, AreMarked}
use Rattle.eco_lists.proofs.Places.{place_of, Contains_at, All_at, set_cases, slice_get-set_same, slice_get-set_other, slice_get_from_get_or}
use Rattle.eco_gates.proofs.Running.{reads_behind}

-- nets with one number are one
pub same_net : (net other : NetId) → net.0 ≡ other.0 → net ≡ other
same_net net other e = ap (λ (n : ℕ). let r : NetId = record { 0 = n } in r) e

-- one more net is marked
pub marked_more : (nets : ℕ) (from : List NetId) (count : ℕ) (marks : List Bool) (source : NetId) → All (λ (net : NetId). net.0 < nets) from → slice_get from count ≡ Some source → AreMarked nets from count marks → AreMarked nets from (count + 1) (set marks source.0 true)
marked_more nets from count marks source below at are =
    let room : source.0 < length marks = subst (λ (n : ℕ). source.0 < n) (sym are.len) (All_at (λ (net : NetId). net.0 < nets) from count source below at) in
    let same : slice_get (set marks source.0 true) source.0 ≡ Some true = slice_get-set_same marks source.0 true room in
    record {
      len = length-set marks source.0 true ∙ are.len;
      sound = λ net e. elim (set_cases marks source.0 true net.0 true e) [
        | inl here ↦ subst (λ (n : NetId). Contains from n) (sym (same_net net source here.0)) (Contains_at from count source at)
        | inr other ↦ are.sound net other.1
      ];
      complete = λ k net lt at_k. elim (cases_eq net.0 source.0) [
        | inl e ↦ ap (slice_get (set marks source.0 true)) e ∙ same
        | inr ne ↦ slice_get-set_other marks source.0 net.0 true ne ∙ are.complete k net (elim (cases_eq k count) [
          | inl e ↦ absurd (ne (ap (λ (n : NetId). n.0) (same_Some net source (sym at_k ∙ ap (slice_get from) e ∙ at))))
          | inr other ↦ omega arith
        ]) at_k
      ];
    }

-- a term with a mark among the terms, and a mark among them from a term
mark_found : (marks : List Bool) (terms : List Term) → list_any (is_marked marks) terms ≡ true → (net : NetId) × Contains terms (Net net) × (slice_get marks net.0 ≡ Some true)
mark_found marks [] e = absurd (false≢true e)
mark_found marks (term ∷ terms) e =
    elim (or_cases (is_marked marks term) (list_any (is_marked marks) terms) e) [
      | inl here ↦ from_term term here
      | inr later ↦
          let rest = mark_found marks terms later in
          let at = place_of terms (Net rest.0) rest.1 in
          (rest.0, Contains_at (term ∷ terms) (suc at.0) (Net rest.0) at.1, rest.2)
    ]
  where
    from_term : (t : Term) → is_marked marks t ≡ true → (net : NetId) × Contains (t ∷ terms) (Net net) × (slice_get marks net.0 ≡ Some true)
    from_term Zero e = absurd (false≢true e)
    from_term One e = absurd (false≢true e)
    from_term (Net net) e = (net, Contains_at (Net net ∷ terms) 0 (Net net) refl, slice_get_from_get_or marks net.0 false true e false≢true)

mark_among : (marks : List Bool) (terms : List Term) (k : ℕ) (net : NetId) → slice_get terms k ≡ Some (Net net) → slice_get marks net.0 ≡ Some true → list_any (is_marked marks) terms ≡ true
mark_among marks [] k net at e = absurd cc
mark_among marks (term ∷ terms) zero net at e =
    or_left (is_marked marks term) (list_any (is_marked marks) terms) (ap (is_marked marks) (same_Some term (Net net) at) ∙ get_or_from_slice_get marks net.0 true false e)
mark_among marks (term ∷ terms) (suc k) net at e =
    or_right (is_marked marks term) (list_any (is_marked marks) terms) (mark_among marks terms k net at e)

-- the marks after the first k gates of the order
pub record IsReachedTo (gates : List GateValue) (order : List ℕ) (nets : ℕ) (from : List NetId) (k : ℕ) (marks : List Bool) : Type 0 where
  pub len : length marks ≡ nets
  pub sound : (net : NetId) → slice_get marks net.0 ≡ Some true → FanNet gates from net
  pub sources : (net : NetId) → Contains from net → slice_get marks net.0 ≡ Some true
  pub closed : (m i : ℕ) (g : GateValue) (net : NetId) → m < k → slice_get order m ≡ Some i → slice_get gates i ≡ Some g → Contains g.ins (Net net) → slice_get marks net.0 ≡ Some true → slice_get marks g.out.0 ≡ Some true

pub reached_none : (gates : List GateValue) (order : List ℕ) (nets : ℕ) (from : List NetId) (marks : List Bool) → AreMarked nets from (length from) marks → IsReachedTo gates order nets from 0 marks
reached_none gates order nets from marks are = record {
  len = are.len;
  sound = λ net e. itself net (are.sound net e);
  sources = λ net c.
      let at = place_of from net c in
      are.complete at.0 net (slice_get_within from at.0 net at.1) at.1;
  closed = λ m i g net lt a b reads e. absurd (omega arith);
}

pub reached_more : (gates : List GateValue) (order : List ℕ) (nets : ℕ) (from : List NetId) (k i : ℕ) (g : GateValue) (marks : List Bool) (mark : Bool) → IsWithin nets gates → IsOrder gates order → slice_get order k ≡ Some i → slice_get gates i ≡ Some g → mark ≡ (get_or marks g.out.0 false || list_any (is_marked marks) g.ins) → IsReachedTo gates order nets from k marks → IsReachedTo gates order nets from (k + 1) (set marks g.out.0 mark)
reached_more gates order nets from k i g marks mark within o at_k gate_i mark_is reached =
    let room : g.out.0 < length marks = subst (λ (n : ℕ). g.out.0 < n) (sym reached.len) (All_at (IsGateWithin nets) gates i g within gate_i).out in
    let out : slice_get (set marks g.out.0 mark) g.out.0 ≡ Some mark = slice_get-set_same marks g.out.0 mark room in
    let stays : (n : ℕ) → slice_get marks n ≡ Some true → slice_get (set marks g.out.0 mark) n ≡ Some true = λ n e.
    elim (cases_eq n g.out.0) [
      | inl same ↦
          let old : get_or marks g.out.0 false ≡ true = ap (λ (m : ℕ). get_or marks m false) (sym same) ∙ get_or_from_slice_get marks n true false e in
          ap (slice_get (set marks g.out.0 mark)) same ∙ out ∙ ap Some (mark_is ∙ or_left (get_or marks g.out.0 false) (list_any (is_marked marks) g.ins) old)
      | inr other ↦ slice_get-set_other marks g.out.0 n mark other ∙ e
    ] in
    record {
      len = length-set marks g.out.0 mark ∙ reached.len;
      sound = λ net e. elim (set_cases marks g.out.0 mark net.0 true e) [
        | inl here ↦
            let of_out : FanNet gates from g.out = elim (or_cases (get_or marks g.out.0 false) (list_any (is_marked marks) g.ins) (sym mark_is ∙ sym here.1)) [
              | inl old ↦ reached.sound g.out (slice_get_from_get_or marks g.out.0 false true old false≢true)
              | inr read ↦
                  let found = mark_found marks g.ins read in
                  next g (Contains_at gates i g gate_i) found.0 found.1 (reached.sound found.0 found.2)
            ] in
            subst (λ (n : NetId). FanNet gates from n) (sym (same_net net g.out here.0)) of_out
        | inr other ↦ reached.sound net other.1
      ];
      sources = λ net c. stays net.0 (reached.sources net c);
      closed = λ m j h net lt at_m gate_j reads e.
          elim (set_cases marks g.out.0 mark net.0 true e) [
            | inl here ↦ absurd (reads_behind gates order k m i j g h o (omega arith) at_k gate_i at_m gate_j (subst (λ (n : NetId). Contains h.ins (Net n)) (same_net net g.out here.0) reads))
            | inr other ↦ elim (cases_eq m k) [
              | inl mk ↦
                  let ij : j ≡ i = same_Some j i (sym at_m ∙ ap (slice_get order) mk ∙ at_k) in
                  let hg : h ≡ g = same_Some h g (sym gate_j ∙ ap (slice_get gates) ij ∙ gate_i) in
                  let at = place_of g.ins (Net net) (subst (λ (x : GateValue). Contains x.ins (Net net)) hg reads) in
                  let any = mark_among marks g.ins at.0 net at.1 other.1 in
                  ap (λ (x : GateValue). slice_get (set marks g.out.0 mark) x.out.0) hg ∙ out ∙ ap Some (mark_is ∙ or_right (get_or marks g.out.0 false) (list_any (is_marked marks) g.ins) any)
              | inr earlier ↦ stays h.out.0 (reached.closed m j h net (omega arith) at_m gate_j reads other.1)
            ]
          ];
    }

-- after all gates the marks are the fan-out
fan_marked : (gates : List GateValue) (order : List ℕ) (nets : ℕ) (from : List NetId) (k : ℕ) (marks : List Bool) → IsOrder gates order → length order ≤ k → IsReachedTo gates order nets from k marks → (net : NetId) → FanNet gates from net → slice_get marks net.0 ≡ Some true
fan_marked gates order nets from k marks o le reached _ (itself net c) = reached.sources net c
fan_marked gates order nets from k marks o le reached _ (next g c read reads fan) =
    let i = place_of gates g c in
    let m = place_of order i.0 (o.complete i.0 (slice_get_within gates i.0 g i.1)) in
    let lt = slice_get_within order m.0 i.0 m.1 in
    reached.closed m.0 i.0 g read (omega (arith, lt, le)) m.1 i.1 reads (fan_marked gates order nets from k marks o le reached read fan)

pub reached_all : (gates : List GateValue) (order : List ℕ) (nets : ℕ) (from : List NetId) (k : ℕ) (marks : List Bool) → IsOrder gates order → length order ≤ k → IsReachedTo gates order nets from k marks → (net : NetId) → (slice_get marks net.0 ≡ Some true) ↔ FanNet gates from net
reached_all gates order nets from k marks o le reached net =
    (reached.sound net, fan_marked gates order nets from k marks o le reached net)
