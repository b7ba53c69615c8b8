-- Gates of the opposite kind: they stand where the gates stood, and have the opposite values.
use Rattle.std.proofs.Common.{◌≡◌, ◌≢◌, ℕ, ◌<◌, Bool, true, false, not, cond, List, length, map, option_map, refl, sym, ◌∙◌, ap, subst}
use Rattle.std.specs.List.{slice_index_or, Contains, All}
use Rattle.std.proofs.lemmas.List.{length-map}
use Rattle.std.proofs.lemmas.List.Elements.{All-map}
use Rattle.std.proofs.lemmas.Option.{slice_get-map}
use Rattle.eco_lists.proofs.Places.{All_at, All_from_places, pair_at, pairs_from_places}
use Rattle.eco_lists.proofs.Tests.{opposite, not_own}
use Rattle.eco_meaning.specs.declared.kind.Kind.{Kind}
use Rattle.eco_meaning.specs.declared.kind.Kind.TheVariants.{And, Nand, Or, Nor, Xor, Xnor, Buf, Not}
use Rattle.eco_meaning.specs.Gates.{FitsKind, apply}
use Rattle.eco_gates.specs.declared.gate.Term.TheVariants.{Net}
use Rattle.eco_gates.specs.GateValue.{GateValue}
use Rattle.eco_gates.specs.Gates.{IsGateWithin, IsWithin, IsOnceDriven, IsUndriven}
use Rattle.eco_gates.specs.Evaluation.{term_value, gate_value}
use Rattle.eco_gates.specs.Ordering.{IsOrder}
use Rattle.eco_netlist.proofs.NameLemmas.{unmapped}
use Rattle.eco_lanes.specs.Turning.{opposite_kind, turned_gate}

-- a gate's value is the opposite of its opposite
undone : (kind : Kind) (bits : List Bool) → apply kind bits ≡ not (not (apply kind bits))
undone kind bits = let bit = apply kind bits in opposite bit (not bit) (not_own bit)

pub opposite_value : (kind : Kind) (bits : List Bool) → apply (opposite_kind kind) bits ≡ not (apply kind bits)
opposite_value And bits = refl
opposite_value Nand bits = undone And bits
opposite_value Or bits = refl
opposite_value Nor bits = undone Or bits
opposite_value Xor bits = refl
opposite_value Xnor bits = undone Xor bits
opposite_value Buf bits = refl
opposite_value Not bits = undone Buf bits

opposite_fits : (kind : Kind) (n : ℕ) → FitsKind kind n → FitsKind (opposite_kind kind) n
opposite_fits And n fits = fits
opposite_fits Nand n fits = fits
opposite_fits Or n fits = fits
opposite_fits Nor n fits = fits
opposite_fits Xor n fits = fits
opposite_fits Xnor n fits = fits
opposite_fits Buf n fits = fits
opposite_fits Not n fits = fits

-- a gate's value if it is turned by a bit, and if it isn't
pub turned_value : (turns values : List Bool) (g : GateValue) → gate_value values (turned_gate turns g) ≡ cond (slice_index_or turns g.out.0 false) (not (gate_value values g)) (gate_value values g)
turned_value turns values g =
    by_bit (slice_index_or turns g.out.0 false)
  where
    by_bit : (bit : Bool) → gate_value values (record { kind = cond bit (opposite_kind g.kind) g.kind; out = g.out; ins = g.ins }) ≡ cond bit (not (gate_value values g)) (gate_value values g)
    by_bit true = opposite_value g.kind (map (term_value values) g.ins)
    by_bit false = refl

module _ (turns : List Bool) (gates : List GateValue) where
  pub turned_within : (nets : ℕ) → IsWithin nets gates → IsWithin nets (map (turned_gate turns) gates)
  turned_within nets within =
      All-map (IsGateWithin nets) (turned_gate turns) gates (All_from_places (λ g. IsGateWithin nets (turned_gate turns g)) gates (λ k g at.
      let is = All_at (IsGateWithin nets) gates k g within at in
      record {
        out = is.out;
        ins = is.ins;
        kind = fits (slice_index_or turns g.out.0 false) g.kind (length g.ins) is.kind;
      }))
    where
      fits : (bit : Bool) (kind : Kind) (n : ℕ) → FitsKind kind n → FitsKind (cond bit (opposite_kind kind) kind) n
      fits true kind n is = opposite_fits kind n is
      fits false kind n is = is

  pub turned_once : IsOnceDriven gates → IsOnceDriven (map (turned_gate turns) gates)
  turned_once once =
      pairs_from_places (λ (g h : GateValue). g.out.0 ≢ h.out.0) (map (turned_gate turns) gates) (λ i j g h less at_i at_j same.
      let (a, a_at, a_is) = unmapped (turned_gate turns) gates i g at_i in
      let (b, b_at, b_is) = unmapped (turned_gate turns) gates j h at_j in
      pair_at (λ (g h : GateValue). g.out.0 ≢ h.out.0) gates i j a b once less a_at b_at
      (ap (λ (g : GateValue). g.out.0) a_is ∙ same ∙ ap (λ (g : GateValue). g.out.0) (sym b_is)))

  pub turned_order : (order : List ℕ) → IsOrder gates order → IsOrder (map (turned_gate turns) gates) order
  turned_order order is =
      let same = length-map gates (turned_gate turns) in
      record {
        numbers = subst (λ n. All (λ i. i < n) order) (sym same) is.numbers;
        complete = λ i below. is.complete i (subst (λ n. i < n) same below);
        once = is.once;
        behind = λ k i j at reads.
            let (d, d_at, d_is) = unmapped (turned_gate turns) gates j reads.driver reads.driver_at in
            let (r, r_at, r_is) = unmapped (turned_gate turns) gates i reads.reader reads.reader_at in
            is.behind k i j at (record {
              driver = d;
              reader = r;
              driver_at = d_at;
              reader_at = r_at;
              reads = subst (λ (g : GateValue). Contains r.ins (Net g.out)) (sym d_is) (subst (λ (g : GateValue). Contains g.ins (Net reads.driver.out)) (sym r_is) reads.reads);
            });
      }

  -- the nets that no gate drives are the same
  pub turned_free : (net : ℕ) → IsUndriven gates net → IsUndriven (map (turned_gate turns) gates) net
  turned_free net free = All-map (λ (g : GateValue). g.out.0 ≢ net) (turned_gate turns) gates free

  pub free_turned : (net : ℕ) → IsUndriven (map (turned_gate turns) gates) net → IsUndriven gates net
  free_turned net free =
      All_from_places (λ (g : GateValue). g.out.0 ≢ net) gates (λ k g at.
      All_at (λ (g : GateValue). g.out.0 ≢ net) (map (turned_gate turns) gates) k (turned_gate turns g) free
      (slice_get-map (turned_gate turns) gates k ∙ ap (option_map (turned_gate turns)) at))
