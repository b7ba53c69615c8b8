-- Marks tell which outputs the signal reaches.
use Rattle.std.proofs.Common.{◌≡◌, ◌↔◌, ℕ, ◌<◌, ◌≤◌, Bool, false, inl, inr, List, [], Some, option_map, length, get_or, take, drop, suc, refl, sym, ◌∙◌, ap, subst, arith}
use Rattle.std.specs.List.{slice_get}
use Rattle.std.specs.Prelude.{IsTrue}
use Rattle.std.proofs.Math.Nat.{eq-or-lt_of_le}
use Rattle.std.proofs.lemmas.Bool.{false≢true, both_ways}
use Rattle.std.proofs.lemmas.List.{length-map}
use Rattle.std.proofs.lemmas.Option.{slice_get-map, slice_get-get_or, slice_get_within, same_Some}
use Rattle.eco_meaning.specs.Circuit.{Circuit, names, Fan}
use Rattle.eco_meaning.specs.Patch.{IsBehindOnly}
use Rattle.eco_gates.specs.declared.gate.NetId.{NetId}
use Rattle.eco_netlist.specs.Netlists.{name_at, names_at}
use Rattle.eco_audit.specs.Checks.{AreReachedMarks}
use Rattle.eco_audit.proofs.Groups.{cut_at, by_places, of_output}
use Rattle.eco_audit.proofs.Marks.{marked_bit}
use Rattle.eco_audit.proofs.reaching.are_in_time.Goals as goal

-- the output at a place, by its net
output_at : (p : Circuit) (nets : List NetId) (place : ℕ) (d : NetId) → names_at (names p) nets ≡ p.outputs → place < length nets → slice_get p.outputs place ≡ Some (name_at (names p) (get_or nets place d).0)
output_at p nets place d named less =
    ap (λ (l : List (List ℕ)). slice_get l place) (sym named) ∙ slice_get-map (λ (net : NetId). name_at (names p) net.0) nets place
    ∙ ap (option_map (λ (net : NetId). name_at (names p) net.0)) (slice_get-get_or nets place d less)

-- a mark tells whether the signal reaches the output at this place
marked_output : (p : Circuit) (nets : List NetId) (marks : List Bool) (place : ℕ) (name target : List ℕ) → names_at (names p) nets ≡ p.outputs → place < length nets →
    (get_or nets place (record { 0 = 0 })).0 < length (names p) → AreReachedMarks p name marks → slice_get p.outputs place ≡ Some target →
    IsTrue (get_or marks (get_or nets place (record { 0 = 0 })).0 false) ↔ Fan p name target
marked_output p nets marks place name target named less below are at =
    let net = get_or nets place (record { 0 = 0 }) in
    let same = same_Some target (name_at (names p) net.0) (sym at ∙ output_at p nets place (record { 0 = 0 }) named less) in
    let there : slice_get (names p) net.0 ≡ Some target = slice_get-get_or (names p) net.0 [] below ∙ ap Some (sym same) in
    let (bit_to, bit_from) = marked_bit marks net.0 (omega (arith, below, are.len)) in
    let (to, from) = are.marked net.0 target there in
    (λ bit. to (bit_to bit), λ fan. bit_from (from fan))

pub may_read-requires-clause-number : goal.may_read-requires-clause-number
may_read-requires-clause-number c =
    let outputs = c.args.patch.now.outputs in
    let nets = c.outputs-output-items.result.now in
    let long = ap length c.outputs-output-items.ensures.named in
    (length outputs, (outputs, c.requires.targets, refl), omega (arith, long, length-map nets (λ (net : NetId). name_at (names c.args.patch.now) net.0), c.loop-place-test.true))

pub returns-then-not-may_read : goal.returns-then-not-may_read
returns-then-not-may_read c = λ name source are. (
  λ holds. absurd (false≢true holds),
  λ all.
      let f = c.args.problem.now.implementation in
      let p = c.args.patch.now in
      let nets = c.outputs-output-items.result.now in
      let place = c.loop-place.place in
      let net = get_or nets place (record { 0 = 0 }) in
      let target = name_at (names p) net.0 in
      let here = output_at p nets place (record { 0 = 0 }) c.outputs-output-items.ensures.named c.loop-place-test.true in
      let fan = marked_output p nets c.args.marks.now place name target c.outputs-output-items.ensures.named c.loop-place-test.true
      (c.outputs-output-items.ensures.within place (record { 0 = 0 }) c.loop-place-test.true) are here in
      let may = of_output f p place (λ first target. IsTrue c.may_read.result ↔ (IsTrue (get_or c.args.marks.now net.0 false) → IsBehindOnly f first name)) c.requires.targets
      (c.may_read.ensures name source) target here in
      absurd (both_ways c.may_read.result c.if-not-may_read.true
      (may.1 (λ reached. all (take place p.outputs) target (drop (suc place) p.outputs) (cut_at p.outputs place target here) (fan.0 reached)))),
)

pub loop-place-preserved : goal.loop-place-preserved
loop-place-preserved c = λ name source are k less target at.
    let f = c.args.problem.now.implementation in
    let p = c.args.patch.now in
    let nets = c.outputs-output-items.result.now in
    let place = c.loop-place.place in
    let behind = λ (j : ℕ). Fan p name target → IsBehindOnly f (take j p.outputs) name in
    let most : k ≤ place = omega (arith, less) in
    elim (eq-or-lt_of_le most) [
      | inl same ↦
          let here = ap (slice_get p.outputs) (sym same) ∙ at in
          let fan = marked_output p nets c.args.marks.now place name target c.outputs-output-items.ensures.named c.loop-place-test.true
          (c.outputs-output-items.ensures.within place (record { 0 = 0 }) c.loop-place-test.true) are here in
          let may = of_output f p place (λ first target. IsTrue c.may_read.result ↔ (IsTrue (get_or c.args.marks.now (get_or nets place (record { 0 = 0 })).0 false) → IsBehindOnly f first name))
          c.requires.targets (c.may_read.ensures name source) target here in
          subst behind (sym same) (λ reached. may.0 c.if-not-may_read.false (fan.1 reached))
      | inr below ↦ c.loop-place.invariant name source are k below target at
    ]

pub returns : goal.returns
returns c = λ name source are. (
  λ holds.
      let p = c.args.patch.now in
      let long : length p.outputs ≤ c.loop-place.place =
      omega (arith, ap length c.outputs-output-items.ensures.named, length-map c.outputs-output-items.result.now (λ (net : NetId). name_at (names p) net.0), c.loop-place-test.false) in
      by_places (λ first target. Fan p name target → IsBehindOnly c.args.problem.now.implementation first name) p.outputs
      (λ k target at. c.loop-place.invariant name source are k (omega (arith, long, slice_get_within p.outputs k target at)) target at),
  λ all. refl,
)
