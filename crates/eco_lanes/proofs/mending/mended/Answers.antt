-- The lane of each net is one in which the net is turned, and it tells the net's bit.
use Rattle.std.specs.Prelude.{◌↔◌}
use Rattle.std.specs.List.{slice_get, slice_index_or, AllPairs}
use Rattle.std.proofs.Common.{◌≡◌, ◌≢◌, ◌<◌, ℕ, true, false, List, ◌++◌, Some, take, drop, map, length, arith, sym, ◌∙◌, ap, subst}
use Rattle.std.proofs.Math.Seq.{take-append_seam}
use Rattle.std.proofs.lemmas.List.{length-map}
use Rattle.std.proofs.lemmas.Option.{slice_get_within}
use Rattle.eco_meaning.specs.Circuit.{names}
use Rattle.eco_gates.specs.declared.gate.NetId.{NetId}
use Rattle.eco_gates.specs.Words.{is_set, lane}
use Rattle.eco_laws.specs.Sound.{IsSound}
use Rattle.eco_netlist.specs.Netlists.{name_at}
use Rattle.eco_netlist.specs.Values.{HasInputBits}
use Rattle.eco_netlist.proofs.InputBits.{nets_differ}
use Rattle.eco_netlist.proofs.NamedGates.{checked_named, once_driven}
use Rattle.eco_netlist.proofs.SoundNetlists.{sound_netlist}
use Rattle.eco_netlist.proofs.ValueLemmas.{IsNamed}
use Rattle.eco_lanes.proofs.TurnedNets.{IsTurnedLane, lane_of_pass, bit_of_lane, one_turn}
use Rattle.eco_lanes.proofs.mending.mended.Goals as goal

pub input_words-requires-clause-apart : goal.input_words-requires-clause-apart
input_words-requires-clause-apart c =
    nets_differ (names c.args.f.now) c.inputs.result.now
    (subst (AllPairs (λ a b. a ≢ b)) (sym c.inputs.ensures.named) (sound_netlist c.args.f.now c.nets-count.ensures.checked).inputs_once)

pub fill_turned-requires-clause-once : goal.fill_turned-requires-clause-once
fill_turned-requires-clause-once c =
    once_driven c.args.f.now c.gates.result.now c.nets-count.ensures.checked
    (checked_named c.args.f.now c.gates.result.now c.nets-count.ensures.checked (record { named = c.gates.ensures.named; within = c.gates.ensures.within }))

-- a list that was written whole
whole : (new rest : List ℕ) (len : ℕ) → len ≡ length new → take len (new ++ rest) ≡ new
whole new rest len same = ap (λ k. take k (new ++ rest)) same ∙ take-append_seam new rest

pub returns : goal.returns
returns c =
    let f = c.args.f.now in
    let x = c.args.input.now in
    let checked = c.nets-count.ensures.checked in
    let sound : IsSound f = sound_netlist f checked in
    let gates = c.gates.result.now in
    let is : IsNamed f (names f) gates = checked_named f gates checked (record { named = c.gates.ensures.named; within = c.gates.ensures.within }) in
    let inputs = c.inputs.result.now in
    let outputs = c.outputs.result.now in
    let turns = c.as_slice.result.now in
    let old = c.as_mut_slice.result.now in
    let new = c.fill_turned.new.words in
    let count : length inputs ≡ length x = sym (length-map inputs (λ (net : NetId). name_at (names f) net.0)) ∙ ap length c.inputs.ensures.named ∙ sym c.requires.input in
    let nets : c.nets-count.result ≡ length (names f) = c.nets-count.ensures.count in
    let same_old : length old ≡ length (names f) = ap length c.as_mut_slice.ensures.value ∙ c.in_ok-words.ensures.length ∙ nets in
    let long : c.in_ok-words.words.len ≡ length new = omega (arith, c.in_ok-words.words.ok.0, c.fill_turned.ensures.length, ap length c.as_mut_slice.ensures.value) in
    let after : c.as_slice-2.result.now ≡ new = c.as_slice-2.ensures.value ∙ whole new (drop (length new) c.in_ok-words.words.items) c.in_ok-words.words.len long in
    let low : (place : ℕ) (net : NetId) → slice_get c.args.nets.now place ≡ Some net → place < 64 = λ place net at.
    omega (arith, slice_get_within c.args.nets.now place net at, c.requires.few) in
    let lane_of : (place : ℕ) (net : NetId) (name : List ℕ) → slice_get c.args.nets.now place ≡ Some net → slice_get (names f) net.0 ≡ Some name → IsTurnedLane f x name outputs (lane new place) =
    λ place net name at named.
    let lt = low place net at in
    let turn : lane turns place ≡ one_turn (length (names f)) net.0 =
    ap (λ words. lane words place) c.as_slice.ensures.value ∙ c.in_ok-turns.ensures.one place net at ∙ ap (λ n. one_turn n net.0) nets in
    let started : HasInputBits (length (names f)) inputs x (length inputs) (lane old place) =
    subst (λ words. HasInputBits (length (names f)) inputs x (length inputs) (lane words place)) (sym c.as_mut_slice.ensures.value)
    (subst (λ n. HasInputBits n inputs x (length inputs) (lane c.in_ok-words.words.items place)) nets (c.in_ok-words.ensures.bits place lt)) in
    lane_of_pass f gates x inputs outputs turns old new place net name sound is named turn same_old c.fill_turned.ensures.length
    (c.fill_turned.ensures.turned place lt) (c.fill_turned.ensures.kept place lt) (c.fill_turned.ensures.only place lt)
    c.inputs.ensures.named c.inputs.ensures.within count started c.outputs.ensures.named c.outputs.ensures.within in
    record {
      bits = λ place net name at named.
          bit_of_lane f x c.args.wanted.now name outputs (lane new place) (is_set c.wanted_lanes.result place) sound c.requires.closed (lane_of place net name at named)
          (subst (λ (words : List ℕ). (is_set c.wanted_lanes.result place ≡ true) ↔ (map (λ (net : NetId). slice_index_or (lane words place) net.0 false) outputs ≡ c.args.wanted.now)) after
          (c.wanted_lanes.ensures place (low place net at)));
      turned = λ place net name at named.
          let here = lane_of place net name at named in
          (here.values, here.turned, here.input);
    }
