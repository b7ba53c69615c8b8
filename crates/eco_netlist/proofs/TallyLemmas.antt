-- Counts that are noted one list after another.
use Rattle.std.proofs.Common.{◌≡◌, ℕ, ◌<◌, false, List, ◌++◌, length, take, drop, replicate, count_by, ap, ◌∙◌, arith}
use Rattle.std.specs.List.{IsDistinct}
use Rattle.std.specs.Str.{bytes_eq}
use Rattle.std.proofs.lemmas.List.{take_at, get_or-replicate}
use Rattle.eco_gates.specs.declared.gate.NetId.{NetId}
use Rattle.eco_gates.specs.GateValue.{GateValue}
use Rattle.eco_netlist.specs.declared.draft.Declarations.{Declarations}
use Rattle.eco_netlist.specs.declared.tally.Place.{Place}
use Rattle.eco_netlist.specs.declared.tally.Place.TheVariants.{Header, Input, Output, Wire}
use Rattle.eco_netlist.specs.declared.tally.Tally.{Tally}
use Rattle.eco_netlist.specs.Drafted.{IsDrafted}
use Rattle.eco_netlist.specs.Tallies.{nowhere, tally_at, is_net, with_count, with_gates, AreTallies}
use Rattle.eco_netlist.proofs.NumberedNames.{tallied}

-- the second counts have the nets of a list in their place, or the gates, and else are the first ones
abbrev pub AreNoted : Place → List NetId → List Tally → List Tally → Type 0
AreNoted place nets old new =
    (length new ≡ length old)
    × ((net : ℕ) → net < length old → tally_at new net ≡ with_count place (count_by (is_net net) nets) (tally_at old net))

abbrev pub AreNotedGates : List GateValue → List Tally → List Tally → Type 0
AreNotedGates gates old new =
    (length new ≡ length old) × ((net : ℕ) → net < length old → tally_at new net ≡ with_gates gates net (tally_at old net))

-- at first nothing is counted
pub tally_at-blank : (n : ℕ) (tallies : List Tally) (net : ℕ) → tallies ≡ replicate n nowhere → net < n → tally_at tallies net ≡ nowhere
tally_at-blank n tallies net is within = ap (λ t. tally_at t net) is ∙ get_or-replicate n net nowhere nowhere within

-- all that is declared is noted
pub AreTallies-from : (x : Declarations) (t0 t1 t2 t3 t4 t5 : List Tally) → IsDistinct bytes_eq x.names.keys → IsDrafted x → length t0 ≡ length x.names.keys → ((net : ℕ) → net < length x.names.keys → tally_at t0 net ≡ nowhere) →
    AreNoted Header x.header.items t0 t1 → AreNoted Input x.inputs.items t1 t2 → AreNoted Output x.outputs.items t2 t3 → AreNoted Wire x.wires.items t3 t4 →
    AreNotedGates x.gates.items t4 t5 → AreTallies x t5
AreTallies-from x t0 t1 t2 t3 t4 t5 distinct drafted long blank header inputs outputs wires gates = record {
  count = gates.0 ∙ wires.0 ∙ outputs.0 ∙ inputs.0 ∙ header.0 ∙ long;
  counts = λ net within.
      let at0 : net < length t0 = omega (arith, long) in
      let at1 : net < length t1 = omega (arith, header.0) in
      let at2 : net < length t2 = omega (arith, inputs.0) in
      let at3 : net < length t3 = omega (arith, outputs.0) in
      let at4 : net < length t4 = omega (arith, wires.0) in
      let first = header.1 net at0 ∙ ap (with_count Header (count_by (is_net net) x.header.items)) (blank net within) in
      let second = inputs.1 net at1 ∙ ap (with_count Input (count_by (is_net net) x.inputs.items)) first in
      let third = outputs.1 net at2 ∙ ap (with_count Output (count_by (is_net net) x.outputs.items)) second in
      let fourth = wires.1 net at3 ∙ ap (with_count Wire (count_by (is_net net) x.wires.items)) third in
      gates.1 net at4 ∙ ap (with_gates x.gates.items net) fourth ∙ tallied x net distinct drafted within;
}

-- what has been written to all of a list
pub written_all : (n : ℕ) (old new : List Tally) → length new ≡ n → take n (new ++ drop (length new) old) ≡ new
written_all n old new long = take_at new (drop (length new) old) n long

-- counts that are all 0
pub same_nowhere : (t : Tally) → t.header ≡ 0 → t.inputs ≡ 0 → t.outputs ≡ 0 → t.wires ≡ 0 → t.drivers ≡ 0 → t.is_read ≡ false → t ≡ nowhere
same_nowhere t header inputs outputs wires drivers is_read = λ i. record {
  header = header i;
  inputs = inputs i;
  outputs = outputs i;
  wires = wires i;
  drivers = drivers i;
  is_read = is_read i;
}
