use Rattle.std.proofs.Common.{sym, ◌∙◌}
use Rattle.std.proofs.lemmas.Bool.{false≢true, both_ways, not-false}
use Rattle.std.proofs.lemmas.Slice.Eq.{bytes_eq-Decides}
use Rattle.eco_netlist.proofs.SameParts.{same_ports, same_inputs, same_outputs, same_gates, same_circuit}
use Rattle.eco_netlist.proofs.netlist.Netlist.same.Goals as goal

pub returns-then-not-are_same_nets : goal.returns-then-not-are_same_nets
returns-then-not-are_same_nets c = (
  λ holds. absurd (false≢true holds),
  λ e.
      let same = same_ports c.self.inside c.other.inside c.self.invariant c.other.invariant (c.self.view_is ∙ e ∙ sym c.other.view_is) in
      absurd (both_ways c.are_same_nets.result c.if-not-are_same_nets.true
      (c.are_same_nets.ensures.1 (c.as_slice-3.ensures.value ∙ same ∙ sym c.as_slice-4.ensures.value))),
)

pub returns-then-not-are_same_nets-2 : goal.returns-then-not-are_same_nets-2
returns-then-not-are_same_nets-2 c = (
  λ holds. absurd (false≢true holds),
  λ e.
      let same = same_inputs c.self.inside c.other.inside c.self.invariant c.other.invariant (c.self.view_is ∙ e ∙ sym c.other.view_is) in
      absurd (both_ways c.are_same_nets-2.result c.if-not-are_same_nets-2.true
      (c.are_same_nets-2.ensures.1 (c.as_slice-5.ensures.value ∙ same ∙ sym c.as_slice-6.ensures.value))),
)

pub returns-then-not-are_same_nets-3 : goal.returns-then-not-are_same_nets-3
returns-then-not-are_same_nets-3 c = (
  λ holds. absurd (false≢true holds),
  λ e.
      let same = same_outputs c.self.inside c.other.inside c.self.invariant c.other.invariant (c.self.view_is ∙ e ∙ sym c.other.view_is) in
      absurd (both_ways c.are_same_nets-3.result c.if-not-are_same_nets-3.true
      (c.are_same_nets-3.ensures.1 (c.as_slice-7.ensures.value ∙ same ∙ sym c.as_slice-8.ensures.value))),
)

pub returns : goal.returns
returns c = (
  λ holds.
      let title = (bytes_eq-Decides c.self.inside.title c.other.inside.title).0 (not-false _ (sym c.ne.ensures ∙ c.if-ne.false)) in
      let keys = sym c.as_slice.ensures.keys ∙ c.have_same_names.ensures.0 c.if-not-have_same_names.false ∙ c.as_slice-2.ensures.keys in
      let ports = sym c.as_slice-3.ensures.value ∙ c.are_same_nets.ensures.0 c.if-not-are_same_nets.false ∙ c.as_slice-4.ensures.value in
      let inputs = sym c.as_slice-5.ensures.value ∙ c.are_same_nets-2.ensures.0 c.if-not-are_same_nets-2.false ∙ c.as_slice-6.ensures.value in
      let outputs = sym c.as_slice-7.ensures.value ∙ c.are_same_nets-3.ensures.0 c.if-not-are_same_nets-3.false ∙ c.as_slice-8.ensures.value in
      let gates = sym c.as_slice-9.ensures.value ∙ c.are_same_gates.ensures.0 holds ∙ c.as_slice-10.ensures.value in
      sym c.self.view_is ∙ same_circuit c.self.inside c.other.inside title keys ports inputs outputs gates ∙ c.other.view_is,
  λ e.
      let same = same_gates c.self.inside c.other.inside c.self.invariant c.other.invariant (c.self.view_is ∙ e ∙ sym c.other.view_is) in
      c.are_same_gates.ensures.1 (c.as_slice-9.ensures.value ∙ same ∙ sym c.as_slice-10.ensures.value),
)
