-- The gates are those of a checked netlist.
use Rattle.std.proofs.Common.{◌≡◌, ℕ, Bool, map, length, ◌∙◌, ap, subst}
use Rattle.std.specs.List.{slice_get, sum_by}
use Rattle.std.proofs.lemmas.Result.{IfOk-weaker}
use Rattle.eco_meaning.specs.Circuit.{NamedGate, names, IsConsistent}
use Rattle.eco_lists.proofs.Values.{IfOk-both}
use Rattle.eco_gates.specs.Gates.{IsUndriven}
use Rattle.eco_gates.specs.Evaluation.{IsConsistentAt}
use Rattle.eco_aig.specs.Graph.{IsValuation, Grows}
use Rattle.eco_aig.specs.Edges.{bits_of}
use Rattle.eco_netlist.proofs.NamedGates.{checked_named, once_driven}
use Rattle.eco_compile.specs.Compiled.{IsBound, values_of}
use Rattle.eco_compile.specs.Joins.{gate_nodes}
use Rattle.eco_compile.proofs.Compiling.{named_sizes}
use Rattle.eco_compile.proofs.OpenNets.{bound_stays, named_values, consistent_values}
use Rattle.eco_compile.proofs.nets.compile.Goals as goal

pub compile_gates-requires-clause-once : goal.compile_gates-requires-clause-once
compile_gates-requires-clause-once c = once_driven c.args.netlist.now c.gates.result.now c.nets.ensures.checked (checked_named c.args.netlist.now c.gates.result.now c.nets.ensures.checked (record { named = c.gates.ensures.named; within = c.gates.ensures.within }))

pub compile_gates-requires-clause-order : goal.compile_gates-requires-clause-order
compile_gates-requires-clause-order c = c.order.ensures c.gates.result.now (record { named = c.gates.ensures.named; within = c.gates.ensures.within })

pub returns-clause-named : goal.returns-clause-named
returns-clause-named c =
    let n = c.args.netlist.now in
    IfOk-weaker c.compile_gates.result (λ edges. length edges.items ≡ length c.in_ok-edges.edges.items) (λ edges. (w : ℕ → Bool) → map (values_of n w edges.items) (names n) ≡ bits_of w edges.items) (λ edges len w.
    named_values n edges.items w c.nets.ensures.checked.distinct (len ∙ c.in_ok-edges.ensures.length)) c.compile_gates.ensures.length

pub returns-clause-consistent : goal.returns-clause-consistent
returns-clause-consistent c =
    let n = c.args.netlist.now in
    let gates = c.gates.result.now in
    let nodes = c.compile_gates.new.aig in
    let is = checked_named n gates c.nets.ensures.checked (record { named = c.gates.ensures.named; within = c.gates.ensures.within }) in
    IfOk-both c.compile_gates.result (λ edges. length edges.items ≡ length c.in_ok-edges.edges.items) (λ edges. (w : ℕ → Bool) → IsValuation nodes w → IsConsistentAt gates (bits_of w edges.items)) (λ edges. (w : ℕ → Bool) → IsValuation nodes w → IsConsistent n (values_of n w edges.items)) (λ edges len consistent w valuation.
    consistent_values n gates edges.items w is (len ∙ c.in_ok-edges.ensures.length) (consistent w valuation)) c.compile_gates.ensures.length c.compile_gates.ensures.consistent

pub returns-clause-bound : goal.returns-clause-bound
returns-clause-bound c =
    let n = c.args.netlist.now in
    let gates = c.gates.result.now in
    let is = checked_named n gates c.nets.ensures.checked (record { named = c.gates.ensures.named; within = c.gates.ensures.within }) in
    let old = c.in_ok-edges.edges.items in
    IfOk-weaker c.compile_gates.result (λ new. (net : ℕ) → IsUndriven gates net → slice_get new.items net ≡ slice_get old net) (λ new. IsBound n c.args.bind.now new.items) (λ new kept.
    bound_stays n gates c.args.bind.now old new.items c.nets.ensures.checked is kept c.in_ok-edges.ensures.bound) c.compile_gates.ensures.kept

pub returns-clause-grows : goal.returns-clause-grows
returns-clause-grows c =
    let n = c.args.netlist.now in
    let sizes = named_sizes (names n) c.gates.result.now ∙ ap (sum_by (λ (g : NamedGate). gate_nodes g.kind (length g.terms))) c.gates.ensures.named in
    subst (Grows c.args.aig.now c.compile_gates.new.aig) sizes c.compile_gates.ensures.grows
