-- The inputs are bound by their names, and there is no target.
use Rattle.std.proofs.Common.{◌≡◌, ℕ, Bool, Result, Ok, Err, length, sym, ◌∙◌, ap}
use Rattle.std.specs.Result.{IfOk}
use Rattle.eco_meaning.specs.Circuit.{names, IsConsistent}
use Rattle.eco_netlist.proofs.SoundNetlists.{sound_netlist}
use Rattle.eco_aig.specs.Graph.{IsValuation}
use Rattle.eco_aig.specs.Edges.{bits_of}
use Rattle.eco_compile.specs.Compiled.{IsBound, values_of}
use Rattle.eco_compile.specs.Bound.{AreNetEdges}
use Rattle.eco_compile.proofs.Asked.{names_within, closed_open, net_edges}
use Rattle.eco_compile.proofs.goals.closed_edges.Goals as goal

pub edges_by_name-requires-clause-named : goal.edges_by_name-requires-clause-named
edges_by_name-requires-clause-named c =
    let f = c.args.f.now in
    let n = c.args.netlist.now in
    names_within n.inputs (names f) (names n) c.inputs.result.now c.inputs.ensures.named (λ name is. (sound_netlist f c.nets.ensures.checked).inputs name (c.requires.inputs name is))

pub compile-requires-clause-count : goal.compile-requires-clause-count
compile-requires-clause-count c =
    closed_open c.args.netlist.now c.inputs.result.now c.as_slice.result.now c.requires.closed c.inputs.ensures.named (ap length c.as_slice.ensures.value ∙ c.in_ok-bind.ensures.count)

-- three facts of a value give a fourth
IfOk-three : {X E : Type 0} (r : Result X E) (P Q R S : X → Type 0) → ((x : X) → P x → Q x → R x → S x) → IfOk r P → IfOk r Q → IfOk r R → IfOk r S
IfOk-three (Ok x) P Q R S f p q r = f x p q r
IfOk-three (Err e) P Q R S f p q r = tt

pub returns-clause-values : goal.returns-clause-values
returns-clause-values c =
    let f = c.args.f.now in
    let n = c.args.netlist.now in
    let table = c.args.table.now in
    let nodes = c.compile.new.aig in
    let bind = c.as_slice.result.now in
    let same = c.as_slice.ensures.value in
    IfOk-three c.compile.result (λ edges. length edges.items ≡ length (names n)) (λ edges. (w : ℕ → Bool) → IsValuation nodes w → IsConsistent n (values_of n w edges.items)) (λ edges. IsBound n bind edges.items) (λ edges. AreNetEdges f n table nodes edges.items) (λ edges.
    net_edges f n table bind edges.items nodes c.inputs.result.now c.nets-2.ensures.checked c.requires.closed c.inputs.ensures.named (ap length same ∙ c.in_ok-bind.ensures.count) (λ w. c.in_ok-bind.ensures.values w ∙ sym (ap (bits_of w) same))) c.compile.ensures.length c.compile.ensures.consistent c.compile.ensures.bound
