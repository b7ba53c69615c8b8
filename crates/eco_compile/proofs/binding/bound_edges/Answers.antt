-- One more net, and at the end all of them.
use Rattle.std.proofs.Common.{◌≡◌, ◌≢◌, ◌<◌, ◌≤◌, List, length, get_or, sym, ◌∙◌, ap, subst, arith}
use Rattle.std.specs.List.{AllPairs}
use Rattle.std.proofs.lemmas.List.{length-map}
use Rattle.std.proofs.lemmas.Option.{slice_get-get_or}
use Rattle.eco_meaning.specs.Circuit.{names}
use Rattle.eco_gates.specs.declared.gate.NetId.{NetId}
use Rattle.eco_netlist.specs.Netlists.{name_at, AreNets}
use Rattle.eco_aig.specs.Edges.{plain}
use Rattle.eco_compile.proofs.OpenNets.{IsBoundTo, bound_more, bound_all}
use Rattle.eco_compile.proofs.binding.bound_edges.Goals as goal

pub loop-place-preserved : goal.loop-place-preserved
loop-place-preserved c =
    let n = c.args.netlist.now in
    let targets = c.requires.count in
    let items = c.in_ok-nets.nets.items in
    let nets = c.as_slice-net-items.result.now in
    let k = c.loop-place.place in
    let none : NetId = record { 0 = 0 } in
    let bind = c.args.bind.now in
    let same : nets ≡ items = c.as_slice-net-items.ensures.value in
    let count : length nets ≡ length bind = ap length same ∙ sym (length-map items (λ (net : NetId). name_at (names n) net.0)) ∙ ap length (c.in_ok-nets.ensures.named targets.0 targets.1) ∙ targets.2 in
    let apart : AllPairs (λ a b. a.0 ≢ b.0) nets = subst (λ (list : List NetId). AllPairs (λ a b. a.0 ≢ b.0) list) (sym same) c.in_ok-nets.ensures.apart in
    let within : AreNets (names n) nets = subst (AreNets (names n)) (sym same) c.in_ok-nets.ensures.within in
    let room : k < length bind = omega (arith, count, c.loop-place-test.true) in
    bound_more c.args.aig.now nets bind (length (names n)) k c.loop-place.edges.items (get_or nets k none) (get_or bind k (plain 0)) apart (slice_get-get_or nets k none c.loop-place-test.true) (slice_get-get_or bind k (plain 0) room) (within k none c.loop-place-test.true) (c.requires.edges k (plain 0) room) c.loop-place.invariant

pub returns-clause-bound : goal.returns-clause-bound
returns-clause-bound c =
    let n = c.args.netlist.now in
    let targets = c.requires.count in
    let nets = c.in_ok-nets.nets.items in
    let edges = c.loop-place.edges.items in
    let count = length (names n) in
    let all : IsBoundTo c.args.aig.now nets c.args.bind.now count c.loop-place.place edges = subst (λ (list : List NetId). IsBoundTo c.args.aig.now list c.args.bind.now count c.loop-place.place edges) c.as_slice-net-items.ensures.value c.loop-place.invariant in
    bound_all n targets.0 c.args.aig.now nets c.args.bind.now edges count c.loop-place.place c.nets.ensures.checked targets.1 (c.in_ok-nets.ensures.named targets.0 targets.1) c.in_ok-nets.ensures.within (subst (λ (list : List NetId). length list ≤ c.loop-place.place) c.as_slice-net-items.ensures.value c.loop-place-test.false) all
