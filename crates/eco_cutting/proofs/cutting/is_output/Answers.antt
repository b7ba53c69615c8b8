-- An output that has the name, or one more that hasn't.
use Rattle.std.proofs.Common.{◌≡◌, [], Some, take, get_or, option_map, sym, ◌∙◌, ap, subst, arith}
use Rattle.std.specs.List.{slice_get, Contains}
use Rattle.std.specs.Str.{bytes_eq}
use Rattle.std.proofs.lemmas.Bool.{false≢true}
use Rattle.std.proofs.lemmas.Option.{slice_get-map, slice_get-get_or, get_or_from_slice_get}
use Rattle.eco_lists.proofs.Members.{passes_any}
use Rattle.eco_lists.proofs.Names.{bytes_eq-same, same_name}
use Rattle.eco_lists.proofs.Places.{Contains_at}
use Rattle.eco_meaning.specs.Names.{has}
use Rattle.eco_meaning.specs.Circuit.{names}
use Rattle.eco_gates.specs.declared.gate.NetId.{NetId}
use Rattle.eco_netlist.specs.Netlists.{name_at, names_at}
use Rattle.eco_netlist.proofs.NetNames.{names_at_more}
use Rattle.eco_cutting.proofs.DraftLemmas.{has_more}
use Rattle.eco_cutting.proofs.cutting.is_output.Goals as goal

pub returns-then-eq : goal.returns-then-eq
returns-then-eq c =
    let list = names c.args.f.now in
    let nets = c.outputs-outputs.result.now in
    let k = c.loop-net.net-index in
    let none : NetId = record { 0 = 0 } in
    let other = c.name_of.result.now in
    let name = c.args.name.now in
    let same = same_name other name (sym c.eq.ensures ∙ c.if-eq.true) in
    let named : name_at list (get_or nets k none).0 ≡ other = get_or_from_slice_get list (get_or nets k none).0 other [] c.name_of.ensures in
    let at : slice_get (names_at list nets) k ≡ Some other =
    slice_get-map (λ (n : NetId). name_at list n.0) nets k ∙ ap (option_map (λ (n : NetId). name_at list n.0)) (slice_get-get_or nets k none (omega arith)) ∙ ap Some named in
    sym (passes_any (bytes_eq name) c.args.f.now.outputs other (subst (λ all. Contains all other) c.outputs-outputs.ensures.named (Contains_at (names_at list nets) k other at))
    (ap (bytes_eq name) same ∙ bytes_eq-same name))

pub loop-net-preserved : goal.loop-net-preserved
loop-net-preserved c =
    let list = names c.args.f.now in
    let nets = c.outputs-outputs.result.now in
    let k = c.loop-net.net-index in
    let none : NetId = record { 0 = 0 } in
    let other = c.name_of.result.now in
    let name = c.args.name.now in
    ap (λ all. has all name) (names_at_more list nets k none other (omega arith) c.name_of.ensures)
    ∙ has_more (names_at list (take k nets)) name other c.loop-net.invariant
    (λ e. false≢true (sym c.if-eq.false ∙ c.eq.ensures ∙ ap (λ n. bytes_eq n name) e ∙ bytes_eq-same name))
