use Rattle.std.proofs.Common.{◌≡◌, ◌↔◌, true, List, [], ℕ, subst, arith, ap, ◌∙◌, take, get_or}
use Rattle.std.proofs.lemmas.List.{take_all}
use Rattle.std.proofs.lemmas.Option.{get_or_from_slice_get}
use Rattle.std.specs.Option.{option_copied}
use Rattle.eco_meaning.specs.Circuit.{names}
use Rattle.eco_gates.specs.declared.gate.NetId.{NetId}
use Rattle.eco_netlist.specs.Netlists.{names_at}
use Rattle.eco_netlist.specs.Misfits.{IsUnfit, IsLeastIn}
use Rattle.eco_netlist.proofs.NetNames.{names_at_more}
use Rattle.eco_netlist.proofs.MisfitLemmas.{least_more}
use Rattle.eco_netlist.proofs.fitting.least_unfit.Goals as goal

pub loop-net-preserved : goal.loop-net-preserved
loop-net-preserved c =
    let f = c.args.f.now in
    let p = c.args.p.now in
    let list = names p in
    let name = c.name_of-name.result.now in
    let net : NetId = get_or c.inputs-net-items.result.now c.loop-net.net-index (record { 0 = 0 }) in
    let more = names_at_more list c.inputs-net-items.result.now c.loop-net.net-index _ name (omega arith) c.name_of-name.ensures in
    let says : (c.is_unfit.result ≡ true) ↔ IsUnfit f p name = subst (λ (x : List ℕ). (c.is_unfit.result ≡ true) ↔ IsUnfit f p x) (get_or_from_slice_get list net.0 name [] c.name_of-name.ensures) c.is_unfit.ensures in
    rw (more, c.smaller-least.ensures)
    (least_more (IsUnfit f p) (names_at list (take c.loop-net.net-index c.inputs-net-items.result.now)) (option_copied c.loop-net.least) name c.is_unfit.result says c.loop-net.invariant)

pub returns : goal.returns
returns c =
    let nets = c.inputs-net-items.result.now in
    let all = ap (names_at (names c.args.p.now)) (take_all c.loop-net.net-index nets (omega arith)) ∙ c.inputs-net-items.ensures.named in
    subst (λ (l : List (List ℕ)). IsLeastIn (IsUnfit c.args.f.now c.args.p.now) l (option_copied c.loop-net.least)) all c.loop-net.invariant
