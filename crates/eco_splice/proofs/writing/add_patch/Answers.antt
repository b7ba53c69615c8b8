use Rattle.std.proofs.Common.{sym, ◌∙◌}
use Rattle.std.proofs.lemmas.List.{length-map}
use Rattle.eco_meaning.specs.Circuit.{names}
use Rattle.eco_netlist.specs.Netlists.{name_at, names_at}
use Rattle.eco_splice.proofs.LineShape.{length-nets}
use Rattle.eco_splice.proofs.PartLemmas.{targets_within, nets_enough, operands_stand}
use Rattle.std.proofs.Common.{length, ap, arith}
use Rattle.eco_splice.proofs.writing.add_patch.Goals as goal

pub net_names-requires-clause-within : goal.net_names-requires-clause-within
net_names-requires-clause-within c =
    targets_within c.args.roots.now.edges.now c.args.lines.now (length c.args.frame.now.targets.now) c.requires.count c.requires.ready.drive

pub add_line_gates-requires-clause-nets : goal.add_line_gates-requires-clause-nets
add_line_gates-requires-clause-nets c =
    let list = names c.args.frame.now.f.now in
    nets_enough c.args.frame.now.prefix.now (names_at list c.args.frame.now.targets.now) (names_at list c.args.roots.now.base.now) c.args.roots.now.aig.now c.args.lines.now c.as_slice.result.now c.args.places.now.edges.items
    (c.as_slice.ensures.value ∙ c.in_ok-names.ensures) c.requires.netted (c.requires.inputs ∙ sym (length-map c.args.roots.now.base.now _))

pub add_line_gates-requires-clause-count : goal.add_line_gates-requires-clause-count
add_line_gates-requires-clause-count c =
    let list = names c.args.frame.now.f.now in
    let same = ap length (c.as_slice.ensures.value ∙ c.in_ok-names.ensures) in
    let all = length-nets c.args.frame.now.prefix.now (names_at list c.args.frame.now.targets.now) (names_at list c.args.roots.now.base.now) c.args.lines.now in
    let base = length-map c.args.roots.now.base.now (λ net. name_at list net.0) in
    omega (arith, same, all, base)

pub add_line_gates-requires-clause-stand : goal.add_line_gates-requires-clause-stand
add_line_gates-requires-clause-stand c =
    operands_stand c.args.roots.now.aig.now c.args.roots.now.edges.now c.args.lines.now c.args.places.now.edges.items c.requires.netted c.requires.ready
