-- The name stands before too, or a gate drives a net of it, or none does.
use Rattle.eco_inputs.proofs.NetLaws.{next_among, next_driven}
use Rattle.eco_inputs.proofs.nets.next_net.Goals as goal

pub returns-then-is_among : goal.returns-then-is_among
returns-then-is_among c =
    next_among c.args.f.now c.args.named.now c.args.place _ c.is_among.result c.requires c.is_among.ensures c.if-is_among.true

pub returns : goal.returns
returns c =
    next_driven c.args.f.now c.args.named.now c.args.place _ c.is_among.result c.requires c.is_among.ensures c.if-is_among.false c.driven_net.result c.as_bytes.result.now c.as_bytes.ensures.value
    c.driven_net.ensures
