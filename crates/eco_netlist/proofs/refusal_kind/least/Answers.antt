use Rattle.std.proofs.Common.{◌∙◌, ap}
use Rattle.std.specs.Option.{option_copied}
use Rattle.eco_netlist.specs.Tallies.{smaller}
use Rattle.eco_netlist.proofs.RefusalLemmas.{least_next, least_all}
use Rattle.eco_netlist.proofs.refusal_kind.least.Goals as goal

pub loop-net-preserved : goal.loop-net-preserved
loop-net-preserved c =
    least_next c.args.refusal_kind c.args.rule c.args.names.now c.args.tallies.now c.loop-net.net (option_copied c.loop-net.least) (option_copied c.smaller-least.result) c.index-names-net.result
    c.loop-net-test.true c.requires c.index-names-net.is
    (c.smaller-least.ensures ∙ ap (smaller (option_copied c.loop-net.least) c.index-names-net.result) c.stands.ensures)
    c.loop-net.invariant

pub returns : goal.returns
returns c =
    least_all c.args.refusal_kind c.args.rule c.args.names.now c.args.tallies.now c.loop-net.net (option_copied c.loop-net.least) c.loop-net-test.false c.requires
    c.loop-net.invariant
