use Rattle.eco_netlist.proofs.BuildLemmas.{built_circuit, built_numbered}
use Rattle.eco_netlist.proofs.making.built.Goals as goal

pub invariant_of-result : goal.invariant_of-result
invariant_of-result c =
    let is = c.requires.netlist in
    built_numbered is.0 c.args.parts c.args.lists c.args.order is.1 is.2 is.3 c.requires.order

pub returns : goal.returns
returns c = record { made = λ n has listed. built_circuit n c.args.parts c.args.lists c.args.order has listed }
