use Rattle.std.proofs.lemmas.Result.{on_ok_weaker}
use Rattle.std.proofs.Common.{sym}
use Rattle.eco_tseitin.proofs.Naming.{constant_added, and_added, input_added}
use Rattle.eco_tseitin.proofs.encoder.Encoder.add_node.Goals as goal

pub returns-then-node-eq0-clause-ok : goal.returns-then-node-eq0-clause-ok
returns-then-node-eq0-clause-ok c =
    on_ok_weaker c.add_constant.result (λ h. constant_added c.args.aig.now c.args.self.now c.add_constant.new.self c.args.node c.nodes.ensures.graph c.if-node-eq0.true h) c.add_constant.ensures.ok

pub returns-in-Some-clause-ok : goal.returns-in-Some-clause-ok
returns-in-Some-clause-ok c =
    on_ok_weaker c.add_conjunction.result (λ h. and_added c.args.aig.now c.args.self.now c.add_conjunction.new.self c.args.node c.in-Some.first c.in-Some.second (sym c.in-Some.ensures.pair) h) c.add_conjunction.ensures.ok

pub returns-in-None-clause-ok : goal.returns-in-None-clause-ok
returns-in-None-clause-ok c =
    input_added c.args.aig.now c.args.self.now c.args.node c.nodes.ensures.graph c.if-node-eq0.false c.requires.within (sym c.in-None.ensures.pair)
