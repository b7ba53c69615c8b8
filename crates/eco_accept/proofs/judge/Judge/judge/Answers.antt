-- What is found of the question says what is asked.
use Rattle.eco_accept.proofs.Asking.{judged_found}
use Rattle.eco_accept.proofs.judge.Judge.judge.Goals as goal

pub returns-in-Ok-clause-judged : goal.returns-in-Ok-clause-judged
returns-in-Ok-clause-judged g c =
    judged_found c.args.self.now (record { clauses = c.self.inside.cnf; shared = c.self.inside.shared.items; part = c.self.inside.part }) c.args.aig.now c.args.root c.pose.new.cnf c.args.limit c.as_slice-shared.result.now c.search-found.result c.self.view_is c.as_slice-shared.ensures.value c.self.invariant c.nodes.ensures.graph c.requires.inputs c.in-Ok.ensures.posed c.search-found.ensures
