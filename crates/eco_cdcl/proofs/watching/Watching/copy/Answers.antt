-- The copy of a clause is the clause.
use Rattle.std.proofs.Common.{◌<◌, subst}
use Rattle.eco_cdcl.proofs.Walking.{copied_at}
use Rattle.eco_cdcl.proofs.watching.Watching.copy.Goals as goal

pub returns : goal.returns
returns c =
    let s = c.args.self.now in
    record {
      clause = λ cs ready full. copied_at cs s.pairs s.lists c.args.node.0 c.clause.result.now ready.watched full (subst (λ n. c.args.node.0 < n) full c.requires.within) c.clause.ensures;
    }
