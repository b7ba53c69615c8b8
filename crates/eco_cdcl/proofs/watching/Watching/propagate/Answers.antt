-- A walk begins for the complement of the next literal, and goes on by one.
use Rattle.std.proofs.Common.{sym, subst}
use Rattle.eco_trace.specs.Resolution.{clauses_of}
use Rattle.eco_cdcl.specs.Watching.{IsWalking}
use Rattle.eco_cdcl.proofs.Walking.{walk_begin}
use Rattle.eco_cdcl.proofs.watching.Watching.propagate.Goals as goal

pub walk-requires : goal.walk-requires
walk-requires c =
    let s = c.loop-self.self in
    let cs = clauses_of c.args.trace.now in
    record {
      walking = subst (λ x. IsWalking cs s.trail s.done s.pairs s.lists x 0) (sym c.complement-lit.ensures)
          (walk_begin cs s.trail s.done s.pairs s.lists c.lit.result c.loop-self.invariant.ready c.loop-self.invariant.full c.lit.ensures);
    }
