-- Each clause has a true literal.
use Rattle.std.proofs.Common.{arith}
use Rattle.eco_trace.specs.Clauses.{valuation_of}
use Rattle.eco_trace.specs.Resolution.{clauses_of}
use Rattle.eco_scan.proofs.ReadyLaws.{whole_satisfies}
use Rattle.eco_scan.proofs.rounds.modelled.Goals as goal

pub returns : goal.returns
returns c = record {
  round = (
    omega (arith, c.in_ok-model.ensures.all),
    whole_satisfies (clauses_of c.args.trace.now) c.args.trail.now (valuation_of c.in_ok-model.model) c.requires.ready c.requires.propagated.0 c.requires.propagated.1 c.in_ok-model.ensures.each,
  );
}
