-- All that is said of a run, as one record.
use Rattle.eco_cli.specs.declared.top.Outcome.{Outcome}
use Rattle.eco_cli.specs.Calls.{Call, IsAnswered, IsKept}
use Rattle.eco_cli.specs.Exact.{IsComplete, IsExact}
use Rattle.eco_cli.specs.Headline.{IsSynthHeadline}
use Rattle.eco_cli.specs.OfGates.{IsSynthOfGates}

-- the outcome is what the call leaves, status by status; it comes exactly where its cause stands, and is complete; of `synth` it
-- says the headline, also as it is told for files in gates alone
pub record IsRun (call : Call) (outcome : Outcome) : Type 0 where
  pub answered : IsAnswered call outcome.status outcome.stuck
  pub kept : IsKept call outcome.status outcome.made
  pub exactly : IsExact call outcome.status
  pub complete : IsComplete call outcome.status
  pub headline : IsSynthHeadline call outcome.status
  pub of_gates : IsSynthOfGates call outcome.status
