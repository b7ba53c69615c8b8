-- White space and comments leave the same tokens ahead.
use Rattle.std.proofs.Common.{◌≡◌, ◌≤◌, length}
use Rattle.eco_tokens.specs.Ahead.{tokens_ahead}
use Rattle.eco_tokens.proofs.first_token.Given as goal

abbrev pub invariant-loop-rest : goal.invariant-loop-rest
invariant-loop-rest l = record {
  same : tokens_ahead l.bytes ≡ tokens_ahead l.rest;
  shorter : length l.rest ≤ length l.bytes;
}

abbrev pub decreases-loop-rest : goal.decreases-loop-rest
decreases-loop-rest l = length l.rest
