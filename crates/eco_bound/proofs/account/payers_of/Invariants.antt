-- The candidates so far.
use Rattle.std.proofs.Common.{◌≡◌, map, take}
use Rattle.eco_bound.specs.Accounts.{full_payer}
use Rattle.eco_bound.proofs.account.payers_of.Given as goal

abbrev pub invariant-loop-net : goal.invariant-loop-net
invariant-loop-net l = l.payers.items ≡ map (full_payer l.problem) (take l.net-index l.turns)
