-- The rows fit and are distinct, so there are at most as many as the most targets have values.
use Rattle.std.proofs.Common.{◌≡◌, ◌-◌, ◌^◌, length}
use Rattle.eco_query.specs.Problem.{HasSomeTargets}
use Rattle.eco_query.specs.declared.TheConstants.{MOST_TARGETS}
use Rattle.eco_rectify.specs.Searched.{AreListed}
use Rattle.eco_rectify.proofs.listing.rectify.Given as goal

abbrev pub invariant-loop-rows : goal.invariant-loop-rows
invariant-loop-rows g l = record {
  stays : l.engine ≡ l.fn.engine;
  some : HasSomeTargets l.fn.engine.problem.implementation;
  rows : AreListed l.fn.engine.problem.implementation l.rows.items;
}

abbrev pub decreases-loop-rows : goal.decreases-loop-rows
decreases-loop-rows g l = 2 ^ MOST_TARGETS - length l.rows.items
