use Rattle.std.proofs.Common.{◌≡◌, [], take, MatchOption}
use Rattle.std.specs.Prelude.{nat_eq}
use Rattle.indexmap.specs.IndexSet.{insert_all}
use Rattle.eco_aiger.specs.Defined.{is_twice, IsLeast, NeverPasses}
use Rattle.eco_aiger.proofs.judge.seen_twice.Given as goal

abbrev pub invariant-loop-variable : goal.invariant-loop-variable
invariant-loop-variable l = record {
  seen : l.seen.keys ≡ insert_all nat_eq [] (take l.variable-index l.list);
  least : MatchOption l.least (NeverPasses (is_twice (take l.variable-index l.list))) (IsLeast (is_twice (take l.variable-index l.list)));
}
