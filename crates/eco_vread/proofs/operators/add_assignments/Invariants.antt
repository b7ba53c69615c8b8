use Rattle.std.proofs.Common.{◌≡◌, ◌+◌, drop, map}
use Rattle.eco_vread.specs.Meaning.{all_own_nets}
use Rattle.eco_vread.specs.Trees.{assignment_of}
use Rattle.eco_vread.specs.Declaring.{with_assignments}
use Rattle.eco_vread.proofs.operators.add_assignments.Given as goal

-- with the gates of the assignments that are left it has those of all
abbrev pub invariant-loop-assignment : goal.invariant-loop-assignment
invariant-loop-assignment l = record {
  gates : with_assignments l.draft l.prefix.bytes.now l.count (map assignment_of (drop l.assignment-index l.assignments))
      ≡ with_assignments l.initial.draft l.prefix.bytes.now l.before (map assignment_of l.assignments);
  count : l.count + all_own_nets (map assignment_of (drop l.assignment-index l.assignments))
      ≡ l.before + all_own_nets (map assignment_of l.assignments);
}
