-- Where the blocker is true, the walk goes on.
use Rattle.std.proofs.Common.{sym, subst, arith, Contains}
use Rattle.eco_trace.specs.Clauses.{IsVarWithin}
use Rattle.eco_trace.specs.Resolution.{clauses_of}
use Rattle.eco_cdcl.proofs.Walking.{blocker_within, blocker_true, walk_on}
use Rattle.eco_cdcl.proofs.watching.Watching.visit.Goals as goal

pub is_true-requires : goal.is_true-requires
is_true-requires c =
    let s = c.args.self.now in
    subst (IsVarWithin s.trail.vars) (sym c.blocker.ensures)
    (blocker_within (clauses_of c.args.trace.now) s.trail s.done s.pairs s.lists c.args.lit c.args.at c.entry-entry.result c.requires.walking c.entry-entry.ensures)

pub returns-then-is_true-clause-visited : goal.returns-then-is_true-clause-visited
returns-then-is_true-clause-visited c =
    let s = c.args.self.now in
    let cs = clauses_of c.args.trace.now in
    let true' = subst (Contains s.trail.lits) c.blocker.ensures (c.is_true.ensures c.if-is_true.true) in (
      walk_on cs s.trail s.done s.pairs s.lists c.args.lit c.args.at c.entry-entry.result c.requires.walking c.entry-entry.ensures
          (blocker_true cs s.trail s.done s.pairs s.lists c.args.lit c.args.at c.entry-entry.result c.requires.walking c.entry-entry.ensures true'),
      omega arith,
    )
