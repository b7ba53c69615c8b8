-- The entry's clause and its pair.
use Rattle.std.proofs.Common.{All}
use Rattle.eco_lists.proofs.Places.{All_at}
use Rattle.eco_trace.specs.Clauses.{IsVarWithin}
use Rattle.eco_trace.specs.Resolution.{clauses_of}
use Rattle.eco_cdcl.proofs.Walking.{node_in, looked_at, kept_within}
use Rattle.eco_cdcl.proofs.Moving.{literal_within}
use Rattle.eco_cdcl.proofs.watching.Watching.look.Goals as goal

pub besides-other-requires : goal.besides-other-requires
besides-other-requires c =
    let s = c.args.self.now in
    node_in (clauses_of c.args.trace.now) s.trail s.done s.pairs s.lists c.args.lit c.args.at c.args.node c.requires.walking c.requires.node

pub is_true-requires : goal.is_true-requires
is_true-requires c =
    let s = c.args.self.now in
    kept_within (clauses_of c.args.trace.now) s.trail s.done s.pairs s.lists c.args.lit c.args.at c.args.node c.besides-other.result c.requires.walking c.requires.node c.besides-other.ensures

pub refresh-requires-clause-other : goal.refresh-requires-clause-other
refresh-requires-clause-other c =
    let s = c.args.self.now in
    kept_within (clauses_of c.args.trace.now) s.trail s.done s.pairs s.lists c.args.lit c.args.at c.args.node c.besides-other.result c.requires.walking c.requires.node c.besides-other.ensures

pub refresh-requires-clause-at : goal.refresh-requires-clause-at
refresh-requires-clause-at c =
    let s = c.args.self.now in
    looked_at (clauses_of c.args.trace.now) s.trail s.done s.pairs s.lists c.args.lit c.args.at c.args.node c.besides-other.result c.requires.node c.besides-other.ensures

pub from-from-requires : goal.from-from-requires
from-from-requires c =
    let s = c.args.self.now in
    node_in (clauses_of c.args.trace.now) s.trail s.done s.pairs s.lists c.args.lit c.args.at c.args.node c.requires.walking c.requires.node

pub copy-clause-requires : goal.copy-clause-requires
copy-clause-requires c =
    let s = c.args.self.now in
    record { within = node_in (clauses_of c.args.trace.now) s.trail s.done s.pairs s.lists c.args.lit c.args.at c.args.node c.requires.walking c.requires.node }

pub next_watch-requires : goal.next_watch-requires
next_watch-requires c =
    let w = c.requires.walking in
    let cs = clauses_of c.args.trace.now in
    All_at (All (IsVarWithin c.args.self.now.trail.vars)) cs c.args.node.0 c.copy-clause.result.now w.ready.formed.within (c.copy-clause.ensures.clause cs w.ready w.full)

pub replace-requires-clause-other : goal.replace-requires-clause-other
replace-requires-clause-other c =
    let s = c.args.self.now in
    kept_within (clauses_of c.args.trace.now) s.trail s.done s.pairs s.lists c.args.lit c.args.at c.args.node c.besides-other.result c.requires.walking c.requires.node c.besides-other.ensures

pub replace-requires-clause-next : goal.replace-requires-clause-next
replace-requires-clause-next c =
    let w = c.requires.walking in
    let cs = clauses_of c.args.trace.now in
    let vars = c.args.self.now.trail.vars in
    let clause = c.copy-clause.result.now in
    let within = All_at (All (IsVarWithin vars)) cs c.args.node.0 clause w.ready.formed.within (c.copy-clause.ensures.clause cs w.ready w.full) in
    literal_within vars clause c.in-Some.next within c.in-Some.ensures.0

pub replace-requires-clause-at : goal.replace-requires-clause-at
replace-requires-clause-at c =
    let s = c.args.self.now in
    looked_at (clauses_of c.args.trace.now) s.trail s.done s.pairs s.lists c.args.lit c.args.at c.args.node c.besides-other.result c.requires.node c.besides-other.ensures

pub force-requires-clause-other : goal.force-requires-clause-other
force-requires-clause-other c =
    let s = c.args.self.now in
    kept_within (clauses_of c.args.trace.now) s.trail s.done s.pairs s.lists c.args.lit c.args.at c.args.node c.besides-other.result c.requires.walking c.requires.node c.besides-other.ensures

pub force-requires-clause-at : goal.force-requires-clause-at
force-requires-clause-at c =
    let s = c.args.self.now in
    looked_at (clauses_of c.args.trace.now) s.trail s.done s.pairs s.lists c.args.lit c.args.at c.args.node c.besides-other.result c.requires.node c.besides-other.ensures
