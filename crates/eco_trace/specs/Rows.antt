-- What the rows of an arena stand for.
use Rattle.std.specs.Prelude.{map}
use Rattle.eco_trace.specs.declared.trace.Row.{Row}
use Rattle.eco_trace.specs.declared.trace.Trace.TheInside.{Inside}
use Rattle.eco_trace.specs.Resolution.{Learnt, Proof}

-- the learnt clause of a row, with its chain
abbrev pub learnt_of : Row → Learnt
learnt_of row = record { start = row.start; links = row.links.now; clause = row.clause.now }

-- the proof that lies in the arena
abbrev pub proof_of : Inside → Proof
proof_of t = record { originals = map (λ c. c.now) t.originals.items; learnt = map learnt_of t.rows.items }
