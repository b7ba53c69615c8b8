-- What the rows of a kept proof stand for.
use Rattle.std.specs.Prelude.{map}
use Rattle.eco_trace.specs.declared.kept.KeptRow.{KeptRow}
use Rattle.eco_trace.specs.declared.kept.KeptTrace.TheInside.{Inside}
use Rattle.eco_trace.specs.Resolution.{Learnt, Proof}

-- the learnt clause of a row, with its chain
abbrev pub kept_learnt_of : KeptRow → Learnt
kept_learnt_of row = record { start = row.start; links = row.links.items; clause = row.clause.items }

-- the proof that is kept
abbrev pub kept_proof_of : Inside → Proof
kept_proof_of t = record { originals = map (λ c. c.items) t.originals.items; learnt = map kept_learnt_of t.rows.items }
