-- The literals so far are judged.
use Rattle.std.proofs.Common.{take}
use Rattle.eco_scan.specs.Scanning.{IsJudged}
use Rattle.eco_scan.proofs.judge.judge.Given as goal

abbrev pub invariant-loop-lit : goal.invariant-loop-lit
invariant-loop-lit l = IsJudged l.trail.lits (take l.lit-index l.clause) l.judgement
