use Rattle.std.proofs.Common.{None, map, take}
use Rattle.eco_prooftext.specs.Reading.{Follows, Leads}
use Rattle.eco_prooftext.proofs.reader.take_lines.Given as goal

abbrev pub invariant-loop-place : goal.invariant-loop-place
invariant-loop-place l = Leads Follows None (map (λ line. line.now) (take l.place l.lines)) l.body
