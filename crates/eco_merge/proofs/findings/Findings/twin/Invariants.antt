-- The node was compared with the kept ones so far.
use Rattle.std.proofs.Common.{All, take}
use Rattle.eco_merge.specs.Steps.{AreFindings, HasMore, IsComparedWith}
use Rattle.eco_merge.proofs.findings.Findings.twin.Given as goal

abbrev pub invariant-loop-other : goal.invariant-loop-other
invariant-loop-other g l = record {
  findings : AreFindings l.aig l.limit l.self;
  more : HasMore l.fn.self.apart.items l.self.apart.items;
  compared : All (IsComparedWith l.aig l.self.apart.items l.node) (take l.other-index l.kept);
}
