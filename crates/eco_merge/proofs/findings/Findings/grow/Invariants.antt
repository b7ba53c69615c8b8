-- The rows so far have grown.
use Rattle.std.proofs.Common.{◌≡◌, ◌++◌, take, drop, map}
use Rattle.eco_merge.specs.Rows.{grown}
use Rattle.eco_merge.proofs.findings.Findings.grow.Given as goal

abbrev pub invariant-loop-index : goal.invariant-loop-index
invariant-loop-index l = record {
  rows : l.self.rows.items ≡ map (grown l.first l.second) (take l.index l.fn.self.rows.items) ++ drop l.index l.fn.self.rows.items;
  drawn : l.self.drawn ≡ l.fn.self.drawn;
  signatures : l.self.signatures.items ≡ l.fn.self.signatures.items;
  apart : l.self.apart.items ≡ l.fn.self.apart.items;
}
