use Rattle.std.proofs.Common.{◌≡◌, ◌-◌, length, take}
use Rattle.std.specs.List.{flat_map}
use Rattle.eco_prooftext.specs.Texts.{learnt_text}
use Rattle.eco_prooftext.proofs.writer.write_trace.Given as goal

abbrev pub invariant-loop-node : goal.invariant-loop-node
invariant-loop-node l = l.text.items ≡ flat_map learnt_text (take (l.node - length l.trace.originals) l.trace.learnt)
