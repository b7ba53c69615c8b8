use Rattle.std.proofs.Common.{◌≡◌, ◌++◌, take}
use Rattle.std.specs.List.{flat_map}
use Rattle.eco_prooftext.specs.Texts.{clause_text}
use Rattle.eco_prooftext.proofs.writer.push_clauses.Given as goal

abbrev pub invariant-loop-clause : goal.invariant-loop-clause
invariant-loop-clause l =
    l.text.items ≡ l.initial.text.items ++ flat_map clause_text (take l.clause-index l.clauses)
