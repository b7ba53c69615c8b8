use Rattle.std.proofs.Common.{List, ℕ, IfOk, map, ap, subst, ◌∙◌}
use Rattle.eco_prooftext.specs.CnfFile.{AreLines}
use Rattle.eco_prooftext.specs.Reading.{IsOnly}
use Rattle.eco_prooftext.proofs.reader.read_cnf.Goals as goal

pub returns-clause-ok : goal.returns-clause-ok
returns-clause-ok c =
    subst (λ (ls : List (List ℕ)). IfOk c.read_lines.result (IsOnly (AreLines ls)))
    (ap (map (λ line. line.now)) c.as_slice.ensures.value ∙ c.in_ok-lines.ensures)
    c.read_lines.ensures.ok
