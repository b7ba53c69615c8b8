use Rattle.std.proofs.Common.{◌≡◌, ◌++◌, take, codes}
use Rattle.std.specs.List.{flat_map}
use Rattle.eco_prooftext.specs.Texts.{lit_text}
use Rattle.eco_prooftext.proofs.writer.push_lits.Given as goal

abbrev pub invariant-loop-lit : goal.invariant-loop-lit
invariant-loop-lit l =
    l.text.items ≡ l.initial.text.items ++ flat_map (λ k. lit_text k ++ codes " ") (take l.lit-index l.lits)
