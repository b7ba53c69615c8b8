use Rattle.std.proofs.Common.{subst, ◌∙◌}
use Rattle.eco_aiger.specs.Defined.{is_twice, NeverPasses}
use Rattle.eco_aiger.specs.Parts.{file_of}
use Rattle.eco_aiger.proofs.JudgeLaws.{fault_of_use, known_of_ok}
use Rattle.eco_aiger.proofs.judge.judge.Goals as goal

pub returns-clause-once : goal.returns-clause-once
returns-clause-once c =
    let once = subst (λ l. NeverPasses (is_twice l)) (c.as_slice.ensures.value ∙ c.in_ok-defined.ensures) (rw c.in-None.is at c.in_ok-variable.ensures) in
    known_of_ok c.judge_uses.result once

pub returns-clause-err : goal.returns-clause-err
returns-clause-err c =
    let once = subst (λ l. NeverPasses (is_twice l)) (c.as_slice.ensures.value ∙ c.in_ok-defined.ensures) (rw c.in-None.is at c.in_ok-variable.ensures) in
    fault_of_use (file_of c.args.tree.now) c.judge_uses.result once c.judge_uses.ensures.err
