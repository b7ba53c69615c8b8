-- The last question was answered: they suffice.
use Rattle.std.proofs.Common.{subst}
use Rattle.eco_base.specs.Targets.{TargetValue}
use Rattle.eco_bound.specs.Lower.{IsRaised, SpentSuffice}
use Rattle.eco_bound.proofs.raising.raise.Goals as goal

pub returns-then-not-branch-clause-full : goal.returns-then-not-branch-clause-full
returns-then-not-branch-clause-full g c =
    let payers = c.raise_once.new.account.payers.items in
    let t = c.parts.target in
    subst (λ (t : TargetValue). SpentSuffice t.problem t.patches payers) c.parts.invariant.stays
    (subst (IsRaised t.problem t.patches c.parts.account.payers.items payers) c.if-not-branch.true c.in_ok-raise_once.ensures.raised)
