-- The candidate stands between the two parts, and so does what stands for it.
use Rattle.std.proofs.Common.{Option, subst}
use Rattle.std.specs.Prelude.{IfSome}
use Rattle.eco_trace.specs.Split.{Split}
use Rattle.eco_resub.specs.declared.attempt.Candidate.{Candidate}
use Rattle.eco_functions.specs.Improving.{IsAccepted}
use Rattle.eco_functions.specs.Parts.{split_of}
use Rattle.eco_functions.proofs.replacement.improve.Goals as goal

pub returns-in-Ok-clause-between : goal.returns-in-Ok-clause-between
returns-in-Ok-clause-between g c =
    let split : Split = split_of c.args.two.now in
    let shared = c.args.two.now.shared.now in
    let stands : Candidate → Type 0 = λ candidate. IsAccepted split shared candidate.aig candidate.root in
    let accepted : stands c.in-Some.candidate = subst (λ (found : Option Candidate). IfSome found stands) c.in-Some.is c.in_ok-smaller.ensures.accepted in
    c.in-Ok.ensures.between split shared c.requires.between accepted.between
