-- What reaches the target is read in time where it is a candidate of it.
use Rattle.std.proofs.Common.{◌↔◌, List, ℕ, [], refl, sym, ◌∙◌, subst}
use Rattle.std.specs.Prelude.{IsTrue}
use Rattle.std.proofs.lemmas.Bool.{false≢true}
use Rattle.std.proofs.lemmas.Option.{get_or_from_slice_get}
use Rattle.eco_meaning.specs.Circuit.{names}
use Rattle.eco_meaning.specs.Cost.{IsCandidate}
use Rattle.eco_audit.proofs.reaching.may_read.Goals as goal

pub returns-then-reached : goal.returns-then-reached
returns-then-reached c = λ name source earlier target later are long.
    let problem = c.args.problem.now in
    let f = problem.implementation in
    let named = get_or_from_slice_get (names f) c.args.source.0 name [] source.named in
    let is = subst (λ (n : List ℕ). IsTrue c.candidate.result ↔ IsCandidate f problem.weights problem.input_weight earlier n) named
    (c.candidate.ensures earlier target later are long) in (
      λ holds reached. (is.0 holds).apart,
      λ behind. is.1 record { signal = source.candidate.signal; weighted = source.candidate.weighted; apart = behind c.if-reached.true },
    )

pub returns-else-reached : goal.returns-else-reached
returns-else-reached c = λ name source earlier target later are long. (
  λ holds reached. absurd (false≢true (sym c.if-reached.false ∙ reached)),
  λ behind. refl,
)
