-- Where the clauses are refuted no input is wrong, so that the outputs are the same on every input.
use Rattle.std.proofs.Common.{subst}
use Rattle.std.proofs.lemmas.Option.{none-some}
use Rattle.eco_meaning.specs.Meaning.{everywhere}
use Rattle.eco_trace.specs.Clauses.{IsUnsatisfiable}
use Rattle.eco_netlist.proofs.SoundNetlists.{sound_netlist}
use Rattle.eco_pose.proofs.Equivalence.{none_wrong_is_equivalent}
use Rattle.eco_pose.proofs.comparing.same.Goals as goal

pub returns : goal.returns
returns c left right checked closed is =
    let never = c.ends_empty.ensures.refutes (c.ends_empty.ensures.ends.1 c.requires.refutation.ends) in (
      is,
      c.requires,
      none_wrong_is_equivalent left (everywhere right) (sound_netlist left checked) closed (λ care some name input. absurd (none-some care some))
          (λ x wrong.
          let (v, satisfied, same) = is.asks.answers x wrong in
          subst IsUnsatisfiable c.requires.refutation.originals never v satisfied),
    )
