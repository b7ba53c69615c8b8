use Rattle.std.specs.Option.{option_copied}
use Rattle.std.proofs.lemmas.Result.{MatchResult-weaker, err_from_is_err_and}
use Rattle.eco_query.proofs.CareLemmas.{care_of}
use Rattle.eco_query.proofs.Misfits.{misfit_refused}
use Rattle.eco_query.proofs.problem.examine.Goals as goal

pub returns-in_err-fit : goal.returns-in_err-fit
returns-in_err-fit c =
    let p = err_from_is_err_and c.from_residual.result c.from_residual.ensures.1 in
    rw (p.1, p.2) (misfit_refused c.args.f.now c.args.g.now (option_copied c.args.care) _ c.in_err-fit.ensures)

pub returns : goal.returns
returns c =
    let care = option_copied c.args.care in
    let (fits, checked) = c.in_ok-fit.ensures in
    MatchResult-weaker c.examine_targets.result c.examine_targets.ensures
    (λ _ targets. record {
      implementation = c.nets.ensures.checked;
      specification = c.nets-2.ensures.checked;
      alike = fits.ports;
      closed = c.requires.closed;
      targets = targets;
      care = care_of c.args.f.now care checked fits.inputs fits.one_output c.requires.care_closed;
    })
    (λ error refused. refused c.args.g.now care fits)
