use Rattle.std.proofs.Common.{subst, sym}
use Rattle.eco_inputs.specs.Reading.{Halts}
use Rattle.eco_inputs.specs.Changes.{fit_row, long_change}
use Rattle.eco_inputs.proofs.ChangeLaws.{misfit_halts}
use Rattle.eco_inputs.proofs.changes.changed.Goals as goal

pub returns-in-Err : goal.returns-in-Err
returns-in-Err c = λ options store.
    subst (Halts (long_change options) (fit_row c.args.inputs) store store) (sym c.of_pair.ensures)
    (misfit_halts options c.args.inputs store c.in-Err.error c.in-Err.ensures)
