-- The step keeps what each way promises.
use Rattle.std.proofs.Common.{◌∙◌}
use Rattle.eco_progress.proofs.SteppedLaws.{kept_by}
use Rattle.eco_progress.proofs.progress.extended_by.Goals as goal

pub returns-in-Ok-clause-by : goal.returns-in-Ok-clause-by
returns-in-Ok-clause-by g c way base old =
    kept_by way c.args.target.now.problem c.args.progress c.args.found.now c.in_ok-more.more c.add_least.new.least c.requires.progress c.requires.number c.in_ok-more.ensures.more.1
    (record {
      told = λ cost earlier group told same. c.in-Ok.ensures.told cost earlier group told (c.as_slice.ensures.value ∙ same);
      untold = c.in-Ok.ensures.untold;
    }) base old
