-- Nothing is read, no group is reported, and no cost is told.
use Rattle.std.proofs.Common.{subst}
use Rattle.eco_meaning.specs.Circuit.{Circuit, names}
use Rattle.eco_netlist.proofs.NumberedNets.{none_differ}
use Rattle.eco_functions.specs.Standing.{IsPatchWith}
use Rattle.eco_progress.specs.declared.progress.Progress.{Progress}
use Rattle.eco_progress.proofs.BeginLaws.{begun}
use Rattle.eco_progress.proofs.SteppedLaws.{none_by}
use Rattle.eco_progress.proofs.progress.begin.Goals as goal

pub patch-requires-clause-distinct : goal.patch-requires-clause-distinct
patch-requires-clause-distinct c = none_differ (names c.implementation-f.result.now) c.in_ok-functions.functions.base c.in_ok-functions.ensures.base

pub returns-in-Ok-clause-progress : goal.returns-in-Ok-clause-progress
returns-in-Ok-clause-progress c =
    let progress : Progress = record { functions = c.in_ok-functions.functions; patch = c.in-Ok.patch; groups = c.new-in-Ok.result; least = c.new-in-Ok-2.result } in
    let counted = c.implementation-f.ensures.problem.targets.counted in
    begun c.args.problem.now progress counted.0 counted.1 c.requires.rectifiable c.in_ok-functions.ensures.base c.in_ok-functions.ensures.roots
    (subst (λ (f : Circuit). IsPatchWith f progress.functions progress.patch) c.implementation-f.ensures.value c.in-Ok.ensures.patch) c.new-in-Ok.ensures.items

pub returns-in-Ok-clause-by : goal.returns-in-Ok-clause-by
returns-in-Ok-clause-by c way =
    let progress : Progress = record { functions = c.in_ok-functions.functions; patch = c.in-Ok.patch; groups = c.new-in-Ok.result; least = c.new-in-Ok-2.result } in
    none_by way c.args.problem.now progress c.new-in-Ok.ensures.items c.new-in-Ok-2.ensures.items
