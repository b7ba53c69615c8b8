-- Nothing is read, and no target is driven.
use Rattle.std.proofs.Common.{subst}
use Rattle.std.proofs.lemmas.Result.{IfOk-weaker}
use Rattle.eco_meaning.specs.Circuit.{Circuit, names}
use Rattle.eco_netlist.proofs.NumberedNets.{none_differ}
use Rattle.eco_functions.specs.Standing.{IsPatchWith}
use Rattle.eco_bound.specs.Lower.{IsBeginning}
use Rattle.eco_bound.proofs.RaisingLaws.{beginning}
use Rattle.eco_bound.proofs.bounding.no_patch.Goals as goal

pub patch-patch-requires-clause-distinct : goal.patch-patch-requires-clause-distinct
patch-patch-requires-clause-distinct c = none_differ (names c.implementation-f.result.now) c.in_ok-functions.functions.base c.in_ok-functions.ensures.base

pub returns : goal.returns
returns c =
    let problem = c.args.problem.now in
    let functions = c.in_ok-functions.functions in
    IfOk-weaker c.patch-patch.result (IsPatchWith c.implementation-f.result.now functions) (IsBeginning problem)
    (λ p is. beginning problem functions p c.implementation-f.ensures.problem.targets c.requires.rectifiable c.in_ok-functions.ensures.roots
    (subst (λ (f : Circuit). IsPatchWith f functions p) c.implementation-f.ensures.value is))
    c.patch-patch.ensures.patch
