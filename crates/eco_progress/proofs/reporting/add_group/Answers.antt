-- The group of the next target stands behind the others.
use Rattle.std.proofs.Common.{◌++◌, ◌∷◌, [], ◌∙◌, ap, arith}
use Rattle.eco_meaning.specs.Report.{TargetGroup}
use Rattle.eco_progress.proofs.reporting.add_group.Goals as goal

pub returns : goal.returns
returns c before target behind are len =
    let old = c.args.groups.now in
    c.in_ok-push.ensures.items ∙ ap (λ (x : TargetGroup). old.items ++ x ∷ []) (c.in_ok-group.ensures before target behind are (omega (arith, len, c.len.ensures, old.ok.0)))
