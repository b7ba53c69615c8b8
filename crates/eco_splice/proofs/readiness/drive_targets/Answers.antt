-- All marks stand just where each target is driven.
use Rattle.std.proofs.Common.{sym, ◌∙◌, ap}
use Rattle.std.specs.List.{list_all}
use Rattle.eco_splice.proofs.TableLemmas.{drive_from, driven_marks}
use Rattle.eco_splice.proofs.readiness.drive_targets.Goals as goal

pub returns : goal.returns
returns c =
    let marked = c.mark_targets.ensures.marked c.if-not-mark_targets.false in (
      λ is. drive_from c.args.roots.now c.args.lines.now _ marked (ap (list_all (λ mark. mark)) (sym c.as_slice.ensures.value) ∙ sym c.all_marked.ensures ∙ is),
      λ drive. c.all_marked.ensures ∙ ap (list_all (λ mark. mark)) c.as_slice.ensures.value ∙ driven_marks c.args.roots.now c.args.lines.now _ marked drive,
    )
