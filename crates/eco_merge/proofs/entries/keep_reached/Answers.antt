-- The marked entries are those whose nodes are reached.
use Rattle.std.proofs.Common.{sym, subst}
use Rattle.std.specs.List.{All, Contains}
use Rattle.std.proofs.lemmas.List.Elements.{All-contains_itself, All-filter}
use Rattle.eco_aig.specs.Reached.{AreReached}
use Rattle.eco_merge.specs.Counting.{IsAboutReached}
use Rattle.eco_merge.specs.Marked.{are_marked}
use Rattle.eco_merge.proofs.Telling.{all_about, about_kept}
use Rattle.eco_merge.proofs.entries.keep_reached.Goals as goal

pub returns-clause-about : goal.returns-clause-about
returns-clause-about c =
    let nodes = c.args.aig.now in
    let roots = c.args.roots.now in
    let are = subst (AreReached nodes roots) (sym c.as_slice.ensures.value) c.in_ok-marks.ensures in
    subst (All (IsAboutReached nodes roots)) (sym c.keep_marked.ensures) (all_about nodes roots c.as_slice.result.now c.args.entries.now.items are)

pub returns-clause-kept : goal.returns-clause-kept
returns-clause-kept c entry member about =
    let nodes = c.args.aig.now in
    let roots = c.args.roots.now in
    let are = subst (AreReached nodes roots) (sym c.as_slice.ensures.value) c.in_ok-marks.ensures in
    subst (λ list. Contains list entry) (sym c.keep_marked.ensures) (about_kept nodes roots c.as_slice.result.now c.args.entries.now.items entry are member about)

pub returns-clause-older : goal.returns-clause-older
returns-clause-older c =
    let entries = c.args.entries.now.items in
    subst (All (Contains entries)) (sym c.keep_marked.ensures) (All-filter (are_marked c.as_slice.result.now) (Contains entries) entries (All-contains_itself entries))
