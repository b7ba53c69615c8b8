-- The functions are one more, and stand in the new patch.
use Rattle.std.proofs.Common.{◌≡◌, [], ◌∷◌, ◌++◌, List, length, refl, sym, ◌∙◌, ap, subst}
use Rattle.std.specs.List.{All, IsDistinct}
use Rattle.std.specs.Str.{bytes_eq}
use Rattle.eco_meaning.specs.Circuit.{Circuit, names, IsSignal}
use Rattle.eco_netlist.specs.Netlists.{AreNets, IsChecked, names_at}
use Rattle.eco_query.specs.Problem.{ProblemValue, HasTargetNumber}
use Rattle.eco_pose.specs.Questions.{AtTarget}
use Rattle.eco_pose.proofs.SideLaws.{target_at}
use Rattle.eco_splice.specs.GraphPatch.{HasTargets}
use Rattle.eco_functions.specs.Functions.{ReadEarlier}
use Rattle.eco_functions.specs.Standing.{IsPatchWith}
use Rattle.eco_base.specs.declared.based.Based.{Based}
use Rattle.eco_progress.specs.declared.progress.Progress.{Progress}
use Rattle.eco_progress.specs.Reported.{IsNet, IsWeighted, reported_group}
use Rattle.eco_progress.proofs.ChosenLaws.{are_weighted, nets_all}
use Rattle.eco_progress.proofs.MoreLaws.{IsMore, IsMade, advanced, are_signals, enough_targets, extends, names_differ, nets_are, read_earlier}
use Rattle.eco_progress.proofs.extending.extended.Goals as goal

pub one_more-requires : goal.one_more-requires
one_more-requires g c =
    let problem = c.args.target.now.problem in
    let progress = c.args.progress in
    let (before, target, behind, are, len) = target_at problem.implementation (length progress.groups.items) c.requires.number in
    record { chosen = extends problem progress c.args.chosen.now before target behind are (c.requires.chosen before target behind are len) }

pub patch-requires : goal.patch-requires
patch-requires g c =
    let problem = c.args.target.now.problem in
    let progress = c.args.progress in
    let chosen = c.args.chosen.now in
    let functions = c.in-Ok.functions in
    let value = sym (c.implementation.ensures.value ∙ ap (λ (p : ProblemValue). p.implementation) c.problem-problem.ensures) in
    let (before, target, behind, are, len) = target_at problem.implementation (length progress.groups.items) c.requires.number in
    let more : IsMore problem progress chosen functions before target behind = record {
      progress_is = c.requires.progress;
      are = are;
      len = len;
      base = c.requires.chosen before target behind are len;
      more = c.in-Ok.ensures.functions.more;
      functions_are = c.base.ensures.functions;
    } in
    record {
      nets = subst (λ (f : Circuit). AreNets (names f) functions.base) value (nets_are problem progress chosen functions before target behind more);
      distinct = subst (λ (f : Circuit). IsDistinct bytes_eq (names_at (names f) functions.base)) value (names_differ problem progress chosen functions before target behind more);
      signals = subst (λ (f : Circuit). All (IsSignal f) (names_at (names f) functions.base)) value (are_signals problem progress chosen functions before target behind more);
      targets = subst (λ (f : Circuit). HasTargets f (length functions.roots)) value (enough_targets problem progress chosen functions before target behind more);
      earlier = subst (λ (f : Circuit). ReadEarlier f functions) value (read_earlier problem progress chosen functions before target behind more);
    }

pub add_group-requires-clause-number : goal.add_group-requires-clause-number
add_group-requires-clause-number g c =
    subst (λ (p : ProblemValue). HasTargetNumber p.implementation (length c.args.progress.groups.items)) (sym c.problem-problem.ensures) c.requires.number

pub add_group-requires-clause-nets : goal.add_group-requires-clause-nets
add_group-requires-clause-nets g c =
    let problem = c.args.target.now.problem in
    let progress = c.args.progress in
    let chosen = c.args.chosen.now in
    let (before, target, behind, are, len) = target_at problem.implementation (length progress.groups.items) c.requires.number in
    subst (λ (p : ProblemValue). All (IsNet p) c.as_slice.result.now) (sym c.problem-problem.ensures)
    (subst (λ (l : List Based). All (IsNet problem) l) (sym c.as_slice.ensures.value) (nets_all problem chosen.new.items (c.requires.chosen before target behind are len).nets))

pub add_group-requires-clause-weighted : goal.add_group-requires-clause-weighted
add_group-requires-clause-weighted g c =
    let problem = c.args.target.now.problem in
    let progress = c.args.progress in
    let chosen = c.args.chosen.now in
    let (before, target, behind, are, len) = target_at problem.implementation (length progress.groups.items) c.requires.number in
    subst (λ (p : ProblemValue). All (IsWeighted p) c.as_slice.result.now) (sym c.problem-problem.ensures)
    (subst (λ (l : List Based). All (IsWeighted problem) l) (sym c.as_slice.ensures.value)
    (are_weighted problem progress.patch (names_at (names problem.implementation) progress.functions.base) before target behind chosen (c.requires.chosen before target behind are len)))

pub returns-in-Ok-add_group-clause-more : goal.returns-in-Ok-add_group-clause-more
returns-in-Ok-add_group-clause-more g c =
    let problem = c.args.target.now.problem in
    let progress = c.args.progress in
    let chosen = c.args.chosen.now in
    let functions = c.in-Ok.functions in
    let patch = c.in-Ok-patch.patch in
    let made : Progress = record { functions = functions; patch = patch; groups = c.add_group.new.groups; least = progress.least } in
    let old = progress.groups.items in
    let same = c.problem-problem.ensures in
    let value = c.implementation.ensures.value ∙ ap (λ (p : ProblemValue). p.implementation) same in
    let is : AtTarget problem.implementation (length old) (IsMade problem progress chosen made) = λ before target behind are len. record {
      checked = subst (λ (p : ProblemValue). IsChecked p.implementation) same c.implementation.ensures.problem.implementation;
      more_is = record {
        progress_is = c.requires.progress;
        are = are;
        len = len;
        base = c.requires.chosen before target behind are len;
        more = c.in-Ok.ensures.functions.more;
        functions_are = c.base.ensures.functions;
      };
      made_functions = c.base-2.ensures.functions;
      patch = subst (λ (f : Circuit). IsPatchWith f functions patch) value c.in-Ok-patch.ensures.patch;
      between = c.in-Ok.ensures.functions.between;
      groups =
          subst (λ (p : ProblemValue). AtTarget p.implementation (length old) (λ b t l. c.add_group.new.groups.items ≡ old ++ reported_group p t c.as_slice.result.now ∷ []))
          same c.in-Ok-add_group.ensures before target behind are len
          ∙ ap (λ (l : List Based). old ++ reported_group problem target l ∷ []) c.as_slice.ensures.value;
    } in
    advanced problem progress chosen made c.requires.number is c.targets_go_on.ensures.kept c.targets_go_on.ensures.stand refl
