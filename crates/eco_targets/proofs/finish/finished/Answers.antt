-- The patch fits with no target left, its signals are few, and the splice with its report is what is to be made.
use Rattle.std.proofs.Common.{◌≡◌, ℕ, List, [], length, sym, ◌∙◌, ap, subst, arith}
use Rattle.std.proofs.lemmas.List.{length-map}
use Rattle.eco_meaning.specs.Circuit.{Circuit, IsLoopFree, AreTargets, names}
use Rattle.eco_meaning.specs.Patch.{Fits, splice_of}
use Rattle.eco_meaning.specs.Report.{TargetGroup, base_in, cost_of}
use Rattle.eco_netlist.specs.Netlists.{named_gate}
use Rattle.eco_targets.specs.Finished.{IsFinished}
use Rattle.eco_targets.proofs.Few.{few_signals}
use Rattle.eco_targets.proofs.Finishing.{fits_all, report_of, is_finished}
use Rattle.eco_targets.proofs.finish.finished.Goals as goal

pub splice-requires : goal.splice-requires
splice-requires c =
    subst (λ (f : Circuit). (later : List (List ℕ)) × Fits f c.args.progress.patch later) (sym c.implementation.ensures.value)
    ([], fits_all c.args.problem.now c.args.progress c.requires.complete)

pub cost_of-requires : goal.cost_of-requires
cost_of-requires c =
    let few = few_signals c.args.problem.now c.args.progress c.requires.complete.stands in
    let nets = c.implementation.ensures.few_nets in
    let count : length (base_in c.as_slice.result.now) ≡ length (base_in c.args.progress.groups.items) =
    ap (λ (groups : List TargetGroup). length (base_in groups)) c.as_slice.ensures.value in
    omega (arith, few, nets, count)

pub returns-in-Ok : goal.returns-in-Ok
returns-in-Ok c =
    let problem = c.args.problem.now in
    let progress = c.args.progress in
    let p = progress.patch in
    let netlist = c.implementation.result.now in
    let same = c.implementation.ensures.value in
    let groups = c.as_slice.ensures.value in
    let cost : c.cost_of.result ≡ cost_of (base_in progress.groups.items) =
    c.cost_of.ensures ∙ ap (λ (groups : List TargetGroup). cost_of (base_in groups)) groups in
    let gates : length c.gates.result.now ≡ length p.gates =
    sym (length-map c.gates.result.now (named_gate (names p))) ∙ ap length c.gates.ensures.named in
    let loop_free = subst (λ (f : Circuit). IsLoopFree (splice_of f p)) same c.in-Ok.ensures.loop_free in
    let left = subst (λ (f : Circuit). (later : List (List ℕ)) → Fits f p later → AreTargets (splice_of f p) later) same c.in-Ok.ensures.left in
    let out : c.in-Ok.out ≡ splice_of problem.implementation p = c.in-Ok.ensures.spliced ∙ ap (λ (f : Circuit). splice_of f p) same in
    let made = is_finished problem progress c.implementation.ensures.problem c.requires.complete c.base.ensures.functions c.needed_signals_are_read.ensures c.requires.rectifiable
    c.cost_of.result (length c.gates.result.now) cost gates loop_free left in
    subst (λ (out : Circuit). IsFinished problem progress p out (report_of problem progress c.implementation.ensures.problem c.requires.complete c.cost_of.result (length c.gates.result.now))) (sym out) made
