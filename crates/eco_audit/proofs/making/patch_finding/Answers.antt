-- A patch without a misfit fits; a taken wire is the finding.
use Rattle.std.proofs.Common.{[], sym, subst, arith}
use Rattle.eco_meaning.specs.Circuit.{Circuit}
use Rattle.eco_meaning.specs.Patch.{Fits}
use Rattle.eco_netlist.specs.Misfits.{IsSmallest, IsTakenWire}
use Rattle.eco_netlist.proofs.MisfitLemmas.{smallest_wire}
use Rattle.eco_audit.specs.declared.finding.Finding.TheVariants.{Inner}
use Rattle.eco_audit.specs.Rows.{IsFresh}
use Rattle.eco_audit.proofs.Fitting.{in_time_from}
use Rattle.eco_audit.proofs.Rows.{first_fault, more_rows}
use Rattle.eco_audit.proofs.making.patch_finding.Goals as goal

pub returns-then-fits : goal.returns-then-fits
returns-then-fits c =
    let problem = c.args.solution.now.problem.now in
    let p = c.args.solution.now.patch.now in
    let out = c.args.solution.now.out.now in
    let r = c.args.solution.now.report.now in
    let fits = subst (λ (f : Circuit). Fits f p []) c.implementation-f.ensures.value (c.in_ok-fits.ensures c.if-fits.true) in
    more_rows problem p out r 8 (more_rows problem p out r 7 c.requires fits.fresh)
    (in_time_from problem.implementation p r (c.requires 2 (omega arith)).inputs fits)

pub returns-in_ok-copy-in-Some : goal.returns-in_ok-copy-in-Some
returns-in_ok-copy-in-Some c =
    let problem = c.args.solution.now.problem.now in
    let p = c.args.solution.now.patch.now in
    let name = c.in-Some.name.now in
    let smallest = smallest_wire c.implementation-f.result.now p name c.in-Some.ensures.least in
    let here = subst (λ (f : Circuit). IsSmallest (IsTakenWire f p) name) c.implementation-f.ensures.value smallest in
    let copied = subst (IsSmallest (IsTakenWire problem.implementation p)) (sym c.in_ok-copy-in-Some.ensures.same) here in
    first_fault problem p c.args.solution.now.out.now c.args.solution.now.report.now (Inner c.in_ok-copy-in-Some.field-0) c.requires (omega arith) copied

pub reach_finding-requires : goal.reach_finding-requires
reach_finding-requires c =
    more_rows c.args.solution.now.problem.now c.args.solution.now.patch.now c.args.solution.now.out.now c.args.solution.now.report.now 7 c.requires
    (subst (λ (f : Circuit). IsFresh f c.args.solution.now.patch.now) c.implementation-f.ensures.value c.in-None.ensures.least)
