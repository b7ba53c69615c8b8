use Rattle.std.proofs.Common.{refl, sym, ◌∙◌, ap, subst}
use Rattle.eco_query.specs.Problem.{IsClosed}
use Rattle.eco_words.specs.CommandLine.{audit_options_of}
use Rattle.eco_inputs.specs.declared.paths.FileOption.TheVariants.{Patch, Out}
use Rattle.eco_inputs.specs.Inputs.{AreFit, input_rows}
use Rattle.eco_inputs.specs.Reading.{Halts}
use Rattle.eco_inputs.specs.Rows.{named_row}
use Rattle.eco_inputs.proofs.ReadingLaws.{both_passed, fourth_stops, joined_front, joined_last, keeps_on, passed_on, second_stops, third_stops}
use Rattle.eco_cli.specs.declared.audit.AuditStop.TheVariants.{InMade, InReport, NoProblem}
use Rattle.eco_cli.specs.Audit.{long_audit, made_row, material_of, material_rows, report_row}
use Rattle.eco_cli.proofs.audit.material_of.Goals as goal

pub returns-in_err-with_patch-clause-err : goal.returns-in_err-with_patch-clause-err
returns-in_err-with_patch-clause-err g c =
    let options = audit_options_of c.args.command.now in
    let first = c.problem_inputs.ensures.keeps in
    let why = c.in_err-with_patch.field-0.0 in
    passed_on (Halts (long_audit options) (material_rows options) (g.S.Store.view c.args.store.now) (g.S.Store.view c.made_netlist.new.store)) why
    (second_stops (long_audit options) material_of (named_row NoProblem (input_rows options.problem)) (named_row (InMade Patch) (made_row options Patch)) (named_row (InMade Out) (made_row options Out)) (named_row InReport (report_row options)) (g.S.Store.view c.args.store.now) (g.S.Store.view c.problem_inputs.new.store) (g.S.Store.view c.made_netlist.new.store)
    c.in_ok-inputs.inputs first c.in_ok-inputs.ensures.ok c.made_netlist.result c.made_netlist.ensures.err why (sym c.joined.ensures ∙ c.in_err-with_patch.was))
    c.from_residual-in_err-with_patch.result c.from_residual-in_err-with_patch.ensures.1

pub returns-in_err-with_out-clause-err : goal.returns-in_err-with_out-clause-err
returns-in_err-with_out-clause-err g c =
    let options = audit_options_of c.args.command.now in
    let first = c.problem_inputs.ensures.keeps in
    let second = keeps_on _ _ _ first c.made_netlist.ensures.keeps in
    let two = both_passed _ _ _ _ _ c.in_ok-inputs.inputs first c.in_ok-inputs.ensures.ok c.made_netlist.result c.made_netlist.ensures.ok c.in_ok-with_patch.with_patch (sym c.joined.ensures ∙ c.in_ok-with_patch.was) in
    let why = c.in_err-with_out.field-0.0 in
    passed_on (Halts (long_audit options) (material_rows options) (g.S.Store.view c.args.store.now) (g.S.Store.view c.made_netlist-2.new.store)) why
    (third_stops (long_audit options) material_of (named_row NoProblem (input_rows options.problem)) (named_row (InMade Patch) (made_row options Patch)) (named_row (InMade Out) (made_row options Out)) (named_row InReport (report_row options)) (g.S.Store.view c.args.store.now) (g.S.Store.view c.made_netlist.new.store) (g.S.Store.view c.made_netlist-2.new.store)
    c.in_ok-with_patch.with_patch second two c.made_netlist-2.result c.made_netlist-2.ensures.err why (sym c.joined-2.ensures ∙ c.in_err-with_out.was))
    c.from_residual-in_err-with_out.result c.from_residual-in_err-with_out.ensures.1

pub returns-in_err-read-clause-err : goal.returns-in_err-read-clause-err
returns-in_err-read-clause-err g c =
    let options = audit_options_of c.args.command.now in
    let first = c.problem_inputs.ensures.keeps in
    let second = keeps_on _ _ _ first c.made_netlist.ensures.keeps in
    let third = keeps_on _ _ _ second c.made_netlist-2.ensures.keeps in
    let two = both_passed _ _ _ _ _ c.in_ok-inputs.inputs first c.in_ok-inputs.ensures.ok c.made_netlist.result c.made_netlist.ensures.ok c.in_ok-with_patch.with_patch (sym c.joined.ensures ∙ c.in_ok-with_patch.was) in
    let three = both_passed _ _ _ _ _ c.in_ok-with_patch.with_patch second two c.made_netlist-2.result c.made_netlist-2.ensures.ok c.in_ok-with_out.with_out (sym c.joined-2.ensures ∙ c.in_ok-with_out.was) in
    let why = c.in_err-read.field-0.0 in
    passed_on (Halts (long_audit options) (material_rows options) (g.S.Store.view c.args.store.now) (g.S.Store.view c.report_of.new.store)) why
    (fourth_stops (long_audit options) material_of (named_row NoProblem (input_rows options.problem)) (named_row (InMade Patch) (made_row options Patch)) (named_row (InMade Out) (made_row options Out)) (named_row InReport (report_row options)) (g.S.Store.view c.args.store.now) (g.S.Store.view c.made_netlist-2.new.store) (g.S.Store.view c.report_of.new.store)
    c.in_ok-with_out.with_out third three c.report_of.result c.report_of.ensures.err why (sym c.joined-3.ensures ∙ c.in_err-read.was))
    c.from_residual-in_err-read.result c.from_residual-in_err-read.ensures.1

pub returns-clause-usable : goal.returns-clause-usable
returns-clause-usable g c =
    let two = joined_front c.in_ok-inputs.inputs c.made_netlist.result c.in_ok-with_patch.with_patch (sym c.joined.ensures ∙ c.in_ok-with_patch.was) in
    let three = joined_front c.in_ok-with_patch.with_patch c.made_netlist-2.result c.in_ok-with_out.with_out (sym c.joined-2.ensures ∙ c.in_ok-with_out.was) in
    let all = joined_front c.in_ok-with_out.with_out c.report_of.result c.in_ok-read.read (sym c.joined-3.ensures ∙ c.in_ok-read.was) in
    let patch = joined_last IsClosed c.in_ok-inputs.inputs c.made_netlist.result c.made_netlist.ensures.closed c.in_ok-with_patch.with_patch (sym c.joined.ensures ∙ c.in_ok-with_patch.was) in
    let out = joined_last IsClosed c.in_ok-with_patch.with_patch c.made_netlist-2.result c.made_netlist-2.ensures.closed c.in_ok-with_out.with_out (sym c.joined-2.ensures ∙ c.in_ok-with_out.was) in
    record {
      fit = subst AreFit (sym (ap (λ front. front.0.0) all ∙ ap (λ front. front.0) three ∙ two)) c.in_ok-inputs.ensures.fit;
      patch = subst IsClosed (sym (ap (λ front. front.0.1) all ∙ ap (λ front. front.1) three)) patch;
      out = subst IsClosed (sym (ap (λ front. front.1) all)) out;
    }

pub returns-clause-ok : goal.returns-clause-ok
returns-clause-ok g c =
    let first = c.problem_inputs.ensures.keeps in
    let second = keeps_on _ _ _ first c.made_netlist.ensures.keeps in
    let third = keeps_on _ _ _ second c.made_netlist-2.ensures.keeps in
    let two = both_passed _ _ _ _ _ c.in_ok-inputs.inputs first c.in_ok-inputs.ensures.ok c.made_netlist.result c.made_netlist.ensures.ok c.in_ok-with_patch.with_patch (sym c.joined.ensures ∙ c.in_ok-with_patch.was) in
    let three = both_passed _ _ _ _ _ c.in_ok-with_patch.with_patch second two c.made_netlist-2.result c.made_netlist-2.ensures.ok c.in_ok-with_out.with_out (sym c.joined-2.ensures ∙ c.in_ok-with_out.was) in
    let all = both_passed _ _ _ _ _ c.in_ok-with_out.with_out third three c.report_of.result c.report_of.ensures.ok c.in_ok-read.read (sym c.joined-3.ensures ∙ c.in_ok-read.was) in
    record { passed = (c.in_ok-read.read, all.passed, (tt, refl)); no_fault = all.no_fault }
