use Rattle.std.proofs.Common.{refl, sym, ◌∙◌, ap, subst}
use Rattle.std.specs.Option.{ForSome}
use Rattle.eco_query.specs.Problem.{IsClosed}
use Rattle.eco_change.specs.Change.{HasRoom}
use Rattle.eco_words.specs.CommandLine.{change_options_of}
use Rattle.eco_inputs.specs.declared.error.InputError.TheVariants.{InNetlist}
use Rattle.eco_inputs.specs.declared.paths.FileOption.TheVariants.{Implementation, Specification, Care}
use Rattle.eco_inputs.specs.Changes.{cared_row, change_inputs_of, change_rows, long_change, old_row, wanted_row}
use Rattle.eco_inputs.specs.Reading.{Halts}
use Rattle.eco_inputs.specs.Rows.{named_row}
use Rattle.eco_inputs.proofs.ReadingLaws.{both_passed, joined_front, joined_last, keeps_on, passed_on, second_of_three, third_of_three}
use Rattle.eco_inputs.proofs.changes.change_inputs_of.Goals as goal

pub returns-in_err-netlists-clause-err : goal.returns-in_err-netlists-clause-err
returns-in_err-netlists-clause-err g c =
    let options = change_options_of c.args.files.now in
    let first = c.old_of.ensures.keeps in
    let why = c.in_err-netlists.field-0.0 in
    passed_on (Halts (long_change options) (change_rows options) (g.S.Store.view c.args.store.now) (g.S.Store.view c.wanted_of.new.store)) why
    (second_of_three (long_change options) change_inputs_of (named_row (InNetlist Implementation) (old_row options)) (named_row (InNetlist Specification) (wanted_row options)) (named_row (InNetlist Care) (cared_row options)) (g.S.Store.view c.args.store.now) (g.S.Store.view c.old_of.new.store) (g.S.Store.view c.wanted_of.new.store)
    c.in_ok-old.old first c.in_ok-old.ensures.ok c.wanted_of.result c.wanted_of.ensures.err why (sym c.joined.ensures ∙ c.in_err-netlists.was))
    c.from_residual-in_err-netlists.result c.from_residual-in_err-netlists.ensures.1

pub returns-in_err-read-clause-err : goal.returns-in_err-read-clause-err
returns-in_err-read-clause-err g c =
    let options = change_options_of c.args.files.now in
    let first = c.old_of.ensures.keeps in
    let second = keeps_on _ _ _ first c.wanted_of.ensures.keeps in
    let two = both_passed _ _ _ _ _ c.in_ok-old.old first c.in_ok-old.ensures.ok c.wanted_of.result c.wanted_of.ensures.ok c.in_ok-netlists.netlists (sym c.joined.ensures ∙ c.in_ok-netlists.was) in
    let why = c.in_err-read.field-0.0 in
    passed_on (Halts (long_change options) (change_rows options) (g.S.Store.view c.args.store.now) (g.S.Store.view c.cared_of.new.store)) why
    (third_of_three (long_change options) change_inputs_of (named_row (InNetlist Implementation) (old_row options)) (named_row (InNetlist Specification) (wanted_row options)) (named_row (InNetlist Care) (cared_row options)) (g.S.Store.view c.args.store.now) (g.S.Store.view c.wanted_of.new.store) (g.S.Store.view c.cared_of.new.store)
    c.in_ok-netlists.netlists second two c.cared_of.result c.cared_of.ensures.err why (sym c.joined-2.ensures ∙ c.in_err-read.was))
    c.from_residual-in_err-read.result c.from_residual-in_err-read.ensures.1

pub returns-clause-fit : goal.returns-clause-fit
returns-clause-fit g c =
    let netlists = joined_front c.in_ok-old.old c.wanted_of.result c.in_ok-netlists.netlists (sym c.joined.ensures ∙ c.in_ok-netlists.was) in
    let read = joined_front c.in_ok-netlists.netlists c.cared_of.result c.in_ok-read.read (sym c.joined-2.ensures ∙ c.in_ok-read.was) in
    let wanted = joined_last IsClosed c.in_ok-old.old c.wanted_of.result c.wanted_of.ensures.closed c.in_ok-netlists.netlists (sym c.joined.ensures ∙ c.in_ok-netlists.was) in
    record {
      closed = subst IsClosed (sym (ap (λ front. front.0) read ∙ netlists)) c.in_ok-old.ensures.closed;
      wanted_closed = subst IsClosed (sym (ap (λ front. front.1) read)) wanted;
      care_closed = joined_last (λ care. ForSome care IsClosed) c.in_ok-netlists.netlists c.cared_of.result c.cared_of.ensures.closed c.in_ok-read.read (sym c.joined-2.ensures ∙ c.in_ok-read.was);
      room = subst HasRoom (sym (ap (λ front. front.0) read ∙ netlists)) c.in_ok-old.ensures.room;
    }

pub returns-clause-ok : goal.returns-clause-ok
returns-clause-ok g c =
    let first = c.old_of.ensures.keeps in
    let second = keeps_on _ _ _ first c.wanted_of.ensures.keeps in
    let two = both_passed _ _ _ _ _ c.in_ok-old.old first c.in_ok-old.ensures.ok c.wanted_of.result c.wanted_of.ensures.ok c.in_ok-netlists.netlists (sym c.joined.ensures ∙ c.in_ok-netlists.was) in
    let all = both_passed _ _ _ _ _ c.in_ok-netlists.netlists second two c.cared_of.result c.cared_of.ensures.ok c.in_ok-read.read (sym c.joined-2.ensures ∙ c.in_ok-read.was) in
    record { passed = (c.in_ok-read.read, all.passed, (tt, refl)); no_fault = all.no_fault }
