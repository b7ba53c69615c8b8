use Rattle.std.proofs.Common.{refl, sym, ◌∙◌, ap, subst}
use Rattle.std.specs.Option.{ForSome}
use Rattle.eco_query.specs.Problem.{HasFewNets, IsClosed}
use Rattle.eco_words.specs.CommandLine.{problem_options_of}
use Rattle.eco_inputs.specs.declared.error.InputError.TheVariants.{InNetlist, InWeights}
use Rattle.eco_inputs.specs.declared.paths.FileOption.TheVariants.{Implementation, Specification, Care}
use Rattle.eco_inputs.specs.Inputs.{care_row, implementation_row, input_rows, inputs_of, long_input, specification_row, weight_row}
use Rattle.eco_inputs.specs.Reading.{Halts}
use Rattle.eco_inputs.specs.Rows.{named_row}
use Rattle.eco_inputs.proofs.ReadingLaws.{both_passed, fourth_stops, joined_front, joined_last, keeps_on, passed_on, second_stops, third_stops}
use Rattle.eco_inputs.proofs.inputs.inputs_of.Goals as goal

pub returns-in_err-netlists-clause-err : goal.returns-in_err-netlists-clause-err
returns-in_err-netlists-clause-err g c =
    let options = problem_options_of c.args.files.now in
    let first = c.implementation_of.ensures.keeps in
    let why = c.in_err-netlists.field-0.0 in
    passed_on (Halts (long_input options) (input_rows options) (g.S.Store.view c.args.store.now) (g.S.Store.view c.specification_of.new.store)) why
    (second_stops (long_input options) inputs_of (named_row (InNetlist Implementation) (implementation_row options)) (named_row (InNetlist Specification) (specification_row options)) (named_row InWeights (weight_row options)) (named_row (InNetlist Care) (care_row options)) (g.S.Store.view c.args.store.now) (g.S.Store.view c.implementation_of.new.store) (g.S.Store.view c.specification_of.new.store)
    c.in_ok-implementation.implementation first c.in_ok-implementation.ensures.ok c.specification_of.result c.specification_of.ensures.err why (sym c.joined.ensures ∙ c.in_err-netlists.was))
    c.from_residual-in_err-netlists.result c.from_residual-in_err-netlists.ensures.1

pub returns-in_err-weighted-clause-err : goal.returns-in_err-weighted-clause-err
returns-in_err-weighted-clause-err g c =
    let options = problem_options_of c.args.files.now in
    let first = c.implementation_of.ensures.keeps in
    let second = keeps_on _ _ _ first c.specification_of.ensures.keeps in
    let two = both_passed _ _ _ _ _ c.in_ok-implementation.implementation first c.in_ok-implementation.ensures.ok c.specification_of.result c.specification_of.ensures.ok c.in_ok-netlists.netlists (sym c.joined.ensures ∙ c.in_ok-netlists.was) in
    let why = c.in_err-weighted.field-0.0 in
    passed_on (Halts (long_input options) (input_rows options) (g.S.Store.view c.args.store.now) (g.S.Store.view c.weights_of.new.store)) why
    (third_stops (long_input options) inputs_of (named_row (InNetlist Implementation) (implementation_row options)) (named_row (InNetlist Specification) (specification_row options)) (named_row InWeights (weight_row options)) (named_row (InNetlist Care) (care_row options)) (g.S.Store.view c.args.store.now) (g.S.Store.view c.specification_of.new.store) (g.S.Store.view c.weights_of.new.store)
    c.in_ok-netlists.netlists second two c.weights_of.result c.weights_of.ensures.err why (sym c.joined-2.ensures ∙ c.in_err-weighted.was))
    c.from_residual-in_err-weighted.result c.from_residual-in_err-weighted.ensures.1

pub returns-in_err-read-clause-err : goal.returns-in_err-read-clause-err
returns-in_err-read-clause-err g c =
    let options = problem_options_of c.args.files.now in
    let first = c.implementation_of.ensures.keeps in
    let second = keeps_on _ _ _ first c.specification_of.ensures.keeps in
    let third = keeps_on _ _ _ second c.weights_of.ensures.keeps in
    let two = both_passed _ _ _ _ _ c.in_ok-implementation.implementation first c.in_ok-implementation.ensures.ok c.specification_of.result c.specification_of.ensures.ok c.in_ok-netlists.netlists (sym c.joined.ensures ∙ c.in_ok-netlists.was) in
    let three = both_passed _ _ _ _ _ c.in_ok-netlists.netlists second two c.weights_of.result c.weights_of.ensures.ok c.in_ok-weighted.weighted (sym c.joined-2.ensures ∙ c.in_ok-weighted.was) in
    let why = c.in_err-read.field-0.0 in
    passed_on (Halts (long_input options) (input_rows options) (g.S.Store.view c.args.store.now) (g.S.Store.view c.care_of.new.store)) why
    (fourth_stops (long_input options) inputs_of (named_row (InNetlist Implementation) (implementation_row options)) (named_row (InNetlist Specification) (specification_row options)) (named_row InWeights (weight_row options)) (named_row (InNetlist Care) (care_row options)) (g.S.Store.view c.args.store.now) (g.S.Store.view c.weights_of.new.store) (g.S.Store.view c.care_of.new.store)
    c.in_ok-weighted.weighted third three c.care_of.result c.care_of.ensures.err why (sym c.joined-3.ensures ∙ c.in_err-read.was))
    c.from_residual-in_err-read.result c.from_residual-in_err-read.ensures.1

pub returns-clause-fit : goal.returns-clause-fit
returns-clause-fit g c =
    let netlists = joined_front c.in_ok-implementation.implementation c.specification_of.result c.in_ok-netlists.netlists (sym c.joined.ensures ∙ c.in_ok-netlists.was) in
    let weighted = joined_front c.in_ok-netlists.netlists c.weights_of.result c.in_ok-weighted.weighted (sym c.joined-2.ensures ∙ c.in_ok-weighted.was) in
    let read = joined_front c.in_ok-weighted.weighted c.care_of.result c.in_ok-read.read (sym c.joined-3.ensures ∙ c.in_ok-read.was) in
    let closed = joined_last IsClosed c.in_ok-implementation.implementation c.specification_of.result c.specification_of.ensures.closed c.in_ok-netlists.netlists (sym c.joined.ensures ∙ c.in_ok-netlists.was) in
    record {
      few_nets = subst HasFewNets (sym (ap (λ front. front.0.0) read ∙ ap (λ front. front.0) weighted ∙ netlists)) c.in_ok-implementation.ensures.few_nets;
      closed = subst IsClosed (sym (ap (λ front. front.0.1) read ∙ ap (λ front. front.1) weighted)) closed;
      care_closed = joined_last (λ care. ForSome care IsClosed) c.in_ok-weighted.weighted c.care_of.result c.care_of.ensures.closed c.in_ok-read.read (sym c.joined-3.ensures ∙ c.in_ok-read.was);
    }

pub returns-clause-ok : goal.returns-clause-ok
returns-clause-ok g c =
    let first = c.implementation_of.ensures.keeps in
    let second = keeps_on _ _ _ first c.specification_of.ensures.keeps in
    let third = keeps_on _ _ _ second c.weights_of.ensures.keeps in
    let two = both_passed _ _ _ _ _ c.in_ok-implementation.implementation first c.in_ok-implementation.ensures.ok c.specification_of.result c.specification_of.ensures.ok c.in_ok-netlists.netlists (sym c.joined.ensures ∙ c.in_ok-netlists.was) in
    let three = both_passed _ _ _ _ _ c.in_ok-netlists.netlists second two c.weights_of.result c.weights_of.ensures.ok c.in_ok-weighted.weighted (sym c.joined-2.ensures ∙ c.in_ok-weighted.was) in
    let all = both_passed _ _ _ _ _ c.in_ok-weighted.weighted third three c.care_of.result c.care_of.ensures.ok c.in_ok-read.read (sym c.joined-3.ensures ∙ c.in_ok-read.was) in
    record { passed = (c.in_ok-read.read, all.passed, (tt, refl)); no_fault = all.no_fault }
