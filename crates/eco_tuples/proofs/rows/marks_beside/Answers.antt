-- One input more, and all of them.
use Rattle.std.proofs.Common.{◌≡◌, ℕ, suc, ◌+◌, false, Some, length, take, get_or, sym, ◌∙◌, ap, subst, arith}
use Rattle.std.specs.List.{slice_get}
use Rattle.std.proofs.lemmas.Option.{slice_get-get_or}
use Rattle.std.proofs.lemmas.List.{take_all}
use Rattle.eco_meaning.specs.Circuit.{names}
use Rattle.eco_netlist.specs.Netlists.{names_at}
use Rattle.eco_tuples.specs.Graphs.{AreValuesAt}
use Rattle.eco_tuples.specs.Rows.{AreSharedUnless}
use Rattle.eco_tuples.proofs.GraphLaws.{stretches_on}
use Rattle.eco_tuples.proofs.RowLaws.{shared_more}
use Rattle.eco_tuples.proofs.rows.marks_beside.Goals as goal

pub loop-input-preserved : goal.loop-input-preserved
loop-input-preserved c =
    let f = c.args.netlist.now in
    let signals = names_at (names f) c.args.signals.now in
    let rest = c.args.rest.now in
    let k = c.loop-input.input-index in
    let x = get_or rest k c.input-item.result in
    let old = c.loop-input.targets in
    let new = c.edges_at.new.targets in
    let edges = c.args.edges.now in
    let others = c.in_ok-others.others.items in
    let before = c.loop-input.marks.items in
    let marks = c.in_ok-marks-2.marks.items in
    let next : suc k ≡ k + 1 = omega arith in
    let same_marks = c.as_slice-in-loop-input.ensures.value in
    let same_others = c.as_slice-in-loop-input-2.ensures.value in
    let values = subst (λ bits. AreValuesAt f signals new bits others) (c.as_slice.ensures ∙ c.input-item.is) c.in_ok-others.ensures.values in
    let unlike : (j : ℕ) → slice_get marks j ≡ Some false → (slice_get before j ≡ Some false) × (slice_get edges j ≡ slice_get others j) = λ j unmarked.
    let both = c.in_ok-marks-2.ensures.unmarked j unmarked in
    (sym (ap (λ list. slice_get list j) same_marks) ∙ both.0, both.1 ∙ ap (λ list. slice_get list j) same_others) in
    let more = shared_more f signals old new rest k x edges others before marks c.loop-input.invariant.1 c.in_ok-others.ensures.stretches (slice_get-get_or rest k c.input-item.result (omega arith)) values unlike in (
      c.in_ok-marks-2.ensures.count ∙ ap length same_marks ∙ c.loop-input.invariant.0,
      subst (λ m. AreSharedUnless f signals new (take m rest) edges marks) next more,
      stretches_on c.args.targets.now old new c.loop-input.invariant.2 c.in_ok-others.ensures.stretches,
      c.in_ok-others.ensures.targets,
    )

pub returns-clause-shared : goal.returns-clause-shared
returns-clause-shared c =
    let f = c.args.netlist.now in
    subst (λ rest. AreSharedUnless f (names_at (names f) c.args.signals.now) c.loop-input.targets rest c.args.edges.now c.loop-input.marks.items) (take_all c.loop-input.input-index c.args.rest.now (omega arith)) c.loop-input.invariant.1
