-- All before the first that doesn't pass do.
use Rattle.std.proofs.Common.{◌++◌, ◌∷◌, take, drop, suc, sym, ◌∙◌, ap, subst}
use Rattle.std.specs.List.{All}
use Rattle.std.proofs.Math.Seq.{split_at}
use Rattle.std.proofs.lemmas.Bool.{both_ways}
use Rattle.std.proofs.lemmas.List.{take_all}
use Rattle.std.proofs.lemmas.List.Elements.{All-more}
use Rattle.eco_meaning.specs.Report.{BaseSignal}
use Rattle.eco_audit.specs.Checks.{IsCheckable, says}
use Rattle.eco_audit.proofs.checking.first_wrong_of.Goals as goal

pub passes-requires : goal.passes-requires
passes-requires c =
    subst (IsCheckable c.args.problem.now c.args.patch.now c.args.check c.args.number) (sym c.reported-item.is)
    (c.requires c.loop-reported.reported-index c.reported-item.result c.loop-reported-test.true)

pub returns-then-not-passed : goal.returns-then-not-passed
returns-then-not-passed c = λ report ready group at.
    let base = c.args.base.now in
    let i = c.loop-reported.reported-index in
    let reported = c.reported-item.result in
    record {
      front = take i base;
      reported = reported;
      back = drop (suc i) base;
      split = split_at base i reported c.loop-reported-test.true ∙ ap (λ y. take i base ++ y ∷ drop (suc i) base) (sym c.reported-item.is);
      named = sym (c.in_ok-copy.ensures.same ∙ ap (λ (b : BaseSignal). b.signal) c.reported.view_is);
      wrong = λ holds. both_ways c.in_ok-passed.passed c.if-not-passed.true ((c.in_ok-passed.ensures report ready group at).1 holds);
      first = c.loop-reported.invariant report ready group at;
    }

pub loop-reported-preserved : goal.loop-reported-preserved
loop-reported-preserved c = λ report ready group at.
    let says_it = says c.args.check c.args.problem.now c.args.patch.now (take c.args.number report.groups) group in
    All-more says_it c.args.base.now c.loop-reported.reported-index c.reported-item.result c.loop-reported-test.true (c.loop-reported.invariant report ready group at)
    (subst says_it c.reported-item.is ((c.in_ok-passed.ensures report ready group at).0 c.if-not-passed.false))

pub returns : goal.returns
returns c = λ report ready group at.
    let says_it = says c.args.check c.args.problem.now c.args.patch.now (take c.args.number report.groups) group in
    subst (All says_it) (take_all c.loop-reported.reported-index c.args.base.now c.loop-reported-test.false) (c.loop-reported.invariant report ready group at)
