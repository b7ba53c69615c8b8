-- What is learnt is news, and the trail that was cut back fits it.
use Rattle.std.proofs.Common.{◌≡◌, ◌∙◌, ap, sym, subst}
use Rattle.std.proofs.lemmas.List.Elements.{All-contains}
use Rattle.eco_trace.specs.Clauses.{IsVarWithin, complement}
use Rattle.eco_trace.specs.Resolution.{clauses_of}
use Rattle.eco_learn.specs.declared.lesson.Lesson.{Lesson}
use Rattle.eco_learn.specs.Trails.{Known, IsTrail, implied, cut_to}
use Rattle.eco_learn.specs.Lessons.{IsAssertion, IsTaught}
use Rattle.eco_scan.specs.Scanning.{IsReady}
use Rattle.eco_scan.proofs.ReadyLaws.{asserted_news, ready_learnt, adds_ready}
use Rattle.eco_scan.proofs.rounds.learn_from.Goals as goal

pub imply-requires-clause-within : goal.imply-requires-clause-within
imply-requires-clause-within c =
    let k = c.args.trail.now in
    let a = c.in-Asserted.assertion in
    let told : IsAssertion c.args.trace.now c.learn.new.trace k a = subst (λ (l : Lesson). IsTaught c.args.trace.now c.learn.new.trace k l) c.in-Asserted.is c.in_ok-learn.ensures.taught in
    let w : IsVarWithin k.vars (complement a.lit) = All-contains (IsVarWithin k.vars) k.lits (complement a.lit) c.is_sound.ensures.sound.within (told.asserting.wrong a.lit told.asserting.member) in
    subst (λ (j : Known). IsVarWithin j.vars a.lit) (sym c.cut.ensures.cut) (record { first = w.first; last = w.last })

pub returns-in-Asserted-clause-round : goal.returns-in-Asserted-clause-round
returns-in-Asserted-clause-round c =
    let k = c.args.trail.now in
    let a = c.in-Asserted.assertion in
    let clauses = clauses_of c.args.trace.now in
    let told : IsAssertion c.args.trace.now c.learn.new.trace k a = subst (λ (l : Lesson). IsTaught c.args.trace.now c.learn.new.trace k l) c.in-Asserted.is c.in_ok-learn.ensures.taught in
    let cut : IsTrail (cut_to k a.level) = subst IsTrail c.cut.ensures.cut c.is_sound-in-Asserted.ensures.sound in
    let after : c.imply.new.self ≡ implied (cut_to k a.level) a.lit a.node = c.imply.ensures.implied ∙ ap (λ (j : Known). implied j a.lit a.node) c.cut.ensures.cut in
    record {
      clause = told.clause;
      adds = told.adds;
      news = asserted_news clauses k told.clause a c.is_sound.ensures.sound c.requires.ready told.asserting;
      ready = subst (λ (j : Known). IsReady (clauses_of c.learn.new.trace) j) (sym after) (
          adds_ready c.args.trace.now c.learn.new.trace told.clause (implied (cut_to k a.level) a.lit a.node) told.adds (
          ready_learnt clauses k told.clause a c.is_sound.ensures.sound cut c.requires.ready told.asserting told.node));
    }
