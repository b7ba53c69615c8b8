-- One more pair is equal, and at the end all are.
use Rattle.std.proofs.Common.{◌≡◌, refl}
use Rattle.eco_trace.specs.Adding.{behind}
use Rattle.eco_accept.specs.declared.posing.Pair.{Pair}
use Rattle.eco_trace.proofs.AddingLaws.{extends_both}
use Rattle.eco_accept.proofs.Adding.{also_end}
use Rattle.eco_accept.proofs.Questions.{equal_more}
use Rattle.eco_accept.proofs.posing.add_pairs.Goals as goal

pub loop-pair-preserved : goal.loop-pair-preserved
loop-pair-preserved c =
    let old = c.args.cnf.now in
    let mid = c.loop-pair.cnf in
    let new = c.add_equality.new.cnf in (
      extends_both old mid new c.loop-pair.invariant.0 c.in_ok-add_equality.ensures.front,
      equal_more c.args.by old mid new c.args.pairs.now c.loop-pair.pair-index (record { shared = record { 0 = 0 }; own = record { 0 = 0 } }) c.loop-pair-test.true c.loop-pair.invariant.1 c.in_ok-add_equality.ensures.models,
    )

pub returns-clause-models : goal.returns-clause-models
returns-clause-models c =
    also_end (λ v (q : Pair). v q.shared.0 ≡ behind c.args.by v q.own.0) c.args.cnf.now c.loop-pair.cnf c.args.pairs.now c.args.pairs.now c.loop-pair.pair-index c.loop-pair-test.false refl c.loop-pair.invariant.1
