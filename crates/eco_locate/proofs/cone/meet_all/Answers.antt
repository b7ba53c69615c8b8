-- One more term.
use Rattle.std.proofs.Common.{ℕ, sym, subst}
use Rattle.eco_gates.specs.Walk.{AreDriversBelow}
use Rattle.eco_locate.proofs.RankingLemmas.{further_twice}
use Rattle.eco_locate.proofs.cone.meet_all.Goals as goal

pub meet-requires-clause-driver : goal.meet-requires-clause-driver
meet-requires-clause-driver c =
    c.driver_of.ensures _ (subst (λ (n : ℕ). AreDriversBelow n c.args.drivers.now) (sym c.loop-term.invariant.len) c.requires.drivers)

pub loop-term-preserved : goal.loop-term-preserved
loop-term-preserved c = further_twice _ _ _ c.loop-term.invariant c.in_ok-meet.ensures
