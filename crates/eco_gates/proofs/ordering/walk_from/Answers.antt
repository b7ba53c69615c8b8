-- The walk begins.
use Rattle.eco_gates.proofs.Walked.{opened_begun}
use Rattle.eco_gates.proofs.ordering.walk_from.Goals as goal

pub loop-first-init : goal.loop-first-init
loop-first-init c =
    opened_begun c.args.gates.now c.args.drivers.now c.args.root c.args.walk.now c.open_new.new.walk c.requires.stands c.requires.empty c.in_ok-open_new.ensures.opened
