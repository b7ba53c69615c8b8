-- The complement has the bit where the word hasn't.
use Rattle.std.proofs.Common.{not, cond, sym, ◌∙◌, ap}
use Rattle.eco_gates.specs.Words.{is_set}
use Rattle.eco_gates.proofs.WordLemmas.{set_not}
use Rattle.eco_lanes.proofs.lanes.same_lanes.Goals as goal

pub returns-else-bit : goal.returns-else-bit
returns-else-bit c = λ place lt.
    set_not c.args.word place c.ranges.word.fits lt
    ∙ sym (ap (λ b. cond b (is_set c.args.word place) (not (is_set c.args.word place))) c.if-bit.false)
