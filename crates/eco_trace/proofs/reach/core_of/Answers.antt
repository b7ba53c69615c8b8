-- The marks of the first clauses, and that these have no model.
use Rattle.std.proofs.Common.{take, ap, ◌∙◌}
use Rattle.eco_trace.specs.Core.{IsCore}
use Rattle.eco_trace.proofs.CoreLaws.{core_of_reached, core_refuted}
use Rattle.eco_trace.proofs.reach.core_of.Goals as goal
use Rattle.eco_trace.proofs.reach.core_of.Goals.{After-truncate}

is_core : (c : After-truncate) → IsCore c.args.trace.now c.truncate.new.self.items
is_core c =
    let all = c.in_ok-marks.marks.items in
    core_of_reached c.args.trace.now all c.truncate.new.self.items c.in_ok-marks.ensures.length c.in_ok-marks.ensures.reached (c.truncate.ensures.items ∙ ap (λ n. take n all) c.originals.ensures)

pub returns-clause-core : goal.returns-clause-core
returns-clause-core c = is_core c

pub returns-clause-refuted : goal.returns-clause-refuted
returns-clause-refuted c = λ v model.
    core_refuted c.args.trace.now c.truncate.new.self.items v c.is_sound.ensures.legal c.requires (is_core c) model
