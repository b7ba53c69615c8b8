-- The levels below stay as they were.
use Rattle.std.proofs.Common.{◌≡◌, ap, sym, ◌∙◌}
use Rattle.std.specs.Vec.{vec_capacity}
use Rattle.eco_learn.specs.Trails.{Known, end_of}
use Rattle.eco_learn.proofs.TrailLaws.{levels_cut}
use Rattle.eco_learn.proofs.trail.Trail.cut.Goals as goal

pub invariant_of-self : goal.invariant_of-self
invariant_of-self c =
    let t = c.self.inside in
    let end : c.end-end.result ≡ end_of (record { vars = t.taken.vars; lits = t.taken.lits; marks = t.marks.items; reasons = t.reasons.items }) c.args.level = c.end-end.ensures.end ∙ ap (λ (k : Known). end_of k c.args.level) (sym c.self.view_is) in
    rw (c.truncate.ensures.cut, c.truncate-2.ensures.items, c.truncate-3.ensures.items, c.truncate-2.ensures.capacity, end) (levels_cut t.taken.vars t.taken.lits t.marks.items t.reasons.items (vec_capacity t.reasons) c.args.level c.self.invariant)
