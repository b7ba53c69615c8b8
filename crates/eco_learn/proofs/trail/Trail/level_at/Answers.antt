-- The levels that begin no later, and no others.
use Rattle.std.proofs.Common.{◌<◌, length, sym, subst}
use Rattle.eco_learn.specs.Trails.{Known, IsLevelAt}
use Rattle.eco_learn.proofs.TrailLaws.{level_from}
use Rattle.eco_learn.proofs.trail.Trail.level_at.Goals as goal

pub returns : goal.returns
returns c =
    let t = c.self.inside in
    let place : c.args.place < length t.taken.lits = subst (λ (k : Known). c.args.place < length k.lits) (sym c.self.view_is) c.requires in
    subst (λ (k : Known). IsLevelAt k c.args.place c.levels_before.result) c.self.view_is (
    level_from (record { vars = t.taken.vars; lits = t.taken.lits; marks = t.marks.items; reasons = t.reasons.items }) c.as_slice.result.now c.args.place c.levels_before.result c.as_slice.ensures.value place c.levels_before.ensures.within c.levels_before.ensures.before c.levels_before.ensures.behind)
