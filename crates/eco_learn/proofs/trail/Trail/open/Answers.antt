-- What the literals say of their variables.
use Rattle.std.proofs.Common.{MatchOption, subst}
use Rattle.eco_learn.specs.Trails.{Known, IsOpenVar, IsWhole}
use Rattle.eco_learn.proofs.trail.Trail.open.Goals as goal

pub returns : goal.returns
returns c =
    subst (λ (k : Known). MatchOption c.open.result (IsWhole k.vars k.lits) (IsOpenVar k.vars k.lits)) c.self.view_is c.open.ensures
