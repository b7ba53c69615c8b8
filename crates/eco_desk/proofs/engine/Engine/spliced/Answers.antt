-- There is a turn.
use Rattle.std.proofs.Common.{◌≡◌, Some, sym, subst}
use Rattle.eco_desk.specs.Engines.{EngineValue}
use Rattle.eco_desk.proofs.DeskLaws.{turn_there}
use Rattle.eco_desk.proofs.engine.Engine.spliced.Goals as goal

pub spliced-requires : goal.spliced-requires
spliced-requires g c =
    let (turned, is) = c.requires.turned in
    record { turned = turn_there c.self.inside.desk.turn turned (subst (λ (engine : EngineValue). engine.turned ≡ Some turned) (sym c.self.view_is) is) }
