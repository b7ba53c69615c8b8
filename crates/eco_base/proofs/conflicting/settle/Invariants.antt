-- The rests are some, the engine stays what it is, and fewer are left after each question.
use Rattle.std.proofs.Common.{◌≡◌, ◌-◌, ◌^◌, length}
use Rattle.eco_base.specs.Scenes.{AtScene}
use Rattle.eco_base.specs.Asking.{AreRests}
use Rattle.eco_base.proofs.conflicting.settle.Given as goal

abbrev pub invariant-asks : goal.invariant-asks
invariant-asks g l = record {
  rests : AtScene l.stage (λ s. AreRests s l.rests.items);
  stays : l.engine ≡ l.initial.engine;
}

abbrev pub decreases-asks : goal.decreases-asks
decreases-asks g l = 2 ^ l.stage.later - length l.rests.items
