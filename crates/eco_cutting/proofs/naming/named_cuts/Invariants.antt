-- The cuts so far have the free targets below the number.
use Rattle.eco_cutting.specs.NewNames.{AreNamed}
use Rattle.eco_cutting.proofs.naming.named_cuts.Given as goal

abbrev pub invariant-loop-number : goal.invariant-loop-number
invariant-loop-number l = AreNamed l.f l.nets l.prefix l.number l.cuts.items
