-- The signals so far.
use Rattle.std.proofs.Common.{◌≡◌, ◌++◌, map, take}
use Rattle.eco_audit.proofs.naming.add_base.Given as goal

abbrev pub invariant-loop-reported : goal.invariant-loop-reported
invariant-loop-reported l = map (λ b. b.now) l.base.items ≡ map (λ b. b.now) l.initial.base.items ++ take l.reported-index l.more
