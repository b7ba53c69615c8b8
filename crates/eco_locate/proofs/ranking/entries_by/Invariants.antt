-- The entries are those of the nets so far, and the walk stands.
use Rattle.std.proofs.Common.{◌≡◌, length, map, take}
use Rattle.eco_locate.specs.Ranking.{IsCone}
use Rattle.eco_locate.proofs.ranking.entries_by.Given as goal

abbrev pub invariant-loop-net : goal.invariant-loop-net
invariant-loop-net l =
    IsCone l.cone × (length l.cone.seen.items ≡ length l.gates) × (map (λ e. e.ranked.net) l.entries.items ≡ take l.net-index l.nets)
