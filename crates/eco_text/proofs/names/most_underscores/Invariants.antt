use Rattle.std.proofs.Common.{◌≡◌, map, take}
use Rattle.eco_text.specs.Prefix.{most_underscores}
use Rattle.eco_text.proofs.names.most_underscores.Given as goal

abbrev pub invariant-loop-name : goal.invariant-loop-name
invariant-loop-name l = l.most ≡ most_underscores l.stem (map (λ name. name.now) (take l.name-index l.names))
