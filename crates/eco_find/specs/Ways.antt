-- What a way to choose a base promises, whatever the target.
use Rattle.std.specs.Prelude.{Bool, true, false}
use Rattle.eco_find.specs.declared.ways.Way.{Way}
use Rattle.eco_find.specs.declared.ways.Way.TheVariants.{Greedy, Within, Light}

-- the base is the greedy choice
abbrev pub is_greedy : Way → Bool
is_greedy Greedy = true
is_greedy (Within effort) = true
is_greedy (Light effort) = false

-- it is told what any base costs at least
abbrev pub tells_least : Way → Bool
tells_least Greedy = false
tells_least (Within effort) = true
tells_least (Light effort) = true

-- it may end without a base
abbrev pub may_end : Way → Bool
may_end Greedy = false
may_end (Within effort) = true
may_end (Light effort) = false
