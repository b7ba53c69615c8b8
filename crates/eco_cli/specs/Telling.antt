-- How far a run has come, as text.
use Rattle.std.specs.Prelude.{ℕ, ◌-◌, List, [], ◌++◌, codes, decimal, if◌then◌else◌, nat_lt}
use Rattle.eco_find.specs.declared.ways.Way.{Way}
use Rattle.eco_find.specs.declared.ways.Way.TheVariants.{Greedy, Light, Within}
use Rattle.eco_cli.specs.declared.standing.Place.{Place}
use Rattle.eco_cli.specs.declared.standing.Step.{Step}
use Rattle.eco_cli.specs.declared.standing.Step.TheVariants.{Deciding, Choosing, Making}
use Rattle.eco_cli.specs.declared.standing.Standing.{Standing}

-- which of two passes through the targets it is: with an effort, several targets are gone through twice
abbrev pub pass_text : Way → ℕ → List ℕ
pass_text (Light effort) count = if nat_lt 1 count then codes "pass 1 of 2: " else []
pass_text (Within effort) count = codes "pass 2 of 2, greedy for comparison: "
pass_text Greedy count = []

-- the pass, a target's number and how many there are
abbrev pub place_text : Place → List ℕ
place_text place = pass_text place.way place.count ++ (codes "target " ++ decimal place.number ++ codes " of " ++ decimal place.count)

-- what is done for a target to choose its signals
abbrev pub way_text : Way → List ℕ
way_text (Light effort) = codes ", looking for a cheap base"
way_text way = codes ", choosing its base"

-- the step that a run is at
abbrev pub step_text : Step → List ℕ
step_text Deciding = codes "deciding whether it can be rectified"
step_text (Choosing place) = place_text place ++ way_text place.way
step_text (Making place) = place_text place ++ codes ", making its function"

-- how many signals the targets before need, where the run is at a target
abbrev pub signals_text : Step → ℕ → List ℕ
signals_text Deciding signals = []
signals_text (Choosing place) signals = codes ", signals so far: " ++ decimal signals
signals_text (Making place) signals = codes ", signals so far: " ++ decimal signals

-- the step, how many questions there were, how many of them in this step, and the signals
abbrev pub standing_text : Standing → List ℕ
standing_text s =
    step_text s.step ++ (codes ", question " ++ (decimal s.questions ++ (codes " (" ++ (decimal (s.questions - s.before) ++ (codes " in this step)" ++ signals_text s.step s.signals)))))
