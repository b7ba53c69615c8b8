-- Bases that are found by lists.
use Rattle.eco_least.specs.Weighed.{IsBase}
use Rattle.eco_base.specs.Targets.{TargetValue}
use Rattle.eco_least.specs.declared.improving.Look.{Look}
use Rattle.eco_least.specs.declared.improving.Look.TheVariants.{Cheaper, Further, Ended}

-- what a list gives is a base of the target, or nothing
abbrev pub IsLook : TargetValue → Look → Type 0
IsLook t (Cheaper chosen) = IsBase t chosen
IsLook t Further = Unit {0}
IsLook t Ended = Unit {0}
