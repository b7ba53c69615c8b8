-- Why netlists are no problem.
use Rattle.std.specs.Prelude.{◌≡◌, ◌≢◌, ◌<◌, length, Option, IfSome, IsSomeAnd}
use Rattle.eco_meaning.specs.Circuit.{Circuit}
use Rattle.eco_netlist.specs.Refusals.{IsFirst, NeverComes}
use Rattle.eco_query.specs.declared.TheConstants.{MOST_TARGETS}
use Rattle.eco_query.specs.declared.problem.PairError.{PairError}
use Rattle.eco_query.specs.declared.problem.PairError.TheVariants.{PortsDiffer, CareInputs, CareOutputs, NoTarget, TooManyTargets, OutOfMemory}
use Rattle.eco_query.specs.Ports.{is_alone, is_unlike}
use Rattle.eco_query.specs.Problem.{HasTargets}

-- the cared netlist, where there is one, has the inputs of f
abbrev pub HasInputsOf : Circuit → Option Circuit → Type 0
HasInputsOf f care = IfSome care (λ c. NeverComes (is_alone f c))

-- the cared netlist, where there is one, has one output
abbrev pub HasOneOutput : Option Circuit → Type 0
HasOneOutput care = IfSome care (λ c. length c.outputs ≡ 1)

-- the netlists fit together: the specification has the ports of f, and the cared netlist, where there is one, has the
-- inputs of f and one output
pub record FitTogether (f g : Circuit) (care : Option Circuit) : Type 0 where
  pub ports : NeverComes (is_unlike f g)
  pub inputs : HasInputsOf f care
  pub one_output : HasOneOutput care

-- the netlists don't fit together for this: it stands, and nothing of an earlier row stands; want of memory may come always
abbrev pub IsMisfit : Circuit → Circuit → Option Circuit → PairError → Type 0
IsMisfit f g care (PortsDiffer name) = IsFirst (is_unlike f g) name
IsMisfit f g care (CareInputs name) = NeverComes (is_unlike f g) × IsSomeAnd care (λ c. IsFirst (is_alone f c) name)
IsMisfit f g care (CareOutputs count) =
    NeverComes (is_unlike f g) × HasInputsOf f care × IsSomeAnd care (λ c. length c.outputs ≡ count) × (count ≢ 1)
IsMisfit f g care NoTarget = ⊥
IsMisfit f g care (TooManyTargets count) = ⊥
IsMisfit f g care OutOfMemory = Unit {0}

-- the netlists are no problem for this: they don't fit together; or they do, and the targets are none or too many
abbrev pub Refuses : Circuit → Circuit → Option Circuit → PairError → Type 0
Refuses f g care NoTarget = FitTogether f g care × HasTargets f 0
Refuses f g care (TooManyTargets count) = FitTogether f g care × HasTargets f count × (MOST_TARGETS < count)
Refuses f g care error = IsMisfit f g care error
