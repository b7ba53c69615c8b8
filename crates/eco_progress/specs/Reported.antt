-- How the signals of a base are reported.
use Rattle.std.specs.Prelude.{ℕ, ◌<◌, Option, IsSome, List, length, map, unwrap_or}
use Rattle.eco_meaning.specs.Circuit.{names}
use Rattle.eco_meaning.specs.Cost.{weight_of}
use Rattle.eco_meaning.specs.Report.{BaseSignal, TargetGroup, Least}
use Rattle.eco_gates.specs.declared.gate.NetId.{NetId}
use Rattle.eco_netlist.specs.Netlists.{name_at}
use Rattle.eco_query.specs.Problem.{ProblemValue}
use Rattle.eco_base.specs.declared.based.Based.{Based}

-- the nets of these signals
abbrev pub nets_in : List Based → List NetId
nets_in new = map (λ based. based.net) new

-- a signal is a net of the implementation
abbrev pub IsNet : ProblemValue → Based → Type 0
IsNet problem based = based.net.0 < length (names problem.implementation)

-- the name of a signal
abbrev pub signal_name : ProblemValue → Based → List ℕ
signal_name problem based = name_at (names problem.implementation) based.net.0

-- the weight that its name has
abbrev pub weight_at : ProblemValue → Based → Option ℕ
weight_at problem based = weight_of problem.implementation problem.weights problem.input_weight (signal_name problem based)

-- it has one
abbrev pub IsWeighted : ProblemValue → Based → Type 0
IsWeighted problem based = IsSome (weight_at problem based)

-- a signal by its name, with its weight and the two inputs that show that it is needed
abbrev pub reported_as : ProblemValue → Based → BaseSignal
reported_as problem based = record {
  signal = signal_name problem based;
  weight = unwrap_or (weight_at problem based) 0;
  force1 = based.one;
  force0 = based.zero;
}

-- the target, with these signals
abbrev pub reported_group : ProblemValue → List ℕ → List Based → TargetGroup
reported_group problem target new = record { target = target; base = map (reported_as problem) new }

-- the target, with what its signals cost at least
abbrev pub least_line : List ℕ → ℕ → Least
least_line target cost = record { target = target; cost = cost }
