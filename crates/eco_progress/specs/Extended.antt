-- What the step to one more target goes from, and what comes of it.
use Rattle.std.specs.Prelude.{◌≡◌, ◌≢◌, ◌+◌, AllPairs, length}
use Rattle.eco_meaning.specs.Circuit.{names}
use Rattle.eco_netlist.specs.Netlists.{names_at}
use Rattle.eco_trace.specs.Verdicts.{IsRefutation}
use Rattle.eco_tseitin.specs.Sides.{IsApart}
use Rattle.eco_query.specs.Problem.{ProblemValue}
use Rattle.eco_pose.specs.Posing.{sides_of}
use Rattle.eco_base.specs.Chosen.{IsBaseOf}
use Rattle.eco_base.specs.declared.choosing.Chosen.{Chosen}
use Rattle.eco_functions.specs.Functions.{FunctionsValue, HasOneMore, LastIsInterpolant}
use Rattle.eco_progress.specs.declared.progress.Progress.{Progress}
use Rattle.eco_progress.specs.Reported.{nets_in}

-- the base is one of the target that comes next, beside the signals that are paid
abbrev pub IsChosenFor : ProblemValue → Progress → Chosen → Type 0
IsChosenFor problem progress chosen =
    IsBaseOf problem (length progress.groups.items) progress.patch (names_at (names problem.implementation) progress.functions.base) chosen

-- the refutation is of clauses in two parts, which have a variable in common for each signal that the functions may read and
-- for each that is chosen
pub record CanExtend (functions : FunctionsValue) (chosen : Chosen) : Type 0 where
  pub refuted : IsRefutation chosen.posed.clauses chosen.trace
  pub marks : length chosen.posed.side ≡ length chosen.posed.clauses.clauses
  pub apart : IsApart (sides_of chosen.posed) chosen.posed.shared
  pub distinct : AllPairs (λ x y. x ≢ y) chosen.posed.shared
  pub count : length chosen.posed.shared ≡ length functions.base + length (nets_in chosen.new.items)

-- one more target has a function, which may read the chosen signals too and stands between the two parts
pub record IsExtended (functions : FunctionsValue) (chosen : Chosen) (extended : FunctionsValue) : Type 0 where
  pub more : HasOneMore functions (nets_in chosen.new.items) extended
  pub between : LastIsInterpolant (sides_of chosen.posed) chosen.posed.shared extended
