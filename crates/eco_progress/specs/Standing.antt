-- A target that is turned to where the functions so far leave off.
use Rattle.std.specs.Prelude.{◌≡◌, [], length}
use Rattle.eco_base.specs.Targets.{TargetValue}
use Rattle.eco_find.specs.declared.ways.Way.{Way}
use Rattle.eco_progress.specs.declared.progress.Progress.{Progress}
use Rattle.eco_progress.specs.Progress.{IsProgress}
use Rattle.eco_progress.specs.ByWay.{IsProgressBy}

-- it is the one that comes next, where the patch drives those before it and the signals of their functions are paid
abbrev pub StandsAt : Progress → TargetValue → Type 0
StandsAt progress t =
    t ≡ record {
      problem = t.problem;
      limit = t.limit;
      number = length progress.groups.items;
      patches = progress.patch;
      paid = progress.functions.base;
    }

-- no target has a function, and it is the first one
pub record IsBegun (t : TargetValue) (begun : Progress) : Type 0 where
  pub progress : IsProgress t.problem begun
  pub none : begun.groups.items ≡ []
  pub by : (way : Way) → IsProgressBy way t.problem begun
  pub stands : StandsAt begun t
