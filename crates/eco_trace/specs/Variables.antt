-- Sets of variables.
use Rattle.std.specs.Prelude.{Bool, nat_eq}
use Rattle.std.specs.HashSet.{contains}
use Rattle.eco_trace.specs.declared.clause.Var.{Var}
use Rattle.eco_trace.specs.declared.variables.Variables.{Variables}

-- whether the set holds the variable
abbrev pub holds : Variables → Var → Bool
holds set x = contains nat_eq set.numbers x.0
