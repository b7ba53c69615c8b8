-- What posed clauses are, and how they are read.
use Rattle.std.specs.Prelude.{Bool, List, [], All}
use Rattle.eco_trace.specs.declared.clause.Lit.{Lit}
use Rattle.eco_trace.specs.declared.clause.Var.{Var}
use Rattle.eco_trace.specs.Clauses.{Clauses, IsVarWithin}
use Rattle.eco_trace.specs.Split.{Split}
use Rattle.eco_tseitin.specs.declared.sides.TwoSides.{TwoSides}

-- Clauses that ask a question: a mark for each, which tells its side; the variables that stand on both sides, one for each
-- base signal; and the literals from which a model's inputs and targets are read.
pub record PosedValue : Type 0 where
  pub clauses : Clauses
  pub side : List Bool
  pub shared : List Var
  pub first : List Lit
  pub second : List Lit
  pub targets : List Lit

-- what is read are variables of the clauses
pub record IsReadable (posed : PosedValue) : Type 0 where
  pub first_within : All (IsVarWithin posed.clauses.vars) posed.first
  pub second_within : All (IsVarWithin posed.clauses.vars) posed.second
  pub targets_within : All (IsVarWithin posed.clauses.vars) posed.targets

-- the clauses in two parts, by their sides
abbrev pub sides_of : PosedValue → Split
sides_of posed = record { clauses = posed.clauses.clauses; marks = posed.side }

-- what two joined sides are posed as
abbrev pub posed_of : TwoSides → PosedValue
posed_of sides = record {
  clauses = sides.cnf;
  side = sides.side.items;
  shared = sides.shared.items;
  first = sides.one.items;
  second = sides.other.items;
  targets = [];
}
