-- What the answers of the check say.
use Rattle.std.specs.Prelude.{◌≡◌, ℕ, ◌+◌, List, take, slice_get, Some}
use Rattle.eco_trace.specs.declared.clause.Lit.{Lit}
use Rattle.eco_trace.specs.Clauses.{IsUnsatisfiable}
use Rattle.eco_trace.specs.Resolution.{Proof, clauses_of, EndsEmpty}
use Rattle.eco_check.specs.declared.error.CheckError.{CheckError}
use Rattle.eco_check.specs.declared.error.CheckError.TheVariants.{BadStep, NoEmptyClause, OutOfMemory}
use Rattle.eco_check.specs.Steps.{StepValue, IsLegalStep, TakesSteps}

-- the steps are a proof that the clauses have no model
pub record IsProved (clauses : List (List Lit)) (steps : List StepValue) (p : Proof) : Type 0 where
  pub taken : TakesSteps clauses steps p
  pub ends : EndsEmpty p
  pub no_model : IsUnsatisfiable clauses

-- the step with this number, from 1 on, is the first that isn't legal
pub record IsFirstBad (clauses : List (List Lit)) (steps : List StepValue) (number : ℕ) : Type 0 where
  pub before : ℕ
  pub step : StepValue
  pub proof : Proof
  pub place : number ≡ before + 1
  pub step_at : slice_get steps before ≡ Some step
  pub taken : TakesSteps clauses (take before steps) proof
  pub illegal : IsLegalStep (clauses_of proof) step → ⊥

-- all steps are legal, and the last clause isn't empty
pub record IsUnfinished (clauses : List (List Lit)) (steps : List StepValue) : Type 0 where
  pub proof : Proof
  pub taken : TakesSteps clauses steps proof
  pub unfinished : EndsEmpty proof → ⊥

-- the cause of an error; want of memory needs none
abbrev pub IsCause : List (List Lit) → List StepValue → CheckError → Type 0
IsCause clauses steps (BadStep number) = IsFirstBad clauses steps number
IsCause clauses steps NoEmptyClause = IsUnfinished clauses steps
IsCause clauses steps OutOfMemory = Unit {0}
