-- What an engine stands for.
use Rattle.std.specs.Prelude.{◌≡◌, ℕ, Option, Some, None}
use Rattle.eco_meaning.specs.Circuit.{Circuit}
use Rattle.eco_query.specs.Problem.{ProblemValue}
use Rattle.eco_desk.specs.declared.desk.Desk.{Desk}
use Rattle.eco_desk.specs.declared.turned.Turn.{Turn}

-- a target's number, and the patches that drive the targets before it
pub record Turned : Type 0 where
  pub number : ℕ
  pub patches : Circuit

-- the target and the patches of a turn, where there is one
abbrev pub turned_of : Option Turn → Option Turned
turned_of None = None
turned_of (Some turn) = Some (record { number = turn.number; patches = turn.patches })

-- what the desk is turned to
abbrev pub turned_to : Desk → Option Turned
turned_to desk = turned_of desk.turn

-- a problem, how many clauses a question may learn, and the target and patches that are turned to
pub record EngineValue : Type 0 where
  pub problem : ProblemValue
  pub limit : ℕ
  pub turned : Option Turned

-- an engine of the problem with this limit, whatever it is turned to
pub record IsEngineOf (problem : ProblemValue) (limit : ℕ) (engine : EngineValue) : Type 0 where
  pub same_problem : engine.problem ≡ problem
  pub same_limit : engine.limit ≡ limit
