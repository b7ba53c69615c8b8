-- Whether two netlists are equal.
use Rattle.std.specs.Prelude.{◌≡◌, ℕ, ◌+◌, ◌*◌, ◌≤◌, None}
use Rattle.eco_meaning.specs.Circuit.{Circuit}
use Rattle.eco_meaning.specs.Meaning.{everywhere, IsEquivalent, IsWrong}
use Rattle.eco_trace.specs.Resolution.{IsLegal}
use Rattle.eco_trace.specs.Verdicts.{IsRefutedWithin, IsSpent}
use Rattle.eco_equality.specs.Equality.{equality_of, size}
use Rattle.eco_pose.specs.declared.unfinished.Stuck.{Stuck}
use Rattle.eco_pose.specs.declared.unfinished.Unfinished.{Unfinished}
use Rattle.eco_pose.specs.declared.unfinished.Unfinished.TheVariants.{GivenUp, OutOfMemory}
use Rattle.eco_pose.specs.declared.question.Question.TheVariants as question
use Rattle.eco_pose.specs.Posing.{PosedValue}
use Rattle.eco_pose.specs.Answers.{AsksFor}
use Rattle.eco_pose.specs.declared.comparing.Equality.{Equality}
use Rattle.eco_pose.specs.declared.comparing.Equality.TheVariants.{Equal, Differs}

-- the clauses, in their fixed form, ask for an input on which the two netlists differ in an output
pub record IsPosedEqual (left right : Circuit) (posed : PosedValue) : Type 0 where
  pub asks : AsksFor (IsWrong left (everywhere right)) posed.first posed.clauses.clauses
  pub exactly : posed.clauses ≡ equality_of left right
  pub few : posed.clauses.vars ≤ 2 * (1 + size left + size right)

-- the search gave up on this question: the proof from its clauses is legal, has just as many learnt clauses as the limit
-- allows, each of which was news, and none is empty
pub record IsComparisonStuck (left right : Circuit) (limit : ℕ) (stuck : Stuck) : Type 0 where
  pub question : stuck.question ≡ question.Equal left right None
  pub posed : IsPosedEqual left right stuck.posed
  pub legal : IsLegal stuck.trace
  pub spent : IsSpent stuck.posed.clauses limit stuck.trace

-- there is no answer because this question was given up, or for want of memory
abbrev pub IsComparisonUnfinished : Circuit → Circuit → ℕ → Unfinished → Type 0
IsComparisonUnfinished left right limit (GivenUp stuck) = IsComparisonStuck left right limit stuck.value
IsComparisonUnfinished left right limit OutOfMemory = Unit {0}

-- they have the same outputs on every input, as a proof shows that ends in the empty clause and learns no more clauses than the
-- limit allows; or on this input they differ
abbrev pub IsEquality : Circuit → Circuit → ℕ → Equality → Type 0
IsEquality left right limit (Equal posed trace) =
    IsPosedEqual left right posed × IsRefutedWithin posed.clauses limit trace × IsEquivalent left (everywhere right)
IsEquality left right limit (Differs input) = IsWrong left (everywhere right) input
