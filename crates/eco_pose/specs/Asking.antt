-- What the search makes of the clauses of a question.
use Rattle.std.specs.Prelude.{◌≡◌, ℕ}
use Rattle.eco_trace.specs.Resolution.{IsLegal, Proof}
use Rattle.eco_trace.specs.Verdicts.{IsModel, IsRefutedWithin, IsSpent}
use Rattle.eco_trace.specs.declared.refuter.Verdict.{Verdict}
use Rattle.eco_trace.specs.declared.refuter.Verdict.TheVariants.{Sat, Unsat, Spent}
use Rattle.eco_pose.specs.declared.asking.Asked.{Asked}
use Rattle.eco_pose.specs.declared.asking.Asked.TheVariants.{Never, Found}
use Rattle.eco_pose.specs.declared.asking.Searched.{Searched}
use Rattle.eco_pose.specs.declared.asking.Searched.TheVariants.{Answered, GivenUp}
use Rattle.eco_pose.specs.Posing.{PosedValue}

-- these clauses have no model, as a proof shows that ends in the empty clause and learns no more clauses than the limit allows; or
-- this is one
abbrev pub IsReply : PosedValue → ℕ → Asked → Type 0
IsReply posed limit (Never other trace) = (other ≡ posed) × IsRefutedWithin posed.clauses limit trace
IsReply posed limit (Found other model) = (other ≡ posed) × IsModel posed.clauses model

-- so it is; or the search gave up, and the proof from the clauses is legal, has just as many learnt clauses as the limit allows,
-- each of which was news, and none is empty
abbrev pub IsSearched : PosedValue → ℕ → Searched → Type 0
IsSearched posed limit (Answered asked) = IsReply posed limit asked
IsSearched posed limit (GivenUp left) =
    (left.posed ≡ posed) × IsLegal left.trace × IsSpent posed.clauses limit left.trace

-- the search gave up, and this proof is kept, which is legal
abbrev pub IsKept : PosedValue → Proof → Searched → Type 0
IsKept posed trace (Answered asked) = ⊥
IsKept posed trace (GivenUp left) = (left.posed ≡ posed) × (left.trace ≡ trace) × IsLegal trace

-- what the verdict holds is handed on
abbrev pub IsVerdictOn : PosedValue → Verdict → Searched → Type 0
IsVerdictOn posed (Sat model) searched = searched ≡ Answered (Found posed model)
IsVerdictOn posed (Unsat trace) searched = searched ≡ Answered (Never posed trace)
IsVerdictOn posed (Spent trace) searched = IsKept posed trace searched
