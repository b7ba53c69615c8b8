-- Whether an implementation can be rectified.
use Rattle.eco_meaning.specs.Meaning.{IsRectifiable, IsWrong}
use Rattle.eco_query.specs.Problem.{ProblemValue}
use Rattle.eco_rectify.specs.declared.listing.Answer.{Answer}
use Rattle.eco_rectify.specs.declared.listing.Answer.TheVariants.{Rectifiable, Wrong}

-- the answer is true: at each input some values of the targets are right; or at this one none are
abbrev pub IsRectifyAnswer : ProblemValue → Answer → Type 0
IsRectifyAnswer problem Rectifiable = IsRectifiable problem.implementation problem.goal
IsRectifyAnswer problem (Wrong input) = IsWrong problem.implementation problem.goal input
