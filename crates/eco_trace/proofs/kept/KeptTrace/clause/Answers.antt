use Rattle.eco_lists.proofs.Places.{All_at}
use Rattle.eco_trace.specs.Clauses.{IsClause}
use Rattle.eco_trace.proofs.kept.KeptTrace.clause.Goals as goal

pub returns-clause-formed : goal.returns-clause-formed
returns-clause-formed c = All_at IsClause _ _ _ c.is_sound.ensures.formed c.at.ensures
