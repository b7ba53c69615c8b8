use Rattle.eco_query.proofs.problem.examine_care.Goals as goal

pub returns-in-Some : goal.returns-in-Some
returns-in-Some c = rw c.in-Some.is c.examine_cared.ensures
