use Rattle.eco_laws.proofs.Front.{begins, skips, keeps, ends, turns_distinct, working_is_listed}
use Rattle.eco_laws.proofs.choice.front_goes_on.Goals as goal

pub returns : goal.returns
returns c = record { begins = begins; skips = skips; keeps = keeps; ends = ends; distinct = turns_distinct; listed = working_is_listed }
