use Rattle.eco_pose.proofs.Equivalence.{none_wrong_is_equivalent, equivalent_has_none_wrong}
use Rattle.eco_pose.proofs.laws.equivalent_where_nothing_is_wrong.Goals as goal

pub returns : goal.returns
returns c = record { equivalent = none_wrong_is_equivalent; none_wrong = equivalent_has_none_wrong }
