use Rattle.eco_choices.proofs.TurnedLemmas.{specification_is_asked, other_outputs_are_wrong}
use Rattle.eco_choices.proofs.single.outputs_are_asked.Goals as goal

pub returns : goal.returns
returns c = record { asked = specification_is_asked; other = other_outputs_are_wrong }
