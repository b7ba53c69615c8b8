use Rattle.eco_choices.proofs.TurnedLemmas.{turned_is_wrong_but, unmended_is_wrong_but, turned_maps_agree}
use Rattle.eco_choices.proofs.single.turned_nets_tell.Goals as goal

pub returns : goal.returns
returns c = record { wrong = turned_is_wrong_but; unmended = unmended_is_wrong_but; agree = turned_maps_agree }
