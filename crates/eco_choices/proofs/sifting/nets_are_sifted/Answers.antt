use Rattle.eco_choices.proofs.SiftingLemmas.{sifting_begins, sifting_by_input, sifting_by_choice, sifting_ends}
use Rattle.eco_choices.proofs.sifting.nets_are_sifted.Goals as goal

pub returns : goal.returns
returns c = record { begins = sifting_begins; input = sifting_by_input; choice = sifting_by_choice; ends = sifting_ends }
