use Rattle.eco_choices.proofs.WithoutLemmas.{without_is_sound, wrong_without, without_is_rectifiable}
use Rattle.eco_choices.proofs.single.gates_are_left_out.Goals as goal

pub returns : goal.returns
returns c = record { sound = without_is_sound; wrong = wrong_without; rectifiable = without_is_rectifiable }
