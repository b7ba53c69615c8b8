use Rattle.eco_choices.proofs.ChoiceLemmas.{wrong_but_none, wrong_but_part}
use Rattle.eco_choices.proofs.single.choices_have_parts.Goals as goal

pub returns : goal.returns
returns c = record { none = wrong_but_none; part = wrong_but_part }
