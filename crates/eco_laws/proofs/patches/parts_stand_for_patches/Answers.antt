use Rattle.eco_laws.proofs.Shares.{parts_leave_the_same, parts_of_parts, choices_stand}
use Rattle.eco_laws.proofs.Values.{same_functions_are_parts}
use Rattle.eco_laws.proofs.patches.parts_stand_for_patches.Goals as goal

pub returns : goal.returns
returns c = record { same = parts_leave_the_same; parts = parts_of_parts; functions = same_functions_are_parts; stands = choices_stand }
