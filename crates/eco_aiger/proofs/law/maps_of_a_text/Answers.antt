use Rattle.eco_aiger.proofs.MapLaws.{maps_of_text}
use Rattle.eco_aiger.proofs.law.maps_of_a_text.Goals as goal

pub returns : goal.returns
returns c = maps_of_text
