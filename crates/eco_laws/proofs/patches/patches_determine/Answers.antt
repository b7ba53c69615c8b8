use Rattle.eco_laws.proofs.OneValue.{reached_maps_agree}
use Rattle.eco_laws.proofs.Reaching.{maps_are_reached}
use Rattle.eco_laws.proofs.patches.patches_determine.Goals as goal

pub returns : goal.returns
returns c = record { agree = reached_maps_agree; reached = maps_are_reached }
