use Rattle.eco_audit.proofs.Needing.{unfixed_is_forced, fixed_is_unforced, alike_by_maps}
use Rattle.eco_audit.proofs.laws.reached_maps_decide.Goals as goal

pub returns : goal.returns
returns c = record { forced = unfixed_is_forced; unforced = fixed_is_unforced; alike = alike_by_maps }
