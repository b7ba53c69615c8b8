use Rattle.eco_laws.proofs.Sources.{by_sources, by_targets}
use Rattle.eco_laws.proofs.nets.nets_depend_on_what_lies_before.Goals as goal

pub returns : goal.returns
returns c = record { sources = by_sources; targets = by_targets }
