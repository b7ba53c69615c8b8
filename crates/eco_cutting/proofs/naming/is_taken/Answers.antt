use Rattle.std.proofs.Common.{◌∙◌}
use Rattle.eco_cutting.proofs.NewNameLemmas.{found_taken}
use Rattle.eco_cutting.proofs.naming.is_taken.Goals as goal

pub returns : goal.returns
returns c = c.is_some.ensures ∙ found_taken c.args.f.now c.args.name.now c.net_of.result c.net_of.ensures
