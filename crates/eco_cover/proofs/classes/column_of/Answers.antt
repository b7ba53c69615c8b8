-- The zeros are rows too.
use Rattle.std.proofs.Common.{Bool, List, ◌<◌, length}
use Rattle.eco_cover.proofs.Alike.{zeros_have}
use Rattle.eco_cover.proofs.classes.column_of.Goals as goal

pub push_column-requires-2 : goal.push_column-requires-2
push_column-requires-2 c = zeros_have (λ (row : List Bool). c.args.column < length row) c.args.ones.now c.args.zeros.now c.requires
