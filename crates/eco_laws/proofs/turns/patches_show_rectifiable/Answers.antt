use Rattle.eco_laws.proofs.Keeping.{patches_show_rectifiable}
use Rattle.eco_laws.proofs.turns.patches_show_rectifiable.Goals as goal

pub returns : goal.returns
returns c = patches_show_rectifiable
