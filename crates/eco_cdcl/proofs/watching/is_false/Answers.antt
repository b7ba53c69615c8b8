-- A literal that is true isn't false.
use Rattle.std.proofs.lemmas.Bool.{false≢true}
use Rattle.eco_cdcl.proofs.Truths.{one_sided}
use Rattle.eco_cdcl.proofs.watching.is_false.Goals as goal

pub returns-in-True : goal.returns-in-True
returns-in-True c = (λ e. absurd (false≢true e), λ m. absurd (one_sided c.args.trail.now c.is_sound.ensures.sound c.args.lit c.in-True.ensures m))
