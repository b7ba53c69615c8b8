-- The turns are in the order of the walk, and what is known doesn't depend on it.
use Rattle.std.proofs.Common.{refl, sym, subst}
use Rattle.std.specs.Global.{Vec}
use Rattle.eco_gates.specs.declared.gate.NetId.{NetId}
use Rattle.eco_base.specs.Scenes.{AtScene, AreTurnsBut}
use Rattle.eco_base.specs.Asking.{names_here}
use Rattle.eco_base.specs.Stages.{with_columns}
use Rattle.eco_base.proofs.WalkLaws.{forcing_known, known_forcing}
use Rattle.eco_base.proofs.walking.walk_on.Goals as goal

pub walk_at-walked-requires-clause-order : goal.walk_at-walked-requires-clause-order
walk_at-walked-requires-clause-order g c =
    let stage = c.args.stage.now in
    subst (λ (columns : Vec NetId). AtScene (with_columns stage columns) (AreTurnsBut (names_here stage c.args.walk.last.now))) (sym c.replace-usual.ensures.after) c.in_ok-columns.ensures.order

pub walk_at-walked-requires-clause-known : goal.walk_at-walked-requires-clause-known
walk_at-walked-requires-clause-known g c =
    let stage = c.args.stage.now in
    known_forcing (with_columns stage c.replace-usual.new.dest) stage.problem.now stage.number stage.patches c.args.known.now refl refl refl c.requires.known

pub returns-clause-known : goal.returns-clause-known
returns-clause-known g c =
    let stage = c.args.stage.now in
    forcing_known (with_columns stage c.replace-usual.new.dest) stage.problem.now stage.number stage.patches c.walk_at-walked.new.known refl refl refl c.walk_at-walked.ensures.known
