-- The splice leaves the later targets, and has the ports of the implementation.
use Rattle.std.proofs.Common.{sym, subst}
use Rattle.eco_meaning.specs.Circuit.{AreTargets}
use Rattle.eco_desk.proofs.DeskLaws.{laid_out_of_splice}
use Rattle.eco_desk.proofs.SweptLaws.{continues_same}
use Rattle.eco_desk.proofs.turned.Turn.new.Goals as goal

pub every_edge-requires-clause-laid_out : goal.every_edge-requires-clause-laid_out
every_edge-requires-clause-laid_out c = laid_out_of_splice c.args.f.now c.args.patches.now c.in_ok-spliced.spliced c.args.swept.now.board c.in_ok-spliced.ensures.spliced c.requires.laid_out

pub returns-in_err-spliced-clause-continues : goal.returns-in_err-spliced-clause-continues
returns-in_err-spliced-clause-continues c = continues_same c.args.swept.now c.requires.merged

pub returns-in-Ok-copy-clause-left : goal.returns-in-Ok-copy-clause-left
returns-in-Ok-copy-clause-left c later fits = subst (λ n. AreTargets n later) (sym c.in_ok-spliced.ensures.spliced) (c.in_ok-spliced.ensures.left later fits)
