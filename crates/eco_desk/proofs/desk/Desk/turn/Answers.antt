-- The desk is turned where memory sufficed.
use Rattle.std.proofs.Common.{◌∷◌, refl, sym, ◌∙◌, ap, subst}
use Rattle.eco_meaning.specs.Patch.{Fits, splice_of}
use Rattle.eco_pose.specs.Boards.{IsLaidOut}
use Rattle.eco_pose.proofs.SideLaws.{target_at}
use Rattle.eco_desk.specs.declared.desk.Desk.{Desk}
use Rattle.eco_desk.proofs.SweptLaws.{all_stay_known, swept_stays}
use Rattle.eco_desk.proofs.DeskLaws.{desk_goes_on, desk_with_turn, turn_at_first}
use Rattle.eco_desk.proofs.desk.Desk.turn.Goals as goal

pub new-requires-clause-fits : goal.new-requires-clause-fits
new-requires-clause-fits c =
    let f = c.args.problem.now.implementation in
    let (before, target, behind, are, len) = target_at f c.args.i c.requires.number in
    (target ∷ behind, subst (λ n. Fits n c.args.patches.now (target ∷ behind)) (sym c.implementation.ensures.value) (c.requires.before before target behind are len).fits)

pub new-requires-clause-laid_out : goal.new-requires-clause-laid_out
new-requires-clause-laid_out c = subst (λ n. IsLaidOut n c.args.self.now.swept.board) (sym c.implementation.ensures.value) c.requires.desk.swept.laid_out

pub returns-in_err-turn-clause-desk : goal.returns-in_err-turn-clause-desk
returns-in_err-turn-clause-desk c =
    let problem = c.args.problem.now in
    let old = c.args.self.now in
    let new : Desk = record old { swept = c.new.new.swept } in
    desk_goes_on problem old new c.requires.desk c.new.ensures.continues (all_stay_known problem.implementation old.swept new.swept old.known.items c.new.ensures.continues) refl

pub returns-clause-desk : goal.returns-clause-desk
returns-clause-desk c =
    let problem = c.args.problem.now in
    let f = problem.implementation in
    let old = c.args.self.now in
    let turn = c.in_ok-turn.turn in
    let new : Desk = record old { swept = c.new.new.swept; turn = c.replace.new.dest } in
    let made = c.in_ok-turn.ensures in
    let same = c.implementation.ensures.value in
    let patches = made.patches in
    desk_with_turn problem old new turn c.requires.desk c.new.ensures.continues refl c.replace.ensures.after
    (turn_at_first f problem.goal new.swept turn (swept_stays f problem.goal old.swept new.swept c.new.ensures.continues c.requires.desk.swept)
    (made.spliced ∙ ap (λ n. splice_of n c.args.patches.now) same ∙ ap (splice_of f) (sym patches))
    (λ later fits. made.left later (subst (λ n. Fits n c.args.patches.now later) (sym same) (subst (λ p. Fits f p later) patches fits))) made.nets made.zeros made.ones)
