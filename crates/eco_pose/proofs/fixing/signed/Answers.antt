-- No edge at first, and one more.
use Rattle.std.proofs.Common.{◌≡◌, suc, ◌+◌, false, [], ◌∷◌, ◌++◌, take, get_or, arith, sym, ◌∙◌, ap}
use Rattle.std.proofs.lemmas.Option.{slice_get-get_or}
use Rattle.eco_aig.specs.Edges.{plain}
use Rattle.eco_pose.specs.Boards.{signed}
use Rattle.eco_pose.proofs.FixLaws.{signed_none, signed_more}
use Rattle.eco_pose.proofs.fixing.signed.Goals as goal

pub loop-place-init : goal.loop-place-init
loop-place-init c = c.in_ok-made.ensures.items ∙ sym (signed_none c.args.edges.now c.args.bits.now)

pub loop-place-preserved : goal.loop-place-preserved
loop-place-preserved c =
    let edges = c.args.edges.now in
    let bits = c.args.bits.now in
    let k = c.loop-place.place in
    let next : suc k ≡ k + 1 = omega arith in
    let more = signed_more edges bits k (get_or edges k (plain 0)) (get_or bits k false) (slice_get-get_or edges k (plain 0) (omega arith)) (slice_get-get_or bits k false (omega arith)) in
    c.in_ok-push.ensures.items ∙ ap (λ list. list ++ c.with_sign.result ∷ []) c.loop-place.invariant
    ∙ ap (λ e. signed edges (take k bits) ++ e ∷ []) c.with_sign.ensures ∙ sym more ∙ ap (λ m. signed edges (take m bits)) next
