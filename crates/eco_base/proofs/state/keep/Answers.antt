-- The front goes on.
use Rattle.std.proofs.Common.{◌≡◌, ◌+◌, Some, get_or, refl, sym, ◌∙◌, ap, arith}
use Rattle.std.specs.List.{slice_get}
use Rattle.std.proofs.lemmas.Option.{slice_get-get_or}
use Rattle.eco_lists.proofs.Places.{any_default}
use Rattle.eco_base.specs.declared.state.State.{State}
use Rattle.eco_base.specs.declared.based.Based.{Based}
use Rattle.eco_base.proofs.StateLaws.{keep_goes_on}
use Rattle.eco_base.proofs.state.keep.Goals as goal

pub returns-clause-goes_on : goal.returns-clause-goes_on
returns-clause-goes_on c =
    let stage = c.args.stage.now in
    let old = c.args.state.now in
    let kept = c.args.kept in
    let new : State = record { kept = c.push.new.self; fixed = c.push-2.new.self; from = kept.column + 1; ones = old.ones; zeros = old.zeros; rests = old.rests } in
    let based : Based = record { net = c.index-net.result.now; one = c.in_ok-one.one; zero = c.in_ok-zero.zero } in
    let one_at : slice_get old.ones.inputs kept.one ≡ Some based.one =
    slice_get-get_or old.ones.inputs kept.one c.index-inputs-kept.result (omega (arith, c.requires.next.one_in, c.requires.state.ones.count))
    ∙ ap Some (ap (λ list. get_or list kept.one c.index-inputs-kept.result) (sym c.inputs.ensures) ∙ sym c.index-inputs-kept.is ∙ sym c.in_ok-one.ensures.same) in
    let zero_at : slice_get old.zeros.inputs kept.zero ≡ Some based.zero =
    slice_get-get_or old.zeros.inputs kept.zero c.index-inputs-kept-2.result (omega (arith, c.requires.next.zero_in, c.requires.state.zeros.count))
    ∙ ap Some (ap (λ list. get_or list kept.zero c.index-inputs-kept-2.result) (sym c.inputs-2.ensures) ∙ sym c.index-inputs-kept-2.is ∙ sym c.in_ok-zero.ensures.same) in
    keep_goes_on stage old new kept based c.requires.stage c.requires.state c.requires.next c.requires.enough
    c.in_ok-push.ensures.items c.in_ok-push-2.ensures.items refl refl refl refl
    (c.index-net.ensures ∙ any_default stage.columns.items kept.column c.index-net.result.now (record { 0 = 0 }) c.requires.next.within) one_at zero_at
