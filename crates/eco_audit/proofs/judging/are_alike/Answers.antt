-- All were alike.
use Rattle.std.proofs.Common.{Bor, refl, subst}
use Rattle.std.specs.List.{All}
use Rattle.std.proofs.lemmas.List.{take_all}
use Rattle.eco_meaning.specs.Circuit.{names}
use Rattle.eco_meaning.specs.Report.{BaseSignal}
use Rattle.eco_netlist.specs.Netlists.{bit_of}
use Rattle.eco_audit.specs.Judging.{AgreeUnless}
use Rattle.eco_audit.proofs.Alike.{others_agree}
use Rattle.eco_audit.proofs.judging.are_alike.Goals as goal

pub returns : goal.returns
returns c =
    let v = bit_of (names c.args.out.now) c.args.ones.now in
    let u = bit_of (names c.args.out.now) c.args.zeros.now in
    let all = subst (All (λ (b : Bor BaseSignal). AgreeUnless c.args.name.now v u b.now.signal)) (take_all c.loop-reported.reported-index c.args.base.now c.loop-reported-test.false) c.loop-reported.invariant in
    (λ holds. others_agree (λ (b : Bor BaseSignal). b.now.signal) c.args.base.now c.args.name.now v u all, λ agree. refl)
