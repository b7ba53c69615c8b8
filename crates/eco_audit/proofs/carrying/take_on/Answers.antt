-- The values at the part's two inputs tell which carriers tell it apart.
use Rattle.std.proofs.Common.{subst, sym}
use Rattle.eco_meaning.specs.Bound.{Part}
use Rattle.eco_audit.specs.Carriers.{PaysAll}
use Rattle.eco_audit.specs.Judging.{AreBitsOf, AreFilled}
use Rattle.eco_audit.proofs.Carriers.{nets_within, taken_on}
use Rattle.eco_audit.proofs.carrying.take_on.Goals as goal

pub pay-requires-clause-ones : goal.pay-requires-clause-ones
pay-requires-clause-ones c =
    let s = c.args.solution.now in
    nets_within s c.as_slice.result.now c.args.carriers.now.items c.requires.judged (subst (AreBitsOf s.out.now) (sym c.as_slice.ensures.value) c.in_ok-ones.ensures.valued) c.requires.nets

pub pay-requires-clause-zeros : goal.pay-requires-clause-zeros
pay-requires-clause-zeros c =
    let s = c.args.solution.now in
    nets_within s c.as_slice-2.result.now c.args.carriers.now.items c.requires.judged (subst (AreBitsOf s.out.now) (sym c.as_slice-2.ensures.value) c.in_ok-zeros.ensures.valued) c.requires.nets

pub returns : goal.returns
returns c =
    let s = c.args.solution.now in
    let part = c.args.part.now in
    let ones = c.as_slice.result.now in
    let zeros = c.as_slice-2.result.now in
    let old = c.args.carriers.now.items in
    let new = c.pay.new.carriers.items in
    let first = subst (AreFilled s part.force1) (sym c.as_slice.ensures.value) (subst (λ (q : Part). AreFilled s q.force1 c.in_ok-ones.ones.items) c.part.view_is c.in_ok-ones.ensures) in
    let second = subst (AreFilled s part.force0) (sym c.as_slice-2.ensures.value) (subst (λ (q : Part). AreFilled s q.force0 c.in_ok-zeros.zeros.items) c.part.view_is c.in_ok-zeros.ensures) in
    taken_on s c.requires.judged part ones zeros first second old new c.pay.result
    (subst (λ (q : Part). PaysAll ones zeros q.amount old new c.pay.result) c.part.view_is c.pay.ensures)
