-- One more number, and no number left.
use Rattle.std.proofs.Common.{arith}
use Rattle.eco_cutting.proofs.NewNameLemmas.{named_more, named_few}
use Rattle.eco_cutting.proofs.naming.named_cuts.Goals as goal

pub loop-number-preserved : goal.loop-number-preserved
loop-number-preserved c =
    named_more c.args.f.now c.args.nets.now c.args.prefix.now c.loop-number.number c.loop-number.cuts.items c.add_cut.new.cuts.items c.len.result c.in-Some.net.now c.name_of.result.now
    (omega (arith, c.len.ensures, c.loop-number.cuts.ok.0)) c.in-Some.ensures.lookup.3.0 c.in-Some.ensures.lookup.1 c.name_of.ensures c.loop-number.invariant c.in_ok-add_cut.ensures

pub returns-then-len-nets-clause-err : goal.returns-then-len-nets-clause-err
returns-then-len-nets-clause-err c = λ _.
    named_few c.args.f.now c.args.nets.now c.args.prefix.now c.loop-number.number c.loop-number.cuts.items (omega (arith, c.loop-number-test.false)) c.loop-number.invariant
    (omega (arith, c.len-2.ensures, c.if-len-nets.true))
