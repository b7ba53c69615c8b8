-- One more line, and at the end all of them.
use Rattle.std.proofs.Common.{◌≤◌, length, arith}
use Rattle.eco_cli.proofs.ChoiceTexts.{needs_end, needs_step}
use Rattle.eco_cli.proofs.choice.add_needs.Goals as goal

pub loop-place-preserved : goal.loop-place-preserved
loop-place-preserved c =
    needs_step c.args.text.now.items c.loop-place.text.items c.add_need.new.text.items c.args.named.now c.args.needs.now c.loop-place.place _ c.index-needs-place.result (omega (arith, c.requires)) (omega arith) c.index-needs-place.is c.loop-place.invariant
    c.in_ok-add_need.ensures

pub returns : goal.returns
returns c =
    let whole : length c.args.needs.now ≤ c.loop-place.place = omega arith in
    needs_end c.args.text.now.items c.loop-place.text.items c.args.named.now c.args.needs.now c.loop-place.place whole c.requires c.loop-place.invariant
