-- One more name, and at the end all of them.
use Rattle.std.proofs.Common.{◌≤◌, length, map, arith}
use Rattle.std.proofs.lemmas.List.{length-map}
use Rattle.eco_query.specs.declared.TheConstants.{MOST_TARGETS}
use Rattle.eco_inputs.proofs.NetLaws.{all_named, first_more}
use Rattle.eco_inputs.proofs.nets.named_nets.Goals as goal

pub loop-place-preserved : goal.loop-place-preserved
loop-place-preserved c =
    let named = map (λ name. name.now) c.args.named.now in
    let (name, at, is, new) = c.in-Some.ensures in
    first_more c.args.f.now named c.loop-place.place name c.in-Some.net c.loop-place.nets.items c.push.new.self.items c.in_ok-push-in-Some.ensures.items at is new c.loop-place.invariant

pub returns : goal.returns
returns c =
    let named = map (λ name. name.now) c.args.named.now in
    let long = length-map c.args.named.now (λ name. name.now) in
    let whole : length named ≤ c.loop-place.place = omega (arith, long) in
    let few : length named ≤ MOST_TARGETS = omega (arith, long) in
    all_named c.args.f.now named c.loop-place.nets.items c.loop-place.place whole few c.loop-place.invariant
