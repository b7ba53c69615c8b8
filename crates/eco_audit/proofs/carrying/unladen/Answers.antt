-- One carrier more.
use Rattle.std.proofs.Common.{[], ◌∷◌, ◌++◌, map, take, sym, ◌∙◌, ap, subst}
use Rattle.std.specs.List.{All}
use Rattle.std.proofs.lemmas.List.{map-append, take_more}
use Rattle.std.proofs.lemmas.List.Elements.{All-push}
use Rattle.eco_gates.specs.declared.gate.NetId.{NetId}
use Rattle.eco_audit.specs.declared.carrying.Carrier.{Carrier}
use Rattle.eco_audit.specs.Carriers.{IsUnladen}
use Rattle.eco_audit.proofs.carrying.unladen.Goals as goal

pub loop-net-preserved : goal.loop-net-preserved
loop-net-preserved c =
    let nets = c.args.nets.now in
    let i = c.loop-net.net-index in
    let old = c.loop-net.carriers.items in
    let carrier = c.carrier_of.result in
    let pushed = c.in_ok-push.ensures.items in
    record {
      nets_of = ap (map (λ (c : Carrier). c.net)) pushed ∙ map-append (λ (c : Carrier). c.net) old (carrier ∷ [])
          ∙ ap (λ l. l ++ carrier.net ∷ []) c.loop-net.invariant.nets_of ∙ ap (λ (n : NetId). take i nets ++ n ∷ []) c.carrier_of.ensures.net
          ∙ sym (take_more nets i _ c.loop-net-test.true);
      unladen = subst (All (IsUnladen c.args.problem.now)) (sym pushed)
          (All-push (IsUnladen c.args.problem.now) old carrier c.loop-net.invariant.unladen c.carrier_of.ensures.unladen);
    }
