use Rattle.std.proofs.Common.{◌<◌, List, length, sym, subst, arith}
use Rattle.std.specs.Prelude.{Contains}
use Rattle.std.proofs.lemmas.List.Elements.{All-push}
use Rattle.std.proofs.lemmas.Option.{slice_get_within}
use Rattle.eco_gates.specs.declared.gate.NetId.{NetId}
use Rattle.eco_netlist.specs.Netlists.{AreNets}
use Rattle.eco_netlist.proofs.SplicedParts.{places_more}
use Rattle.eco_netlist.proofs.splicing.places_in.Goals as goal

pub place_of-requires : goal.place_of-requires
place_of-requires c =
    let lt = c.loop-name-test.true in
    subst (Contains c.args.names.now.keys) (sym c.name-item.is) (c.requires c.loop-name.name-index c.name-item.result lt)

pub loop-name-preserved : goal.loop-name-preserved
loop-name-preserved c =
    let keys = c.args.names.now.keys in
    let so_far = c.loop-name.invariant in
    let push = c.in_ok-push.ensures.items in record {
      named = places_more keys c.args.list.now c.loop-name.places.items c.push.new.self.items c.loop-name.name-index c.name-item.result c.place_of.result
          (omega arith) c.name-item.is c.place_of.ensures so_far.named push;
      within = subst (λ (l : List NetId). AreNets keys l) (sym push)
          (All-push (λ (net : NetId). net.0 < length keys) c.loop-name.places.items c.place_of.result so_far.within (slice_get_within keys c.place_of.result.0 c.name-item.result c.place_of.ensures));
    }
