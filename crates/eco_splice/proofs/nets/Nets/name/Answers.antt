use Rattle.std.proofs.Common.{◌≡◌, ℕ, [], get_or, sym, ◌∙◌, ap, arith}
use Rattle.std.proofs.lemmas.Option.{slice_get_within}
use Rattle.eco_lists.proofs.Places.{place_of, any_default}
use Rattle.eco_splice.proofs.GraphNets.{IsOnce, net_at}
use Rattle.eco_splice.proofs.nets.Nets.name.Goals as goal

pub returns : goal.returns
returns c =
    let edges = c.args.self.now.edges.items in
    let nets = c.args.self.now.names.items in
    let places = c.requires.netted.places in
    let once : IsOnce edges = λ i j e at_i at_j. sym (places i e at_i) ∙ places j e at_j in
    let at = place_of edges c.args.edge c.requires.listed in
    let place : c.place-place.result ≡ at.0 = c.place-place.ensures ∙ places at.0 c.args.edge at.1 in
    let within = slice_get_within edges at.0 c.args.edge at.1 in
    let count = c.requires.netted.count in
    let here : c.index.result.now ≡ get_or nets c.place-place.result [] = c.index.ensures ∙ any_default nets c.place-place.result c.index.result.now [] (omega (arith, place, within, count)) in
    c.in_ok-name.ensures.same ∙ here ∙ ap (λ (i : ℕ). get_or nets i []) place ∙ sym (net_at edges nets at.0 c.args.edge once at.1)
