use Rattle.std.proofs.Common.{◌≡◌, ◌<◌, ℕ, Some, sym, ap, ◌∙◌, subst, length, arith}
use Rattle.std.specs.List.{slice_get, Contains}
use Rattle.std.proofs.lemmas.Option.{slice_get_within, get_or_from_slice_get}
use Rattle.eco_lists.proofs.Places.{place_of}
use Rattle.eco_netlist.specs.Numbering.{Chosen}
use Rattle.eco_netlist.proofs.numbering.Numbering.place.Goals as goal

-- where the net stands
stands : (c : goal.After-self) → (place : ℕ) × (slice_get c.self.inside.nets.items place ≡ Some c.args.net) × (slice_get c.self.inside.places.items c.args.net.0 ≡ Some place)
stands c =
    let there = place_of c.self.inside.nets.items c.args.net (subst (λ (n : Chosen). Contains n.nets c.args.net) (sym c.self.view_is) c.requires) in
    (there.0, there.1, c.self.invariant.here there.0 c.args.net there.1)

pub index-requires : goal.index-requires
index-requires c =
    let within : c.args.net.0 < length c.self.inside.places.items = slice_get_within c.self.inside.places.items c.args.net.0 (stands c).0 (stands c).2 in
    omega (arith, within, c.self.inside.places.ok.0)

pub returns : goal.returns
returns c =
    let there = place_of c.self.inside.nets.items c.args.net (subst (λ (n : Chosen). Contains n.nets c.args.net) (sym c.self.view_is) c.requires) in
    let is : c.index.result.now ≡ there.0 =
    c.index.ensures ∙ get_or_from_slice_get c.self.inside.places.items c.args.net.0 there.0 c.index.result.now (c.self.invariant.here there.0 c.args.net there.1) in
    ap (λ (n : Chosen). slice_get n.nets c.index.result.now) (sym c.self.view_is) ∙ ap (slice_get c.self.inside.nets.items) is ∙ there.1
