use Rattle.std.proofs.Common.{◌≡◌, ℕ, List, [], refl, sym, subst, get_or}
use Rattle.std.specs.List.{Contains}
use Rattle.std.proofs.lemmas.Bool.{lt-ltb, ltb-true}
use Rattle.std.proofs.lemmas.Option.{get_or_from_slice_get}
use Rattle.eco_meaning.specs.Circuit.{names}
use Rattle.eco_netlist.specs.Netlists.{name_at}
use Rattle.eco_netlist.specs.Misfits.{IsUnfit}
use Rattle.eco_netlist.proofs.MisfitLemmas.{unfit_by_places, unfit_outside}
use Rattle.eco_netlist.proofs.fitting.is_unfit.Goals as goal

pub returns-in-Some : goal.returns-in-Some
returns-in-Some c =
    let f = c.args.f.now in
    let p = c.args.p.now in
    let source = c.in-Some.source.0 in
    let place = c.args.net.0 in
    let named : name_at (names p) place ≡ c.name_of.result.now = get_or_from_slice_get (names p) place c.name_of.result.now [] c.name_of.ensures in
    let input = subst (λ (x : List ℕ). Contains p.inputs x) named c.requires.input in
    let says = unfit_by_places f p c.args.lasts.now c.args.firsts.now source place c.name_of.result.now c.requires.drives c.requires.checked_patch c.requires.lasts c.requires.firsts c.in-Some.ensures c.name_of.ensures input in (
      λ holds. subst (λ (x : List ℕ). IsUnfit f p x) (sym named) (says.0 (ltb-true (get_or c.args.firsts.now place 0) (get_or c.args.lasts.now source 0) holds)),
      λ unfit. lt-ltb (get_or c.args.firsts.now place 0) (get_or c.args.lasts.now source 0) (says.1 (subst (λ (x : List ℕ). IsUnfit f p x) named unfit)),
    )

pub returns-in-None : goal.returns-in-None
returns-in-None c =
    let p = c.args.p.now in
    let named : name_at (names p) c.args.net.0 ≡ c.name_of.result.now = get_or_from_slice_get (names p) c.args.net.0 c.name_of.result.now [] c.name_of.ensures in (
      λ holds. subst (λ (x : List ℕ). IsUnfit c.args.f.now p x) (sym named) (unfit_outside c.args.f.now p c.name_of.result.now c.requires.checked c.in-None.ensures),
      λ unfit. refl,
    )
