-- The cover's inputs exclude the same nets.
use Rattle.std.proofs.Common.{◌<◌, ◌++◌, length, map, subst, sym}
use Rattle.std.specs.List.{All}
use Rattle.eco_lists.proofs.Members.{All-back}
use Rattle.eco_meaning.specs.Circuit.{names}
use Rattle.eco_netlist.specs.Netlists.{AreNets}
use Rattle.eco_locate.specs.Covers.{IsCover}
use Rattle.eco_locate.specs.Judged.{Excludes, excluded_nets}
use Rattle.eco_locate.proofs.CoverLemmas.{covered_judged}
use Rattle.eco_locate.proofs.covering.with_fewer.Goals as goal

pub cover_of-requires : goal.cover_of-requires
cover_of-requires c =
    let f = c.args.change.now.old in
    let wanted = c.args.change.now.goal in
    let located = c.args.located in
    let judged = c.requires.1 in
    let over = map (λ o. o.net) located.over.items in
    record {
      within = subst (λ list. AreNets (names f) (excluded_nets list)) (sym c.as_slice.ensures.value)
          (All-back (λ net. net.0 < length (names f)) over (excluded_nets located.excluding.items)
          (All-back (λ net. net.0 < length (names f)) located.listed.items (over ++ excluded_nets located.excluding.items) judged.all.within));
      excludes = subst (All (Excludes f wanted)) (sym c.as_slice.ensures.value) judged.told.excluded;
    }

pub returns-in-Ok : goal.returns-in-Ok
returns-in-Ok c = λ limit judged.
    let f = c.args.change.now.old in
    let wanted = c.args.change.now.goal in
    covered_judged f wanted limit c.args.located c.covered.result c.in-Ok.cover
    (subst (λ list. IsCover f wanted (excluded_nets list) c.in-Ok.cover) c.as_slice.ensures.value c.in-Ok.ensures) c.covered.ensures judged
