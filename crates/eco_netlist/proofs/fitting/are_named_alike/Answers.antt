use Rattle.std.proofs.Common.{◌∙◌, sym, ap, arith, refl}
use Rattle.std.proofs.lemmas.Bool.{false≢true, both_ways}
use Rattle.eco_meaning.specs.Circuit.{names}
use Rattle.eco_netlist.specs.Netlists.{name_at}
use Rattle.eco_netlist.proofs.NetNames.{named_place, names_at_more}
use Rattle.eco_netlist.proofs.fitting.are_named_alike.Goals as goal

pub returns-then-not-is_same_name : goal.returns-then-not-is_same_name
returns-then-not-is_same_name c = (
  λ holds. absurd (false≢true holds),
  λ e.
      let place = c.loop-place.place in
      let left = named_place (names c.args.f.now) c.args.nets.now place _ c.name_of.result.now (omega arith) c.name_of.ensures in
      let right = named_place (names c.args.p.now) c.args.others.now place _ c.name_of-in-loop-place.result.now (omega arith) c.name_of-in-loop-place.ensures in
      absurd (both_ways c.is_same_name.result c.if-not-is_same_name.true
      (c.is_same_name.ensures.1 (sym left ∙ ap (λ l. name_at l place) e ∙ right))),
)

pub loop-place-preserved : goal.loop-place-preserved
loop-place-preserved c =
    let place = c.loop-place.place in
    let left = names_at_more (names c.args.f.now) c.args.nets.now place _ c.name_of.result.now (omega arith) c.name_of.ensures in
    let right = names_at_more (names c.args.p.now) c.args.others.now place _ c.name_of-in-loop-place.result.now (omega arith) c.name_of-in-loop-place.ensures in
    let same = c.is_same_name.ensures.0 c.if-not-is_same_name.false in
    rw (left, right, same, c.loop-place.invariant) refl
