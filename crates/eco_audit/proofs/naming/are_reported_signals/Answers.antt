-- A name that differs shows that the lists do; one that doesn't is one more.
use Rattle.std.proofs.Common.{Bor, map, ◌∷◌, [], ◌++◌, take, sym, ◌∙◌, ap, arith}
use Rattle.std.proofs.lemmas.Bool.{false≢true, both_ways}
use Rattle.eco_meaning.specs.Circuit.{names}
use Rattle.eco_meaning.specs.Report.{BaseSignal}
use Rattle.eco_netlist.specs.Netlists.{name_at}
use Rattle.eco_netlist.proofs.NetNames.{named_place, names_at_more}
use Rattle.eco_audit.proofs.Lists.{named_at, one_more}
use Rattle.eco_audit.proofs.naming.are_reported_signals.Goals as goal

pub returns-then-not-is_same_name : goal.returns-then-not-is_same_name
returns-then-not-is_same_name c = (
  λ holds. absurd (false≢true holds),
  λ e.
      let place = c.loop-place.place in
      let left = named_place (names c.args.n.now) c.args.nets.now place _ c.name_of.result.now (omega arith) c.name_of.ensures in
      let right = named_at (λ (b : Bor BaseSignal). b.now.signal) c.args.base.now place _ c.index-base-place.result c.index-base-place.is (omega arith) in
      absurd (both_ways c.is_same_name.result c.if-not-is_same_name.true
      (c.is_same_name.ensures.1 (sym left ∙ ap (λ l. name_at l place) e ∙ right ∙ ap (λ (b : BaseSignal). b.signal) (sym c.reported.view_is)))),
)

pub loop-place-preserved : goal.loop-place-preserved
loop-place-preserved c =
    let place = c.loop-place.place in
    let base = c.args.base.now in
    let left = names_at_more (names c.args.n.now) c.args.nets.now place _ c.name_of.result.now (omega arith) c.name_of.ensures in
    let right = one_more (λ (b : Bor BaseSignal). b.now.signal) base place _ c.index-base-place.result c.index-base-place.is (omega arith) in
    left ∙ ap (λ l. l ++ c.name_of.result.now ∷ []) c.loop-place.invariant
    ∙ ap (λ n. map (λ (b : Bor BaseSignal). b.now.signal) (take place base) ++ n ∷ []) (c.is_same_name.ensures.0 c.if-not-is_same_name.false ∙ ap (λ (b : BaseSignal). b.signal) c.reported.view_is)
    ∙ sym right
