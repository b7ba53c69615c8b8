-- One more cut that isn't of the name, and at the end none is.
use Rattle.std.proofs.Common.{◌≤◌, map, length, sym, ◌∙◌, ap, subst, arith}
use Rattle.std.specs.List.{Contains}
use Rattle.std.specs.Str.{bytes_eq}
use Rattle.std.proofs.lemmas.Bool.{false≢true}
use Rattle.std.proofs.lemmas.List.{take_all}
use Rattle.eco_lists.proofs.Names.{bytes_eq-same}
use Rattle.eco_cutting.proofs.CutNames.{net_of, not_more}
use Rattle.eco_cutting.proofs.cutting.cut_of_net.Goals as goal

pub loop-cut-preserved : goal.loop-cut-preserved
loop-cut-preserved c =
    let name = c.args.name.now in
    not_more c.args.cuts.now c.loop-cut.cut-index c.cut-item.result name (omega arith)
    (λ e. false≢true (sym c.if-eq.false ∙ c.eq.ensures ∙ ap (λ n. bytes_eq n name) (ap net_of c.cut.view_is ∙ ap net_of c.cut-item.is ∙ e) ∙ bytes_eq-same name))
    c.loop-cut.invariant

pub returns : goal.returns
returns c = λ h.
    let all : length c.args.cuts.now ≤ c.loop-cut.cut-index = omega arith in
    c.loop-cut.invariant (subst (λ list. Contains (map net_of list) c.args.name.now) (sym (take_all c.loop-cut.cut-index c.args.cuts.now all)) h)
