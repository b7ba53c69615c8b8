-- The draft spells out the netlist with the cuts, which is checked.
use Rattle.std.proofs.Common.{◌≡◌, [], sym, ◌∙◌, ap, subst}
use Rattle.eco_netlist.specs.Draft.{Declared}
use Rattle.eco_netlist.specs.Netlists.{IsChecked}
use Rattle.eco_netlist.specs.Plain.{as_declared}
use Rattle.eco_cutting.specs.Cuts.{cut_of}
use Rattle.eco_cutting.proofs.CheckedLemmas.{cut_is_checked}
use Rattle.eco_cutting.proofs.DraftLemmas.{grown_is_cut}
use Rattle.eco_cutting.proofs.cutting.cut_netlist.Goals as goal

pub finish_plain-requires : goal.finish_plain-requires
finish_plain-requires c =
    let f = c.args.f.now in
    let cuts = c.args.cuts.now in
    let title = c.in_ok-copy.ensures.same ∙ c.module.ensures in
    let empty : c.keyed-draft.result ≡ record { title = f.title; header = []; inputs = []; outputs = []; wires = []; gates = [] } =
    c.keyed-draft.ensures.empty ∙ ap (λ t. let d : Declared = record { title = t; header = []; inputs = []; outputs = []; wires = []; gates = [] } in d) title in
    let whole : as_declared c.declare.new.draft ≡ cut_of f cuts = grown_is_cut f cuts c.keyed-draft.result c.declare.new.draft empty c.in-Ok.ensures in
    subst IsChecked (sym whole) (cut_is_checked f cuts c.nets.ensures.checked c.requires)
