-- The netlist with the cuts that were named.
use Rattle.std.proofs.Common.{map, sym, ap, ◌∙◌, subst}
use Rattle.eco_netlist.proofs.SoundNetlists.{sound_netlist}
use Rattle.eco_cutting.specs.Cuts.{IsCut, cut_of}
use Rattle.eco_cutting.proofs.CutNames.{net_of}
use Rattle.eco_cutting.proofs.MadeLemmas.{cut_is_made}
use Rattle.eco_cutting.proofs.naming.cut.Goals as goal

pub returns-clause-cut : goal.returns-clause-cut
returns-clause-cut c =
    let f = c.args.f.now in
    let cuts = c.in_ok-cuts.cuts.items in
    let netlist = c.in_ok-cut_netlist.field-0 in
    subst (λ nets. IsCut f nets netlist) c.in_ok-cuts.ensures.nets
    (subst (IsCut f (map net_of cuts)) (sym (c.in_ok-cut_netlist.ensures ∙ ap (cut_of f) c.as_slice.ensures.value))
    (cut_is_made f cuts (sound_netlist f c.nets.ensures.checked) c.requires.closed c.in_ok-cuts.ensures.cuts))
