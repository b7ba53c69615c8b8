-- The name that the cut of the net has, or the net's own.
use Rattle.std.proofs.Common.{◌≡◌, sym, ◌∙◌, ap}
use Rattle.std.proofs.lemmas.Result.{IfOk-weaker}
use Rattle.eco_cutting.specs.Cuts.{read_for}
use Rattle.eco_cutting.proofs.CutNames.{net_of, target_of, picked_cut}
use Rattle.eco_cutting.proofs.Picking.{picked_not}
use Rattle.eco_cutting.proofs.cutting.read_name.Goals as goal

pub returns-in-Some : goal.returns-in-Some
returns-in-Some c =
    let cuts = c.args.cuts.now in
    let name = c.args.name.now in
    IfOk-weaker c.copy.result (λ read. read ≡ c.cut.inside.target) (λ read. read ≡ read_for cuts name) (λ read same.
    same ∙ ap target_of c.cut.view_is ∙ sym (picked_cut target_of cuts c.in-Some.cut.now name c.requires.once c.in-Some.ensures.0 c.in-Some.ensures.1)) c.copy.ensures.same

pub returns-in-None : goal.returns-in-None
returns-in-None c =
    let cuts = c.args.cuts.now in
    let name = c.args.name.now in
    IfOk-weaker c.copy-in-None.result (λ read. read ≡ name) (λ read. read ≡ read_for cuts name) (λ read same.
    same ∙ sym (picked_not net_of target_of cuts name name c.in-None.ensures)) c.copy-in-None.ensures.same
