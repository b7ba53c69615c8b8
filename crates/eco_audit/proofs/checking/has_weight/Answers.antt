-- The signal is a net.
use Rattle.std.proofs.Common.{◌≡◌, false, [], Some, sym, ◌∙◌, ap, subst}
use Rattle.std.specs.List.{slice_get}
use Rattle.std.proofs.lemmas.Bool.{false≢true}
use Rattle.std.proofs.lemmas.Option.{get_or_from_slice_get}
use Rattle.eco_meaning.specs.Circuit.{Circuit, names, IsSignal}
use Rattle.eco_meaning.specs.Cost.{weight_of}
use Rattle.eco_meaning.specs.Names.{has}
use Rattle.eco_meaning.specs.Report.{BaseSignal}
use Rattle.eco_netlist.specs.Netlists.{name_at}
use Rattle.eco_netlist.proofs.NameSets.{absent_from_has}
use Rattle.eco_netlist.proofs.SoundNetlists.{sound_netlist}
use Rattle.eco_laws.proofs.OneValue.{signal_net}
use Rattle.eco_audit.proofs.checking.has_weight.Goals as goal

pub returns-in-None : goal.returns-in-None
returns-in-None c = (
  λ holds. absurd (false≢true holds),
  λ is.
      let f = c.implementation-f.result.now in
      let name = c.args.reported.now.signal in
      let signal = subst (λ (n : Circuit). IsSignal n name) (sym c.implementation-f.ensures.value) c.requires in
      let none = subst (λ (b : BaseSignal). has (names f) b.signal ≡ false) c.reported.view_is c.in-None.ensures in
      absurd (absent_from_has (names f) name none (signal_net f (sound_netlist f c.nets.ensures.checked) name signal)),
)

pub returns-in-Some : goal.returns-in-Some
returns-in-Some c =
    let problem = c.args.problem.now in
    let reported = c.args.reported.now in
    let found = subst (λ (b : BaseSignal). slice_get (names c.implementation-f.result.now) c.in-Some.net.0 ≡ Some b.signal) c.reported.view_is c.in-Some.ensures in
    let named = get_or_from_slice_get (names c.implementation-f.result.now) c.in-Some.net.0 reported.signal [] found in
    let here = subst (λ (n : Circuit). name_at (names n) c.in-Some.net.0 ≡ reported.signal) c.implementation-f.ensures.value named in
    let weight = c.weight.ensures ∙ ap (λ name. weight_of problem.implementation problem.weights problem.input_weight name) here in
    let same = ap (λ (b : BaseSignal). Some b.weight) c.reported.view_is in
    (λ holds. sym weight ∙ c.is_weight.ensures.0 holds ∙ same, λ is. c.is_weight.ensures.1 (weight ∙ is ∙ sym same))
