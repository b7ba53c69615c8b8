-- The signal is a net of both, and the marks tell what it reaches.
use Rattle.std.proofs.Common.{◌≡◌, [], Some, false, MatchOption, length, sym, ◌∙◌, ap, subst}
use Rattle.std.specs.List.{slice_get}
use Rattle.std.proofs.lemmas.Bool.{false≢true}
use Rattle.std.proofs.lemmas.Option.{get_or_from_slice_get}
use Rattle.eco_meaning.specs.Names.{has}
use Rattle.eco_meaning.specs.Circuit.{Circuit, names, IsSignal}
use Rattle.eco_gates.specs.declared.gate.NetId.{NetId}
use Rattle.eco_netlist.proofs.NameSets.{absent_from_has}
use Rattle.eco_netlist.proofs.SoundNetlists.{sound_netlist}
use Rattle.eco_laws.proofs.OneValue.{signal_net}
use Rattle.eco_audit.specs.Checks.{AreReachedMarks}
use Rattle.eco_audit.proofs.Marks.{one_source}
use Rattle.eco_audit.proofs.reaching.is_in_time.Goals as goal

pub are_in_time-requires-clause-marks : goal.are_in_time-requires-clause-marks
are_in_time-requires-clause-marks c = ap length c.as_slice.ensures.value ∙ c.in_ok-marks-in-Some-Some.ensures.length

pub returns-in_ok-marks-in-Some-Some : goal.returns-in_ok-marks-in-Some-Some
returns-in_ok-marks-in-Some-Some c =
    let p = c.args.patch.now in
    c.are_in_time.ensures c.args.name.now record {
      named = subst (λ (n : Circuit). slice_get (names n) c.in-Some-Some.source.0 ≡ Some c.args.name.now) c.implementation-f.ensures.value c.in-Some-Some.ensures;
      candidate = c.requires.candidate;
    }
    (subst (AreReachedMarks p c.args.name.now) (sym c.as_slice.ensures.value)
    (one_source p c.args.name.now c.in-Some-Some.net c.in_ok-marks-in-Some-Some.marks.items
    (get_or_from_slice_get (names p) c.in-Some-Some.net.0 c.args.name.now [] c.in-Some-Some.ensures')
    c.in_ok-marks-in-Some-Some.ensures.length c.in_ok-marks-in-Some-Some.ensures.fan_out))

pub returns-in_default : goal.returns-in_default
returns-in_default c = (
  λ holds. absurd (false≢true holds),
  λ is.
      let p = c.args.patch.now in
      absurd (absent_from_has (names p) c.args.name.now c.in_default.ensures' ((sound_netlist p c.nets-2.ensures.checked).inputs c.args.name.now c.requires.input)),
)

pub returns-in_default-2 : goal.returns-in_default-2
returns-in_default-2 c = (
  λ holds. absurd (false≢true holds),
  λ is.
      let f = c.implementation-f.result.now in
      let name = c.args.name.now in
      let none = subst (λ r. MatchOption r (has (names f) name ≡ false) (λ (net : NetId). slice_get (names f) net.0 ≡ Some name)) c.in_default.is-0 c.net_of.ensures in
      let signal = subst (λ (n : Circuit). IsSignal n name) (sym c.implementation-f.ensures.value) c.requires.candidate.signal in
      absurd (absent_from_has (names f) name none (signal_net f (sound_netlist f c.nets.ensures.checked) name signal)),
)
