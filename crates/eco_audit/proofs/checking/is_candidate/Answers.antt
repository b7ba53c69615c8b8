-- A candidate is a net.
use Rattle.std.proofs.Common.{◌≡◌, List, ℕ, [], ◌↔◌, sym, subst}
use Rattle.std.specs.Prelude.{IsTrue}
use Rattle.std.proofs.lemmas.Bool.{false≢true}
use Rattle.std.proofs.lemmas.Option.{get_or_from_slice_get}
use Rattle.eco_meaning.specs.Circuit.{Circuit, names, IsSignal}
use Rattle.eco_meaning.specs.Cost.{IsCandidate}
use Rattle.eco_netlist.specs.Netlists.{name_at}
use Rattle.eco_netlist.proofs.NameSets.{absent_from_has}
use Rattle.eco_netlist.proofs.SoundNetlists.{sound_netlist}
use Rattle.eco_laws.proofs.OneValue.{signal_net}
use Rattle.eco_audit.proofs.checking.is_candidate.Goals as goal

pub returns-in-None : goal.returns-in-None
returns-in-None c = λ earlier target later are long. (
  λ holds. absurd (false≢true holds),
  λ is.
      let f = c.implementation-f.result.now in
      let signal = subst (λ (n : Circuit). IsSignal n c.args.name.now) (sym c.implementation-f.ensures.value) is.signal in
      absurd (absent_from_has (names f) c.args.name.now c.in-None.ensures (signal_net f (sound_netlist f c.nets.ensures.checked) c.args.name.now signal)),
)

pub returns-in-Some : goal.returns-in-Some
returns-in-Some c = λ earlier target later are long.
    let problem = c.args.problem.now in
    let f = problem.implementation in
    let named = get_or_from_slice_get (names c.implementation-f.result.now) c.in-Some.net.0 c.args.name.now [] c.in-Some.ensures in
    let here = subst (λ (n : Circuit). name_at (names n) c.in-Some.net.0 ≡ c.args.name.now) c.implementation-f.ensures.value named in
    subst (λ (name : List ℕ). IsTrue c.candidate.result ↔ IsCandidate f problem.weights problem.input_weight earlier name) here
    (c.candidate.ensures earlier target later are long)
