-- What the cuts that were made are.
use Rattle.std.proofs.Common.{refl, sym, subst, map}
use Rattle.std.specs.Prelude.{codes}
use Rattle.std.proofs.lemmas.Result.{IfOk-weaker}
use Rattle.eco_meaning.specs.Circuit.{names}
use Rattle.eco_netlist.proofs.SoundNetlists.{sound_netlist}
use Rattle.eco_text.specs.Prefix.{IsFreshPrefix}
use Rattle.eco_text.proofs.PrefixLemmas.{printing-fresh}
use Rattle.eco_cutting.specs.Cuts.{AreCuts}
use Rattle.eco_cutting.specs.NewNames.{AreAllNamed, AreLeastFree, AreOldNames}
use Rattle.eco_cutting.proofs.CutNames.{target_of}
use Rattle.eco_cutting.proofs.TargetNames.{free_least}
use Rattle.eco_cutting.proofs.NewNameLemmas.{named_are_cuts}
use Rattle.eco_cutting.proofs.naming.cuts_for.Goals as goal

pub named_cuts-requires-clause-printing : goal.named_cuts-requires-clause-printing
named_cuts-requires-clause-printing c =
    rw c.as_slice.ensures.value (printing-fresh (codes "old") (names c.args.f.now) c.in_ok-prefix.prefix.items refl c.in_ok-prefix.ensures.fresh)

pub returns-clause-cuts : goal.returns-clause-cuts
returns-clause-cuts c =
    let f = c.args.f.now in
    let nets = c.args.nets.now in
    let prefix = c.as_slice.result.now in
    let fresh : IsFreshPrefix (codes "old") (names f) prefix = rw c.as_slice.ensures.value c.in_ok-prefix.ensures.fresh in
    IfOk-weaker c.named_cuts.result (λ cuts. AreAllNamed f nets prefix cuts.items) (λ cuts. AreCuts f cuts.items)
    (λ cuts named. named_are_cuts f (sound_netlist f c.nets.ensures.checked) nets c.requires.driven c.requires.once prefix fresh named.0 named.1 cuts.items named.2 named.3) c.named_cuts.ensures.ok

pub returns-clause-least : goal.returns-clause-least
returns-clause-least c =
    let f = c.args.f.now in
    IfOk-weaker c.named_cuts.result (λ cuts. AreAllNamed f c.args.nets.now c.as_slice.result.now cuts.items) (λ cuts. AreLeastFree f (map target_of cuts.items))
    (λ cuts named. subst (AreLeastFree f) (sym named.2.targets) (free_least f named.0 named.1)) c.named_cuts.ensures.ok

pub returns-clause-olds : goal.returns-clause-olds
returns-clause-olds c =
    let f = c.args.f.now in
    let prefix = c.as_slice.result.now in
    let fresh : IsFreshPrefix (codes "old") (names f) prefix = rw c.as_slice.ensures.value c.in_ok-prefix.ensures.fresh in
    IfOk-weaker c.named_cuts.result (λ cuts. AreAllNamed f c.args.nets.now prefix cuts.items) (λ cuts. AreOldNames f cuts.items)
    (λ cuts named. record { prefix = prefix; fresh = fresh; named = named.2.olds }) c.named_cuts.ensures.ok
