-- The three lists of names are those of the ports.
use Rattle.std.proofs.Common.{Bor, List, map, ◌≡◌, ◌++◌, sym, ◌∙◌, ap}
use Rattle.std.proofs.lemmas.Bool.{false≢true, both_ways}
use Rattle.eco_lists.proofs.Members.{map-map}
use Rattle.eco_meaning.specs.Report.{BaseSignal, PatchReport, base_in, signals_of, targets_in, targets_of}
use Rattle.eco_audit.proofs.naming.has_reported_ports.Goals as goal

-- the signals of the list are those of the report
signals_are : (r : PatchReport) (base : List (Bor BaseSignal)) → map (λ b. b.now) base ≡ base_in r.groups → map (λ (b : Bor BaseSignal). b.now.signal) base ≡ signals_of r
signals_are r base same = sym (map-map (λ (b : Bor BaseSignal). b.now) (λ (b : BaseSignal). b.signal) base) ∙ ap (map (λ (b : BaseSignal). b.signal)) same

pub returns-then-not-are_reported_signals : goal.returns-then-not-are_reported_signals
returns-then-not-are_reported_signals c = (
  λ holds. absurd (false≢true holds),
  λ is. absurd (both_ways c.are_reported_signals.result c.if-not-are_reported_signals.true
      (c.are_reported_signals.ensures.1 (c.inputs.ensures.named ∙ is.inputs ∙ sym (signals_are c.args.report.now c.args.base.now c.requires.base)))),
)

pub returns : goal.returns
returns c =
    let groups = c.as_slice-groups.result.now in
    let r = c.args.report.now in
    let reported : groups ≡ r.groups = c.as_slice-groups.ensures.value ∙ ap (λ (q : PatchReport). q.groups) c.report.view_is in
    let signals = signals_are r c.args.base.now c.requires.base in (
      λ holds. record {
        outputs = sym c.outputs.ensures.named ∙ c.are_reported_targets.ensures.0 c.if-not-are_reported_targets.false ∙ ap targets_in reported;
        inputs = sym c.inputs.ensures.named ∙ c.are_reported_signals.ensures.0 c.if-not-are_reported_signals.false ∙ signals;
        ports = c.are_reported_ports.ensures.0 holds ∙ ap (λ l. targets_in l ++ map (λ (b : Bor BaseSignal). b.now.signal) c.args.base.now) reported ∙ ap (λ l. targets_of r ++ l) signals;
      },
      λ is. c.are_reported_ports.ensures.1
          (is.ports ∙ ap (λ l. targets_in l ++ signals_of r) (sym reported) ∙ ap (λ l. targets_in groups ++ l) (sym signals)),
    )
