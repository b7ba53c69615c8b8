-- The first ports are the targets and the others the signals.
use Rattle.std.proofs.Common.{Bor, map, length, sym, ◌∙◌, ap}
use Rattle.std.proofs.lemmas.Bool.{false≢true, both_ways}
use Rattle.std.proofs.lemmas.List.{length-map, take_rest}
use Rattle.eco_meaning.specs.Circuit.{names}
use Rattle.eco_meaning.specs.Report.{BaseSignal, TargetGroup, targets_in}
use Rattle.eco_netlist.specs.Netlists.{names_at}
use Rattle.eco_audit.proofs.Lists.{in_parts, first_part, second_part}
use Rattle.eco_audit.proofs.naming.are_reported_ports.Goals as goal

pub returns-then-not-are_reported_targets : goal.returns-then-not-are_reported_targets
returns-then-not-are_reported_targets c = (
  λ holds. absurd (false≢true holds),
  λ is.
      let count = sym (length-map c.args.groups.now (λ (g : TargetGroup). g.target)) in
      absurd (both_ways c.are_reported_targets.result c.if-not-are_reported_targets.true
      (c.are_reported_targets.ensures.1
      (first_part (names c.args.p.now) c.ports-ports.result.now c.args.p.now.ports (targets_in c.args.groups.now)
      (map (λ (b : Bor BaseSignal). b.now.signal) c.args.base.now) (length c.args.groups.now) c.ports-ports.ensures.named count is))),
)

pub returns : goal.returns
returns c =
    let list = names c.args.p.now in
    let nets = c.ports-ports.result.now in
    let k = length c.args.groups.now in
    let signals = map (λ (b : Bor BaseSignal). b.now.signal) c.args.base.now in
    let targets = targets_in c.args.groups.now in
    let count = sym (length-map c.args.groups.now (λ (g : TargetGroup). g.target)) in
    let rest = ap (names_at list) (take_rest nets k) in (
      λ holds. in_parts list nets c.args.p.now.ports targets signals k c.ports-ports.ensures.named count
          (c.are_reported_targets.ensures.0 c.if-not-are_reported_targets.false) (sym rest ∙ c.are_reported_signals.ensures.0 holds),
      λ is. c.are_reported_signals.ensures.1 (rest ∙ second_part list nets c.args.p.now.ports targets signals k c.ports-ports.ensures.named count is),
    )
