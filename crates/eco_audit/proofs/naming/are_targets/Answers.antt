-- A netlist has one list of targets.
use Rattle.std.proofs.Common.{List, ℕ, subst}
use Rattle.eco_meaning.specs.Circuit.{AreTargets}
use Rattle.eco_meaning.specs.Report.{targets_in}
use Rattle.eco_netlist.proofs.MisfitLemmas.{targets_unique}
use Rattle.eco_audit.proofs.naming.are_targets.Goals as goal

pub returns : goal.returns
returns c = (
  λ holds. subst (λ (l : List (List ℕ)). AreTargets c.args.f.now l) (c.are_reported_targets.ensures.0 holds) c.targets.ensures.named,
  λ are. c.are_reported_targets.ensures.1 (targets_unique c.args.f.now _ (targets_in c.args.groups.now) c.targets.ensures.named are),
)
