-- The nets so far have the names.
use Rattle.std.proofs.Common.{◌≡◌, take}
use Rattle.eco_meaning.specs.Circuit.{names}
use Rattle.eco_meaning.specs.Report.{targets_in}
use Rattle.eco_netlist.specs.Netlists.{names_at}
use Rattle.eco_audit.proofs.naming.are_reported_targets.Given as goal

abbrev pub invariant-loop-place : goal.invariant-loop-place
invariant-loop-place l = names_at (names l.n) (take l.place l.nets) ≡ targets_in (take l.place l.groups)
