use Rattle.std.proofs.Common.{◌≡◌, ◌+◌, ◌≤◌, ◌++◌, drop}
use Rattle.eco_meaning.specs.Circuit.{names}
use Rattle.eco_netlist.specs.Netlists.{names_at}
use Rattle.eco_splice.specs.LineGates.{outs_from, nets_in}
use Rattle.eco_splice.proofs.line_nets.net_names.Given as goal

abbrev pub invariant-loop-line : goal.invariant-loop-line
invariant-loop-line l = record {
  few : l.number ≤ l.line-index + 1;
  names : l.list.items ++ outs_from l.frame.prefix.now (names_at (names l.frame.f.now) l.frame.targets.now) l.number (drop l.line-index l.lines)
      ≡ nets_in l.frame.prefix.now (names_at (names l.frame.f.now) l.frame.targets.now) (names_at (names l.frame.f.now) l.base) l.lines;
}
