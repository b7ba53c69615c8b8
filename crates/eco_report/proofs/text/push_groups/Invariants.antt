use Rattle.std.proofs.Common.{◌≡◌, ◌++◌, take}
use Rattle.std.specs.List.{flat_map}
use Rattle.eco_report.specs.Texts.{group_text}
use Rattle.eco_report.proofs.text.push_groups.Given as goal

abbrev pub invariant-loop-group : goal.invariant-loop-group
invariant-loop-group l =
    l.text.items ≡ l.initial.text.items ++ flat_map group_text (take l.group-index l.groups)
