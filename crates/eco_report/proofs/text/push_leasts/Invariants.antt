use Rattle.std.proofs.Common.{◌≡◌, ◌++◌, take}
use Rattle.std.specs.List.{flat_map}
use Rattle.eco_report.specs.Texts.{least_text}
use Rattle.eco_report.proofs.text.push_leasts.Given as goal

abbrev pub invariant-loop-line : goal.invariant-loop-line
invariant-loop-line l =
    l.text.items ≡ l.initial.text.items ++ flat_map least_text (take l.line-index l.lines)
