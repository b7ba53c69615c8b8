use Rattle.std.proofs.Common.{◌≡◌, ◌++◌, take}
use Rattle.std.specs.List.{flat_map}
use Rattle.eco_report.specs.Texts.{base_text}
use Rattle.eco_report.proofs.text.push_signals.Given as goal

abbrev pub invariant-loop-signal : goal.invariant-loop-signal
invariant-loop-signal l =
    l.text.items ≡ l.initial.text.items ++ flat_map base_text (take l.signal-index l.signals)
