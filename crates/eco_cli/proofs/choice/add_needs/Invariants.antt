-- So many lines stand there.
use Rattle.std.proofs.Common.{◌≡◌, ◌++◌, map, take}
use Rattle.eco_cli.specs.Choice.{need_lines}
use Rattle.eco_cli.proofs.choice.add_needs.Given as goal

abbrev pub invariant-loop-place : goal.invariant-loop-place
invariant-loop-place l = l.text.items ≡ l.fn.text.items ++ need_lines (take l.place (map (λ name. name.now) l.named)) (take l.place l.needs)
