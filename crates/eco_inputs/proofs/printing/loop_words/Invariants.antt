use Rattle.std.proofs.Common.{◌≡◌, ◌++◌, codes, take}
use Rattle.std.specs.List.{flat_map}
use Rattle.eco_inputs.proofs.printing.loop_words.Given as goal

abbrev pub invariant-loop-name : goal.invariant-loop-name
invariant-loop-name l =
    l.text.items ≡ codes "loop" ++ flat_map (λ name. codes " " ++ name) (take l.name-index l.names)
