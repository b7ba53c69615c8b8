use Rattle.std.proofs.Common.{◌≡◌, All, codes, map, take}
use Rattle.eco_aiger.proofs.sections.before_comment.Given as goal

abbrev pub invariant-loop-index : goal.invariant-loop-index
invariant-loop-index l = All (λ line. line ≡ codes "c" → ⊥) (map (λ line. line.now) (take l.index l.lines))
