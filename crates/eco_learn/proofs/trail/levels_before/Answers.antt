-- The marks rise, so those up to a place stand before the others.
use Rattle.std.proofs.Common.{◌≡◌, true, false, rules, leb, arith}
use Rattle.std.proofs.lemmas.Bool.{leb-true, leb-false}
use Rattle.std.specs.List.Sorted.{IsPartitionPoint}
use Rattle.std.proofs.lemmas.List.Sorted.{IsPartitionPoint-from_clause, IsPartitionedBy-leb}
use Rattle.eco_learn.proofs.TrailLaws.{rising_order}
use Rattle.eco_learn.proofs.trail.levels_before.Goals as goal

point : (c : goal.After-partition_point) → IsPartitionPoint (λ m. leb m c.args.place ≡ true) (λ m. leb m c.args.place ≡ false) c.args.marks.now c.partition_point.result
point c =
    IsPartitionPoint-from_clause (λ m. leb m c.args.place) _ _ c.partition_point.ensures.partitioned (IsPartitionedBy-leb (λ m. m) c.args.marks.now c.args.place (rising_order c.args.marks.now c.requires.rising)) (λ a r q k. search rules)

pub returns-clause-before : goal.returns-clause-before
returns-clause-before c = λ i lt.
    leb-true _ _ ((point c).0 i 0 (omega arith) lt)

pub returns-clause-behind : goal.returns-clause-behind
returns-clause-behind c = λ i le lt.
    leb-false _ _ ((point c).1 i 0 le lt)
