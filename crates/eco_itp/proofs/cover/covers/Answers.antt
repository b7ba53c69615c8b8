-- A clause that isn't covered, and all of them.
use Rattle.std.proofs.Common.{length, refl, ap, arith}
use Rattle.std.proofs.lemmas.Bool.{false≢true}
use Rattle.eco_itp.specs.Between.{IsCovered}
use Rattle.eco_itp.proofs.Chaining.{said_of_given, said_of_parts}
use Rattle.eco_itp.proofs.Covering.{covered_by, clause_by_cover}
use Rattle.eco_itp.proofs.cover.covers.Goals as goal

pub returns-then-not-is_clause_covered : goal.returns-then-not-is_clause_covered
returns-then-not-is_clause_covered c =
    let p = c.in_ok-parts.parts in
    let parts = c.in_ok-parts.ensures in
    (λ is. absurd (false≢true is), λ covered. c.if-not-is_clause_covered.ensures.1 (clause_by_cover p c.loop-number.number parts.parts (said_of_parts IsCovered p c.args.trace.now c.args.side.now c.args.shared.now parts.trace parts.side parts.shared covered)))

pub returns : goal.returns
returns c =
    let p = c.in_ok-parts.parts in
    let parts = c.in_ok-parts.ensures in
    let count = ap length parts.side in
    (λ is. said_of_given IsCovered p c.args.trace.now c.args.side.now c.args.shared.now parts.trace parts.side parts.shared (covered_by p c.loop-number.number parts.parts (let end = c.loop-number-test.false in omega (arith, end, count)) c.loop-number.invariant), λ covered. refl)
