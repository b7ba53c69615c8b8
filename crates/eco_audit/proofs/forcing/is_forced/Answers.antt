-- The values of the targets before and the other bit are fixed.
use Rattle.std.proofs.Common.{not, [], ◌∷◌, ◌++◌, ◌↔◌, length, take, map, arith, ap, ◌∙◌}
use Rattle.std.specs.Prelude.{IsTrue}
use Rattle.std.proofs.lemmas.List.{length-append, length-map, length-take-le}
use Rattle.std.proofs.lemmas.Result.{IfOk-weaker}
use Rattle.eco_meaning.specs.Report.{TargetGroup, targets_in}
use Rattle.eco_audit.specs.Judging.{AtGroupOf, IsForcedHere, IsUnfixedHere, map_of}
use Rattle.eco_audit.proofs.Forced.{forced_where_unfixed}
use Rattle.eco_audit.proofs.forcing.is_forced.Goals as goal

pub is_unfixed-requires-clause-fixed : goal.is_unfixed-requires-clause-fixed
is_unfixed-requires-clause-fixed g c =
    let s = c.args.solution.now in
    let groups = take c.args.number s.report.now.groups in
    let row = map (map_of s c.args.values.now) (targets_in groups) in
    omega (
      arith,
      ap length (c.of-fixed.ensures ∙ c.in_ok-push.ensures.items),
      ap length c.in_ok-row.ensures,
      length-append c.in_ok-row.row.items (not c.args.bit ∷ []),
      length-map (targets_in groups) (map_of s c.args.values.now),
      length-map groups (λ (g : TargetGroup). g.target),
      length-take-le c.args.number s.report.now.groups (omega (arith, c.requires.number)),
      c.requires.number,
    )

pub returns : goal.returns
returns g c =
    let s = c.args.solution.now in
    let x = c.args.input.now in
    IfOk-weaker c.is_unfixed.result (λ unfixed. IsTrue unfixed ↔ IsUnfixedHere s c.of-fixed.result x)
    (λ forced. AtGroupOf s c.args.number (λ before group. IsTrue forced ↔ IsForcedHere s x c.args.bit before group))
    (λ unfixed is group at.
    let same = forced_where_unfixed s c.args.number group x c.args.values.now c.of-fixed.result c.args.bit c.requires.judged at c.requires.input c.requires.values
    (c.of-fixed.ensures ∙ c.in_ok-push.ensures.items ∙ ap (λ l. l ++ not c.args.bit ∷ []) c.in_ok-row.ensures) in
    (λ holds. same.0 (is.0 holds), λ forced. is.1 (same.1 forced)))
    c.is_unfixed.ensures
