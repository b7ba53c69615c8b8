use Rattle.std.proofs.Common.{arith, ap, subst}
use Rattle.std.proofs.lemmas.List.Elements.{Contains-get_or}
use Rattle.std.proofs.lemmas.Bool.{leb-true}
use Rattle.eco_meaning.specs.Circuit.{Circuit, names}
use Rattle.eco_netlist.specs.Behind.{AreLastTargets}
use Rattle.eco_netlist.specs.Netlists.{name_at}
use Rattle.eco_query.specs.Problem.{ProblemValue}
use Rattle.eco_query.proofs.Marks.{behind_first, open_behind}
use Rattle.eco_query.proofs.problem.Problem.is_open.Goals as goal

pub returns-then-index-i : goal.returns-then-index-i
returns-then-index-i c = λ before target behind targets place.
    let f = c.args.self.now.implementation in
    let same = ap (λ (p : ProblemValue). p.implementation) c.self.view_is in
    let lasts = subst (λ (x : Circuit). AreLastTargets x c.self.inside.lasts.items) same c.self.invariant.2 in
    let behind_only = behind_first f c.self.inside.lasts.items c.args.i c.args.net.0 c.index.result.now lasts c.requires.net c.index.ensures before target behind targets place in
    open_behind f before (name_at (names f) c.args.net.0) c.is_target.result (Contains-get_or (names f) c.args.net.0 _ c.requires.net)
    c.is_target.ensures (behind_only.0 c.if-index-i.true)

pub returns-else-index-i : goal.returns-else-index-i
returns-else-index-i c = λ before target behind targets place.
    let f = c.args.self.now.implementation in
    let same = ap (λ (p : ProblemValue). p.implementation) c.self.view_is in
    let lasts = subst (λ (x : Circuit). AreLastTargets x c.self.inside.lasts.items) same c.self.invariant.2 in
    let behind_only = behind_first f c.self.inside.lasts.items c.args.i c.args.net.0 c.index.result.now lasts c.requires.net c.index.ensures before target behind targets place in
    let later = c.if-index-i.false in (
      λ yes. let le = leb-true c.index.result.now c.args.i yes in absurd (omega (arith, later, le)),
      λ is. let le = behind_only.1 is.1 in absurd (omega (arith, later, le)),
    )
