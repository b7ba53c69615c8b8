-- The cuts make the implementation.
use Rattle.std.proofs.Common.{◌≡◌, subst, sym}
use Rattle.eco_lists.proofs.Values.{IfOk-both}
use Rattle.eco_meaning.specs.Circuit.{names}
use Rattle.eco_netlist.specs.Netlists.{names_at}
use Rattle.eco_query.specs.Problem.{ProblemValue}
use Rattle.eco_cutting.specs.Cuts.{IsCut}
use Rattle.eco_change.specs.CutProblem.{IsCutProblem}
use Rattle.eco_change.proofs.CutProblems.{made_by_cut, one_cut}
use Rattle.eco_change.proofs.posing.cut_problem.Goals as goal

pub problem_of-requires : goal.problem_of-requires
problem_of-requires c = (
  c.args.nets.now,
  c.requires.nets,
  c.requires.some,
  made_by_cut c.args.change.now.old c.old.result.now c.old-2.result.now c.args.nets.now c.in_ok-cuts.cuts.items c.as_slice.result.now c.in_ok-netlist.field-0 c.old.ensures.value c.old-2.ensures.value
      c.in_ok-cuts.ensures.cuts c.in_ok-cuts.ensures.nets c.as_slice.ensures.value c.in_ok-netlist.ensures,
)

pub returns : goal.returns
returns c =
    let f = c.args.change.now.old in
    let asked = c.args.change.now.goal in
    let nets = c.args.nets.now in
    let m = c.in_ok-netlist.field-0 in
    let cut = made_by_cut f c.old.result.now c.old-2.result.now nets c.in_ok-cuts.cuts.items c.as_slice.result.now m c.old.ensures.value c.old-2.ensures.value c.in_ok-cuts.ensures.cuts c.in_ok-cuts.ensures.nets
    c.as_slice.ensures.value c.in_ok-netlist.ensures in
    IfOk-both c.problem_of.result (λ (p : ProblemValue). p.implementation ≡ m) (λ (p : ProblemValue). p.goal ≡ asked) (IsCutProblem f asked (names_at (names f) nets))
    (λ p implementation same. record {
      cut = subst (IsCut f (names_at (names f) nets)) (sym implementation) (one_cut f asked nets m c.old.ensures.change c.requires.nets c.requires.some cut);
      same = same;
    })
    c.problem_of.ensures.implementation c.problem_of.ensures.goal
