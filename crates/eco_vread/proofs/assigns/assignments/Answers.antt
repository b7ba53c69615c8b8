use Rattle.std.proofs.Common.{rules, map, codes}
use Rattle.eco_vread.specs.Trees.{assignment_of, left}
use Rattle.eco_vread.specs.Fronts.{list_at}
use Rattle.eco_vread.specs.Parse.{assignment_at}
use Rattle.eco_vread.proofs.Repeats.{fault_in_list, end_of_list, step_of_list, elements_shrink, stepped}
use Rattle.eco_vread.proofs.Assignments.{assignment_less}
use Rattle.eco_vread.proofs.assigns.assignments.Goals as goal

pub returns-in_err-found : goal.returns-in_err-found
returns-in_err-found c = search (rules, fault_in_list assignment_at (codes ";") assignment_less (map assignment_of c.loop-assignments.assignments.items) (left c.loop-assignments.here) (list_at assignment_at (codes ";") (left c.args.at)) c.loop-assignments.invariant)

pub returns-then-not-is_more : goal.returns-then-not-is_more
returns-then-not-is_more c =
    end_of_list assignment_at (codes ";") assignment_less assignment_of c.loop-assignments.assignments.items c.push.new.self.items c.in_ok-found.found c.in_ok-found.is_more (left c.loop-assignments.here) (left c.in_ok-found.next) _ c.loop-assignments.invariant (search rules) (search rules) (search rules)

pub loop-assignments-preserved : goal.loop-assignments-preserved
loop-assignments-preserved c =
    step_of_list assignment_at (codes ";") assignment_less assignment_of c.loop-assignments.assignments.items c.push.new.self.items c.in_ok-found.found c.in_ok-found.is_more (left c.loop-assignments.here) (left c.in_ok-found.next) _ c.loop-assignments.invariant (search rules) (search rules) (search rules)

pub loop-assignments-smaller : goal.loop-assignments-smaller
loop-assignments-smaller c =
    (elements_shrink assignment_at (codes ";") assignment_less).less (left c.loop-assignments.here) (left c.in_ok-found.next) (stepped c.in_ok-found.is_more (assignment_of c.in_ok-found.found)) (search rules)
