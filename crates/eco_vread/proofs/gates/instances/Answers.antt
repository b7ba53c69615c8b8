use Rattle.std.proofs.Common.{rules, map, codes}
use Rattle.eco_vread.specs.Trees.{instance_of, left}
use Rattle.eco_vread.specs.Fronts.{list_at}
use Rattle.eco_vread.specs.Parse.{instance_at}
use Rattle.eco_vread.proofs.Repeats.{fault_in_list, end_of_list, step_of_list, elements_shrink, stepped}
use Rattle.eco_vread.proofs.Statements.{instance_less}
use Rattle.eco_vread.proofs.gates.instances.Goals as goal

pub returns-in_err-found : goal.returns-in_err-found
returns-in_err-found c = search (rules, fault_in_list (instance_at c.args.kind) (codes ";") (instance_less c.args.kind) (map instance_of c.loop-instances.instances.items) (left c.loop-instances.here) (list_at (instance_at c.args.kind) (codes ";") (left c.args.at)) c.loop-instances.invariant)

pub returns-then-not-is_more : goal.returns-then-not-is_more
returns-then-not-is_more c =
    end_of_list (instance_at c.args.kind) (codes ";") (instance_less c.args.kind) instance_of c.loop-instances.instances.items c.push.new.self.items c.in_ok-found.found c.in_ok-found.is_more (left c.loop-instances.here) (left c.in_ok-found.next) _ c.loop-instances.invariant (search rules) (search rules) (search rules)

pub loop-instances-preserved : goal.loop-instances-preserved
loop-instances-preserved c =
    step_of_list (instance_at c.args.kind) (codes ";") (instance_less c.args.kind) instance_of c.loop-instances.instances.items c.push.new.self.items c.in_ok-found.found c.in_ok-found.is_more (left c.loop-instances.here) (left c.in_ok-found.next) _ c.loop-instances.invariant (search rules) (search rules) (search rules)

pub loop-instances-smaller : goal.loop-instances-smaller
loop-instances-smaller c =
    (elements_shrink (instance_at c.args.kind) (codes ";") (instance_less c.args.kind)).less (left c.loop-instances.here) (left c.in_ok-found.next) (stepped c.in_ok-found.is_more (instance_of c.in_ok-found.found)) (search rules)
