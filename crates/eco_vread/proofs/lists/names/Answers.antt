use Rattle.std.proofs.Common.{rules}
use Rattle.eco_vread.specs.Views.{identifiers_of, identifier_of}
use Rattle.eco_vread.specs.Trees.{left}
use Rattle.eco_vread.specs.Fronts.{list_at, name_at}
use Rattle.eco_vread.proofs.Repeats.{fault_in_list, end_of_list, step_of_list, name_less, elements_shrink, stepped}
use Rattle.eco_vread.proofs.lists.names.Goals as goal

pub returns-in_err-name : goal.returns-in_err-name
returns-in_err-name c = search (rules, fault_in_list name_at c.args.end.now name_less (identifiers_of c.loop-names.names.items) (left c.loop-names.here) (list_at name_at c.args.end.now (left c.args.at)) c.loop-names.invariant)

pub returns-then-not-is_more : goal.returns-then-not-is_more
returns-then-not-is_more c =
    end_of_list name_at c.args.end.now name_less identifier_of c.loop-names.names.items c.push.new.self.items c.in_ok-name.name c.in_ok-name.is_more (left c.loop-names.here) (left c.in_ok-name.next) _ c.loop-names.invariant (search rules) (search rules) (search rules)

pub loop-names-preserved : goal.loop-names-preserved
loop-names-preserved c =
    step_of_list name_at c.args.end.now name_less identifier_of c.loop-names.names.items c.push.new.self.items c.in_ok-name.name c.in_ok-name.is_more (left c.loop-names.here) (left c.in_ok-name.next) _ c.loop-names.invariant (search rules) (search rules) (search rules)

pub loop-names-smaller : goal.loop-names-smaller
loop-names-smaller c =
    (elements_shrink name_at c.args.end.now name_less).less (left c.loop-names.here) (left c.in_ok-name.next) (stepped c.in_ok-name.is_more (identifier_of c.in_ok-name.name)) (search rules)
