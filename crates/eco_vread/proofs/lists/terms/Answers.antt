use Rattle.std.proofs.Common.{rules, map, codes}
use Rattle.eco_vread.specs.Views.{term_of}
use Rattle.eco_vread.specs.Trees.{left}
use Rattle.eco_vread.specs.Fronts.{list_at, term_at}
use Rattle.eco_vread.proofs.Repeats.{fault_in_list, end_of_list, step_of_list, term_less, elements_shrink, stepped}
use Rattle.eco_vread.proofs.lists.terms.Goals as goal

pub returns-in_err-term : goal.returns-in_err-term
returns-in_err-term c = search (rules, fault_in_list term_at (codes ")") term_less (map term_of c.loop-terms.terms.items) (left c.loop-terms.here) (list_at term_at (codes ")") (left c.args.at)) c.loop-terms.invariant)

pub returns-then-not-is_more : goal.returns-then-not-is_more
returns-then-not-is_more c =
    end_of_list term_at (codes ")") term_less term_of c.loop-terms.terms.items c.push.new.self.items c.in_ok-term.term c.in_ok-term.is_more (left c.loop-terms.here) (left c.in_ok-term.next) _ c.loop-terms.invariant (search rules) (search rules) (search rules)

pub loop-terms-preserved : goal.loop-terms-preserved
loop-terms-preserved c =
    step_of_list term_at (codes ")") term_less term_of c.loop-terms.terms.items c.push.new.self.items c.in_ok-term.term c.in_ok-term.is_more (left c.loop-terms.here) (left c.in_ok-term.next) _ c.loop-terms.invariant (search rules) (search rules) (search rules)

pub loop-terms-smaller : goal.loop-terms-smaller
loop-terms-smaller c =
    (elements_shrink term_at (codes ")") term_less).less (left c.loop-terms.here) (left c.in_ok-term.next) (stepped c.in_ok-term.is_more (term_of c.in_ok-term.term)) (search rules)
