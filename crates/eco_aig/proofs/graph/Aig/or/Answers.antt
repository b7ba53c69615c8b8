-- The disjunction is the complement of the complements' conjunction.
use Rattle.eco_aig.proofs.Conjunctions.{value_of_neither}
use Rattle.eco_aig.proofs.graph.Aig.or.Goals as goal

pub returns-clause-value : goal.returns-clause-value
returns-clause-value c =
    value_of_neither c.and.new.self c.args.a c.args.b c.not.result c.not-2.result c.in_ok-neither.neither c.not-3.result c.not.ensures.sign c.not-2.ensures.sign c.not-3.ensures.sign c.in_ok-neither.ensures.value
