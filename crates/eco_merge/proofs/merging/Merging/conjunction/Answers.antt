-- What is ready stays so where the graph is extended.
use Rattle.eco_merge.proofs.merging.Merging.conjunction.Goals as goal

pub merged_or_kept-requires-clause-ready : goal.merged_or_kept-requires-clause-ready
merged_or_kept-requires-clause-ready g c = c.in_ok-edge.ensures.ready c.args.limit c.requires.ready

pub returns-then-contains-clause-ready : goal.returns-then-contains-clause-ready
returns-then-contains-clause-ready g c = c.in_ok-edge.ensures.ready c.args.limit c.requires.ready
