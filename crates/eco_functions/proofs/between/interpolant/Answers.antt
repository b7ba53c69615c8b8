-- The pairs are those of the graph's inputs, in order.
use Rattle.eco_functions.specs.Parts.{split_of, most_of}
use Rattle.eco_functions.proofs.Pairing.{pairs_read, pairs_distinct, pairs_cover, pairs_within, pairs_between}
use Rattle.eco_functions.proofs.between.interpolant.Goals as goal

pub interpolate-requires-clause-distinct : goal.interpolate-requires-clause-distinct
interpolate-requires-clause-distinct c =
    let made = c.in_ok-pairs.ensures in
    let are = pairs_read c.args.two.now.shared.now c.args.aig.now c.in_ok-pairs.pairs.items c.as_slice.result.now c.as_slice.ensures.value made.variables made.edges in
    pairs_distinct c.args.two.now.shared.now c.args.aig.now c.as_slice.result.now are c.requires.distinct

pub interpolate-requires-clause-covered : goal.interpolate-requires-clause-covered
interpolate-requires-clause-covered c =
    let made = c.in_ok-pairs.ensures in
    let are = pairs_read c.args.two.now.shared.now c.args.aig.now c.in_ok-pairs.pairs.items c.as_slice.result.now c.as_slice.ensures.value made.variables made.edges in
    pairs_cover (split_of c.args.two.now) c.args.two.now.shared.now c.args.aig.now c.as_slice.result.now are c.requires.apart

pub interpolate-requires-clause-within : goal.interpolate-requires-clause-within
interpolate-requires-clause-within c =
    let made = c.in_ok-pairs.ensures in
    let are = pairs_read c.args.two.now.shared.now c.args.aig.now c.in_ok-pairs.pairs.items c.as_slice.result.now c.as_slice.ensures.value made.variables made.edges in
    pairs_within c.args.two.now.shared.now c.args.aig.now c.as_slice.result.now c.nodes.ensures.graph are

pub returns-clause-between : goal.returns-clause-between
returns-clause-between c =
    let made = c.in_ok-pairs.ensures in
    let are = pairs_read c.args.two.now.shared.now c.args.aig.now c.in_ok-pairs.pairs.items c.as_slice.result.now c.as_slice.ensures.value made.variables made.edges in
    pairs_between (split_of c.args.two.now) c.args.two.now.shared.now c.args.aig.now c.interpolate.new.aig (most_of c.args.two.now) c.as_slice.result.now c.in_ok-root.root are c.in_ok-root.ensures.grows c.in_ok-root.ensures.between
