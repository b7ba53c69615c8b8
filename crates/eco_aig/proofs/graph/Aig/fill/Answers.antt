-- One more node, and at the end all of them.
use Rattle.std.proofs.Common.{◌≡◌, ◌≤◌, List, Some, length, get_or, sym, ◌∙◌, ap, subst, arith}
use Rattle.std.specs.List.{slice_get}
use Rattle.std.proofs.lemmas.Option.{slice_get-get_or}
use Rattle.eco_lists.specs.Bits.{bit_at}
use Rattle.eco_aig.specs.declared.node.Node.{Node}
use Rattle.eco_aig.specs.declared.node.Node.TheVariants.{Zero}
use Rattle.eco_aig.specs.Graph.{IsGraph}
use Rattle.eco_aig.proofs.Filling.{filled_more, filled_fits, filled_keeps, one_valuation}
use Rattle.eco_aig.proofs.graph.Aig.fill.Goals as goal
use Rattle.eco_aig.proofs.graph.Aig.fill.Goals.{After-loop-number}

pub loop-number-preserved : goal.loop-number-preserved
loop-number-preserved c =
    let nodes = c.args.self.now in
    let k = c.loop-number.number in
    let listed : c.as_slice-node-items.result.now ≡ nodes = c.as_slice-node-items.ensures.keys ∙ c.self.view_is in
    let node = get_or c.as_slice-node-items.result.now k Zero in
    let at : slice_get nodes k ≡ Some node = ap (λ (list : List Node). slice_get list k) (sym listed) ∙ slice_get-get_or c.as_slice-node-items.result.now k Zero c.loop-number-test.true in
    filled_more nodes c.args.values.now c.loop-number.values k node c.node_bit-bit.result (subst IsGraph c.self.view_is c.self.invariant.graph) c.requires at c.node_bit-bit.ensures.fits c.node_bit-bit.ensures.input c.loop-number.invariant

all_done : (c : After-loop-number) → length c.args.self.now ≤ c.loop-number.number
all_done c =
    let listed = ap length (c.as_slice-node-items.ensures.keys ∙ c.self.view_is) in
    omega (arith, listed, c.loop-number-test.false)

pub returns-clause-fits : goal.returns-clause-fits
returns-clause-fits c =
    filled_fits c.args.self.now c.args.values.now c.loop-number.values c.loop-number.number (all_done c) c.loop-number.invariant

pub returns-clause-kept : goal.returns-clause-kept
returns-clause-kept c =
    filled_keeps c.args.self.now c.args.values.now c.loop-number.values c.loop-number.number (subst IsGraph c.self.view_is c.self.invariant.graph) c.loop-number.invariant

pub returns-clause-only : goal.returns-clause-only
returns-clause-only c = λ w valuation agree k within.
    let graph = subst IsGraph c.self.view_is c.self.invariant.graph in
    let fits = filled_fits c.args.self.now c.args.values.now c.loop-number.values c.loop-number.number (all_done c) c.loop-number.invariant in
    let keeps = filled_keeps c.args.self.now c.args.values.now c.loop-number.values c.loop-number.number graph c.loop-number.invariant in
    one_valuation c.args.self.now w (bit_at c.loop-number.values) graph valuation fits (λ j listed. agree j listed ∙ sym (keeps j listed)) k within
