-- The steps in order: inputs, the new root, the new count, all roots merged.
use Rattle.std.proofs.Common.{◌≡◌, ℕ, List, [], ◌∷◌, ◌++◌, length, subst, ◌∙◌, arith}
use Rattle.eco_trace.specs.Split.{Split}
use Rattle.eco_aig.specs.declared.edge.Edge.{Edge}
use Rattle.eco_merge.specs.Counting.{AreNoMore, IsGate, IsItem}
use Rattle.eco_functions.specs.Functions.{FunctionsValue}
use Rattle.eco_functions.specs.Parts.{functions_of, split_of, most_of}
use Rattle.eco_functions.proofs.Adding.{grown_few, inputs_grown}
use Rattle.eco_functions.proofs.Extending.{AreSteps, steps_functions, steps_more, steps_between, roots_within}
use Rattle.eco_functions.proofs.parts.Parts.add_interpolant.Goals as goal

pub sweep-requires-clause-roots : goal.sweep-requires-clause-roots
sweep-requires-clause-roots g c =
    let most = most_of c.args.two.now in
    roots_within (functions_of c.args.self.now) (length c.args.more.now) c.add_inputs.new.aig c.interpolant.new.aig most c.in_ok-root.root c.as_slice.result.now c.requires.functions
    c.in_ok-add_inputs.ensures.inputs c.in_ok-root.ensures.grows c.in_ok-root.ensures.edge (c.as_slice.ensures.value ∙ c.in_ok-push.ensures.items)

pub returns : goal.returns
returns g c =
    let old = functions_of c.args.self.now in
    let more = c.args.more.now in
    let new : FunctionsValue = record { nodes = c.sweep.new.aig; base = c.add_inputs.new.base.items; roots = c.in_ok-swept.swept.roots.items; counts = c.push-2.new.self.items } in
    let begun = c.add_inputs.new.aig in
    let mid = c.interpolant.new.aig in
    let most = most_of c.args.two.now in
    let split : Split = split_of c.args.two.now in
    let root = c.in_ok-root.root in
    let roots = c.as_slice.result.now in
    let inputs = c.in_ok-add_inputs.ensures in
    let made = c.in_ok-root.ensures in
    let merged = c.in_ok-swept.ensures in
    let listed = c.as_slice.ensures.value ∙ c.in_ok-push.ensures.items in
    let count : c.len.result ≡ length new.base = omega (arith, c.len.ensures, c.add_inputs.new.base.ok.0) in
    let steps : AreSteps old more begun mid most root roots new = record {
      functions = c.requires.functions;
      inputs = inputs.inputs;
      made = made.grows;
      listed = listed;
      merged = merged.grows;
      values = merged.values;
      reach = merged.inputs;
      graph = c.nodes.ensures.graph;
      base = inputs.base;
      counts = subst (λ (n : ℕ). c.push-2.new.self.items ≡ old.counts ++ n ∷ []) count c.in_ok-push-2.ensures.items;
    } in
    record {
      functions = steps_functions old more begun mid most root roots new steps;
      more = steps_more old more begun mid most root roots new steps;
      between = steps_between old more begun mid most root roots new split c.args.two.now.shared.now steps made.between;
      unlike = record { apart = c.in_ok-swept.swept.apart.items; entries = merged.entries; unlike = merged.unlike };
      gates = record {
        nodes = mid;
        root = root;
        before = record {
          inputs = inputs_grown old.nodes begun mid (length more) most inputs.inputs made.grows;
          few = grown_few old.nodes begun mid (length more) most inputs.count made.grows;
          edge = made.edge;
          between = made.between;
        };
        gates = subst (λ (list : List Edge). AreNoMore (IsGate new.nodes new.roots) (IsGate mid list)) listed merged.gates;
        items = subst (λ (list : List Edge). AreNoMore (IsItem new.nodes new.roots) (IsItem mid list)) listed merged.items;
      };
    }
