-- The steps in order: the edge, the chosen roots, all roots merged.
use Rattle.std.proofs.Common.{List, length, refl, subst, sym}
use Rattle.eco_aig.specs.declared.edge.Edge.{Edge}
use Rattle.eco_functions.specs.Functions.{FunctionsValue}
use Rattle.eco_functions.specs.Improving.{AreChosen}
use Rattle.eco_functions.specs.Parts.{functions_of}
use Rattle.eco_functions.proofs.Joining.{AreReplacing, replaced_functions, replaced_is, replaced_stands}
use Rattle.eco_functions.proofs.replacement.replace.Goals as goal

pub returns-clause-functions : goal.returns-clause-functions
returns-clause-functions g c =
    let old = functions_of c.args.parts.now in
    let mid = c.graft.new.into in
    let from = c.args.candidate.now.aig in
    let root = c.args.candidate.now.root in
    let edge = c.in_ok-edge.edge in
    let roots = c.as_slice.result.now in
    let chosen = c.as_slice-2.result.now in
    let merged = c.in_ok-merged.ensures in
    let new : FunctionsValue = record { nodes = c.sweep.new.aig; base = old.base; roots = c.in_ok-merged.merged.roots.items; counts = old.counts } in
    let is : AreReplacing old mid (length from) from root edge chosen new = record {
      functions = c.requires.functions;
      last = c.requires.last;
      source = c.nodes.ensures.graph;
      inputs = c.requires.inputs;
      made = c.in_ok-edge.ensures.grows;
      graft = c.in_ok-edge.ensures.value;
      chosen_roots = subst (λ (list : List Edge). AreChosen mid list edge chosen) c.as_slice.ensures.value
          (subst (λ (list : List Edge). AreChosen mid roots edge list) (sym c.as_slice-2.ensures.value) c.in_ok-roots.ensures.chosen);
      merged = merged.grows;
      values = merged.values;
      reach = merged.inputs;
      gates = merged.gates;
      items = merged.items;
      graph = c.nodes-2.ensures.graph;
      base = refl;
      counts = refl;
    } in
    replaced_functions old mid (length from) from root edge chosen new is

pub returns-clause-between : goal.returns-clause-between
returns-clause-between g c =
    let old = functions_of c.args.parts.now in
    let mid = c.graft.new.into in
    let from = c.args.candidate.now.aig in
    let root = c.args.candidate.now.root in
    let edge = c.in_ok-edge.edge in
    let roots = c.as_slice.result.now in
    let chosen = c.as_slice-2.result.now in
    let merged = c.in_ok-merged.ensures in
    let new : FunctionsValue = record { nodes = c.sweep.new.aig; base = old.base; roots = c.in_ok-merged.merged.roots.items; counts = old.counts } in
    let is : AreReplacing old mid (length from) from root edge chosen new = record {
      functions = c.requires.functions;
      last = c.requires.last;
      source = c.nodes.ensures.graph;
      inputs = c.requires.inputs;
      made = c.in_ok-edge.ensures.grows;
      graft = c.in_ok-edge.ensures.value;
      chosen_roots = subst (λ (list : List Edge). AreChosen mid list edge chosen) c.as_slice.ensures.value
          (subst (λ (list : List Edge). AreChosen mid roots edge list) (sym c.as_slice-2.ensures.value) c.in_ok-roots.ensures.chosen);
      merged = merged.grows;
      values = merged.values;
      reach = merged.inputs;
      gates = merged.gates;
      items = merged.items;
      graph = c.nodes-2.ensures.graph;
      base = refl;
      counts = refl;
    } in
    replaced_stands old mid (length from) from root edge chosen new is

pub returns-clause-replaced : goal.returns-clause-replaced
returns-clause-replaced g c =
    let old = functions_of c.args.parts.now in
    let mid = c.graft.new.into in
    let from = c.args.candidate.now.aig in
    let root = c.args.candidate.now.root in
    let edge = c.in_ok-edge.edge in
    let roots = c.as_slice.result.now in
    let chosen = c.as_slice-2.result.now in
    let merged = c.in_ok-merged.ensures in
    let new : FunctionsValue = record { nodes = c.sweep.new.aig; base = old.base; roots = c.in_ok-merged.merged.roots.items; counts = old.counts } in
    let is : AreReplacing old mid (length from) from root edge chosen new = record {
      functions = c.requires.functions;
      last = c.requires.last;
      source = c.nodes.ensures.graph;
      inputs = c.requires.inputs;
      made = c.in_ok-edge.ensures.grows;
      graft = c.in_ok-edge.ensures.value;
      chosen_roots = subst (λ (list : List Edge). AreChosen mid list edge chosen) c.as_slice.ensures.value
          (subst (λ (list : List Edge). AreChosen mid roots edge list) (sym c.as_slice-2.ensures.value) c.in_ok-roots.ensures.chosen);
      merged = merged.grows;
      values = merged.values;
      reach = merged.inputs;
      gates = merged.gates;
      items = merged.items;
      graph = c.nodes-2.ensures.graph;
      base = refl;
      counts = refl;
    } in
    replaced_is old mid (length from) from root edge chosen new is
