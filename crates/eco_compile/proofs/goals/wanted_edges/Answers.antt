-- The outputs are found by their names.
use Rattle.std.proofs.Common.{◌≡◌, ℕ, Bool, List, map, sym, subst}
use Rattle.eco_meaning.specs.Circuit.{names}
use Rattle.eco_lists.proofs.Values.{IfOk-both}
use Rattle.eco_netlist.specs.Netlists.{names_at}
use Rattle.eco_netlist.proofs.SoundNetlists.{sound_netlist}
use Rattle.eco_aig.specs.declared.node.Node.{Node}
use Rattle.eco_aig.specs.Edges.{bits_of}
use Rattle.eco_compile.specs.Compiled.{AreEdges, values_of}
use Rattle.eco_compile.specs.Bound.{AreNetEdges, AreWanted}
use Rattle.eco_compile.proofs.Asked.{names_within, wanted_are}
use Rattle.eco_compile.proofs.goals.wanted_edges.Goals as goal

pub edges_by_name-requires-clause-named : goal.edges_by_name-requires-clause-named
edges_by_name-requires-clause-named c =
    let f = c.args.f.now in
    let spec = c.args.spec.now in
    names_within f.outputs (names spec) (names f) c.outputs.result.now c.outputs.ensures.named (λ name is. (sound_netlist spec c.nets.ensures.checked).outputs name (c.requires.outputs name is))

pub returns-clause-wanted : goal.returns-clause-wanted
returns-clause-wanted c =
    let f = c.args.f.now in
    let spec = c.args.spec.now in
    let table = c.args.table.now in
    let nodes = c.closed_edges.new.aig in
    let edges = c.in_ok-edges.edges.items in
    let same = c.as_slice.ensures.value in
    let nets = c.outputs.result.now in
    let found = c.as_slice.result.now in
    IfOk-both c.edges_by_name.result (λ outputs. (nodes : List Node) → AreEdges nodes found → AreEdges nodes outputs.items) (λ outputs. (w : ℕ → Bool) → map (values_of spec w found) (names_at (names f) nets) ≡ bits_of w outputs.items) (λ outputs. AreWanted f spec table nodes outputs.items) (λ outputs within values.
    wanted_are f spec table found outputs.items nodes nets c.nets.ensures.checked c.requires.closed c.requires.inputs c.requires.no_others c.requires.outputs c.outputs.ensures.named (within nodes (subst (AreEdges nodes) (sym same) c.in_ok-edges.ensures.edges)) (subst (AreNetEdges f spec table nodes) (sym same) c.in_ok-edges.ensures.values) values) c.edges_by_name.ensures.edges c.edges_by_name.ensures.values
