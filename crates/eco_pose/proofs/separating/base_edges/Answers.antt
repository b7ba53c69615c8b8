-- The base's edges have the values of the base.
use Rattle.std.proofs.Common.{ℕ, List, ◌++◌, length, arith, sym, ◌∙◌, ap, subst}
use Rattle.std.proofs.lemmas.List.{length-map}
use Rattle.std.proofs.lemmas.Result.{IfOk-weaker}
use Rattle.eco_meaning.specs.Circuit.{names, AreTargets}
use Rattle.eco_netlist.specs.Netlists.{name_at, names_at}
use Rattle.eco_gates.specs.declared.gate.NetId.{NetId}
use Rattle.eco_compile.specs.Compiled.{AreEdges}
use Rattle.eco_compile.specs.Valued.{AreValued}
use Rattle.eco_pose.specs.Boards.{AreBaseEdges, constant_edge}
use Rattle.eco_pose.proofs.RowLaws.{constant_edges, base_from_valued}
use Rattle.eco_pose.proofs.separating.base_edges.Goals as goal

pub valued_edges-requires-clause-open_edges : goal.valued_edges-requires-clause-open_edges
valued_edges-requires-clause-open_edges c =
    subst (AreEdges c.args.board.now.graph) (sym (c.as_slice-3.ensures.value ∙ c.in_ok-opens.ensures)) (constant_edges c.args.board.now.graph c.as_slice.result.now c.requires.laid_out.constant)

pub returns-clause-edges : goal.returns-clause-edges
returns-clause-edges c =
    let n = c.args.n.now in
    let board = c.args.board.now in
    let new = c.valued_edges.new.aig in
    let base = names_at (names n) c.args.base.now in
    let targets = names_at (names n) c.targets.result.now in
    IfOk-weaker c.valued_edges.result (λ edges. (targets : List (List ℕ)) → AreTargets n targets → AreValued n new (n.inputs ++ targets ++ base) (c.as_slice-2.result.now ++ c.as_slice-3.result.now ++ edges.items))
    (λ edges. AreBaseEdges n base new board.inputs.items edges.items)
    (λ edges values.
    subst (λ inputs. AreBaseEdges n base new inputs edges.items) c.as_slice-2.ensures.value
    (base_from_valued n targets base new c.as_slice-2.result.now c.as_slice-3.result.now edges.items (ap length c.as_slice-2.ensures.value ∙ c.requires.laid_out.input_count)
    (omega (arith, ap length c.as_slice-3.ensures.value, ap length c.in_ok-opens.ensures, length-map c.as_slice.result.now constant_edge, ap length c.as_slice.ensures.value, c.in_ok-zeros.ensures.len, length-map c.targets.result.now (λ (net : NetId). name_at (names n) net.0)))
    (values targets c.targets.ensures.named)))
    c.valued_edges.ensures.values
