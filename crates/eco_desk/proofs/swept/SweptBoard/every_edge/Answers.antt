-- All nets have edges.
use Rattle.std.proofs.Common.{length, sym, ◌∙◌, ap, subst}
use Rattle.std.specs.Global.{Vec}
use Rattle.std.proofs.lemmas.List.{length-map}
use Rattle.eco_gates.specs.declared.gate.NetId.{NetId}
use Rattle.eco_meaning.specs.Circuit.{names}
use Rattle.eco_netlist.specs.Netlists.{AreNets, name_at, names_at}
use Rattle.eco_aig.specs.declared.edge.Edge.{Edge}
use Rattle.eco_compile.specs.Compiled.{needed_nodes}
use Rattle.eco_pose.specs.Boards.{AreBaseEdges}
use Rattle.eco_desk.proofs.SweptLaws.{continues_grown, continues_same}
use Rattle.eco_desk.proofs.swept.SweptBoard.every_edge.Goals as goal

pub base_edges-requires-clause-base : goal.base_edges-requires-clause-base
base_edges-requires-clause-base c = subst (AreNets (names c.args.netlist.now)) (sym c.as_slice.ensures.value) c.in_ok-nets.ensures.nets

pub returns-in_err-nets-clause-continues : goal.returns-in_err-nets-clause-continues
returns-in_err-nets-clause-continues c = continues_same c.args.self.now c.requires.merged

pub returns-in_err-edges-clause-continues : goal.returns-in_err-edges-clause-continues
returns-in_err-edges-clause-continues c =
    continues_grown c.args.self.now c.base_edges.new.board (needed_nodes c.args.netlist.now) c.base_edges.ensures.keeps c.base_edges.ensures.grows c.requires.merged

pub returns-clause-continues : goal.returns-clause-continues
returns-clause-continues c =
    continues_grown c.args.self.now c.base_edges.new.board (needed_nodes c.args.netlist.now) c.base_edges.ensures.keeps c.base_edges.ensures.grows c.requires.merged

pub returns-clause-edges : goal.returns-clause-edges
returns-clause-edges c =
    let n = c.args.netlist.now in
    let board = c.base_edges.new.board in
    let nets = c.in_ok-nets.nets.items in
    let edges = c.in_ok-edges.edges.items in
    record {
      count = c.in_ok-edges.ensures.count ∙ ap length c.as_slice.ensures.value ∙ sym (length-map nets (λ (net : NetId). name_at (names n) net.0)) ∙ ap length c.in_ok-nets.ensures.all;
      valued = subst (λ (inputs : Vec Edge). AreBaseEdges n (names n) board.graph inputs.items edges) (sym c.base_edges.ensures.keeps.inputs)
          (subst (λ base. AreBaseEdges n base board.graph c.args.self.now.board.inputs.items edges) (ap (names_at (names n)) c.as_slice.ensures.value ∙ c.in_ok-nets.ensures.all) c.in_ok-edges.ensures.edges);
    }
