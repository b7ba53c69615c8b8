-- The merged edges have the values of the nets' edges.
use Rattle.std.proofs.Common.{◌≡◌, ◌<◌, length, sym, ◌∙◌, ap, subst}
use Rattle.std.specs.List.{All}
use Rattle.std.proofs.lemmas.List.{length-map}
use Rattle.std.proofs.lemmas.Result.{IfOk-weaker}
use Rattle.std.proofs.lemmas.Slice.Zip.{AllZip-long}
use Rattle.eco_meaning.specs.Circuit.{Circuit, names}
use Rattle.eco_gates.specs.declared.gate.NetId.{NetId}
use Rattle.eco_netlist.specs.Netlists.{AreNets, names_at}
use Rattle.eco_aig.specs.declared.edge.Edge.{Edge}
use Rattle.eco_aig.specs.Edges.{value_of}
use Rattle.eco_aig.specs.Graph.{HasValue}
use Rattle.eco_compile.specs.Compiled.{AreEdges}
use Rattle.eco_aig.specs.Swept.{AreImages}
use Rattle.eco_compile.proofs.Valuing.{edge_at, picked_within}
use Rattle.eco_pose.specs.Boards.{AreBaseEdges}
use Rattle.eco_desk.specs.Boards.{AreNetEdges}
use Rattle.eco_desk.proofs.SweptLaws.{base_edges_stay, base_images, base_picked, continues_same}
use Rattle.eco_desk.proofs.swept.SweptBoard.net_edges.Goals as goal

pub picked_edges-requires : goal.picked_edges-requires
picked_edges-requires c =
    let (n, are, within) = c.requires.nets in
    subst (λ m. All (λ (net : NetId). net.0 < m) c.args.nets.now) (sym are.count) within

pub merged-requires-clause-edges : goal.merged-requires-clause-edges
merged-requires-clause-edges c =
    let (n, are, within) = c.requires.nets in
    subst (AreEdges c.args.self.now.board.graph) (sym (c.as_slice.ensures.value ∙ c.in_ok-picked.ensures))
    (picked_within n c.args.self.now.board.graph c.args.edges.now c.args.nets.now are.count within are.valued.within)

pub returns-in_err-picked-clause-continues : goal.returns-in_err-picked-clause-continues
returns-in_err-picked-clause-continues c = continues_same c.args.self.now c.requires.merged

pub returns-clause-edges : goal.returns-clause-edges
returns-clause-edges c =
    let nets = c.args.nets.now in
    let old = c.args.self.now in
    let new = c.merged.new.self in
    let picked = c.in_ok-picked.picked.items in
    IfOk-weaker c.merged.result (λ images. AreImages new.board.graph c.as_slice.result.now images.items)
    (λ images. (n : Circuit) → AreNetEdges n old.board c.args.edges.now → AreNets (names n) nets → AreBaseEdges n (names_at (names n) nets) new.board.graph new.board.inputs.items images.items)
    (λ images are n edges within.
    let base = names_at (names n) nets in
    base_images n base new.board.graph new.board.inputs.items picked images.items (subst (λ list. AreImages new.board.graph list images.items) c.as_slice.ensures.value are)
    (base_edges_stay n base old new picked c.merged.ensures.continues
    (subst (AreBaseEdges n base old.board.graph old.board.inputs.items) (sym c.in_ok-picked.ensures) (base_picked n old.board c.args.edges.now nets edges within))))
    c.merged.ensures.images

pub returns-clause-count : goal.returns-clause-count
returns-clause-count c =
    let graph = c.merged.new.self.board.graph in
    IfOk-weaker c.merged.result (λ images. AreImages graph c.as_slice.result.now images.items) (λ images. length images.items ≡ length c.args.nets.now)
    (λ images are.
    AllZip-long (λ (e r : Edge). HasValue graph r (λ w. value_of w e)) c.as_slice.result.now images.items are
    ∙ ap length (c.as_slice.ensures.value ∙ c.in_ok-picked.ensures) ∙ length-map c.args.nets.now (edge_at c.args.edges.now))
    c.merged.ensures.images
