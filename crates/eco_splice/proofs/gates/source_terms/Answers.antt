use Rattle.std.proofs.Common.{◌≡◌, [], ◌∷◌, cond, ap, sym, subst}
use Rattle.std.specs.List.{All, Contains}
use Rattle.std.proofs.lemmas.List.Elements.{All-head}
use Rattle.eco_aig.specs.declared.edge.Edge.{Edge}
use Rattle.eco_aig.specs.Edges.{plain}
use Rattle.eco_aig.specs.Reached.{operands_at}
use Rattle.eco_splice.specs.GraphPatch.{sources}
use Rattle.eco_splice.proofs.gates.source_terms.Goals as goal

pub add_term-requires-clause-listed : goal.add_term-requires-clause-listed
add_term-requires-clause-listed c =
    let nodes = c.args.aig.now in
    let edges = c.args.nets.now.edges.items in
    let e = c.args.edge in
    let one : sources nodes e ≡ plain e.node ∷ [] = ap (λ b. cond b (plain e.node ∷ []) (operands_at nodes e.node)) c.if-edge.true in
    let all : All (Contains edges) (plain e.node ∷ []) = subst (λ l. All (Contains edges) l) one c.requires.sources in
    subst (λ (x : Edge). Contains edges x) (sym c.edge_to.ensures) (All-head (Contains edges) (plain e.node) [] all)

pub add_operands-requires-clause-operands : goal.add_operands-requires-clause-operands
add_operands-requires-clause-operands c =
    let nodes = c.args.aig.now in
    let edges = c.args.nets.now.edges.items in
    let e = c.args.edge in
    let same : sources nodes e ≡ operands_at nodes e.node = ap (λ b. cond b (plain e.node ∷ []) (operands_at nodes e.node)) c.if-edge.false in
    subst (λ l. All (Contains edges) l) same c.requires.sources
