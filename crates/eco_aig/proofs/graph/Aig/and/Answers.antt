-- A conjunction that needs no node has its value and no node; another has the value of its node.
use Rattle.std.proofs.Common.{◌≡◌, ◌++◌, [], ◌∷◌, ◌⊎◌, false, ◌&&◌, List, Some, Ok, Err, Result, length, inl, inr, sym, subst}
use Rattle.std.specs.List.{slice_get}
use Rattle.std.specs.Result.{IfOk, OnErr}
use Rattle.std.proofs.lemmas.Result.{IfOk-weaker}
use Rattle.eco_meaning.specs.declared.memory.OutOfMemory.{OutOfMemory}
use Rattle.eco_aig.specs.declared.edge.Edge.{Edge}
use Rattle.eco_aig.specs.declared.node.Node.{Node}
use Rattle.eco_aig.specs.declared.node.Node.TheVariants.{And}
use Rattle.eco_aig.specs.Edges.{value_of}
use Rattle.eco_aig.specs.Graph.{Grows, HasValue}
use Rattle.eco_aig.proofs.Growing.{grows_same, grows_and}
use Rattle.eco_aig.proofs.Conjunctions.{simple_value, simple_no_node, node_value}
use Rattle.eco_aig.proofs.graph.Aig.and.Goals as goal

pub returns-in-Some-clause-value : goal.returns-in-Some-clause-value
returns-in-Some-clause-value c =
    simple_value c.args.self.now c.args.a c.args.b c.in-Some.edge c.nodes.ensures.graph c.requires.first c.requires.second (sym c.in-Some.ensures)

pub returns-in-Some-clause-again : goal.returns-in-Some-clause-again
returns-in-Some-clause-again c = λ k at.
    absurd (simple_no_node c.args.self.now c.args.a c.args.b c.in-Some.edge k c.nodes.ensures.graph (sym c.in-Some.ensures) at)

pub returns-in-None-clause-value : goal.returns-in-None-clause-value
returns-in-None-clause-value c =
    IfOk-weaker c.node_of.result (λ e. (e.complemented ≡ false) × (slice_get c.node_of.new.self e.node ≡ Some (And c.in_order.result.0 c.in_order.result.1))) (λ e. HasValue c.node_of.new.self e (λ w. value_of w c.args.a && value_of w c.args.b)) (λ e is.
    node_value c.node_of.new.self c.args.a c.args.b e is.0 (subst (λ (p : Edge × Edge). slice_get c.node_of.new.self e.node ≡ Some (And p.0 p.1)) c.in_order.ensures is.1)) c.node_of.ensures.node

grows_by_result : (r : Result Edge OutOfMemory) (old new : List Node) (a b : Edge) → IfOk r (λ e. (new ≡ old) ⊎ ((new ≡ old ++ And a b ∷ []) × (e.node ≡ length old))) → OnErr r (new ≡ old) → Grows old new 1
grows_by_result (Ok e) old new a b added none = elim added [ inl same ↦ grows_same old new 1 same | inr more ↦ grows_and old new a b more.0 ]
grows_by_result (Err e) old new a b added none = grows_same old new 1 none

pub returns-in-None-clause-grows : goal.returns-in-None-clause-grows
returns-in-None-clause-grows c =
    grows_by_result c.node_of.result c.args.self.now c.node_of.new.self c.in_order.result.0 c.in_order.result.1 c.node_of.ensures.added c.node_of.ensures.err
