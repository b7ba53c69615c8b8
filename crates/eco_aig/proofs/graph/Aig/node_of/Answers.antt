-- The node was found, or added behind the others.
use Rattle.std.proofs.Common.{◌≡◌, List, [], ◌∷◌, ◌++◌, Some, Ok, length, inl, inr, sym, ◌∙◌, ap, subst}
use Rattle.std.specs.List.{slice_get}
use Rattle.std.proofs.lemmas.Bool.{true≢false}
use Rattle.eco_aig.specs.declared.node.Node.{Node}
use Rattle.eco_aig.specs.declared.node.Node.TheVariants.{And}
use Rattle.eco_aig.specs.Edges.{plain}
use Rattle.eco_aig.specs.Graph.{AreOperands, IsGraph, inputs_of}
use Rattle.eco_aig.proofs.Inserting.{IsInserted, inserted, inserted_found, found_by_test}
use Rattle.eco_aig.proofs.Growing.{graph_push}
use Rattle.eco_aig.proofs.Inputs.{inputs_of-and}
use Rattle.eco_aig.proofs.graph.Aig.node_of.Goals as goal

is_inserted : (c : goal.In_ok-index) → IsInserted c.self.inside.nodes.keys c.insert_full.new.self.keys (And c.args.first c.args.second) c.in_ok-index.index
is_inserted c =
    inserted c.self.inside.nodes.keys c.insert_full.new.self.keys (And c.args.first c.args.second) c.in_ok-index.index c.in_ok-index.ensures.keys c.in_ok-index.ensures.index

pub returns-in_err-index-clause-found : goal.returns-in_err-index-clause-found
returns-in_err-index-clause-found c = λ k at.
    let old = c.self.inside.nodes.keys in
    let here : slice_get old k ≡ Some (And c.args.first c.args.second) = ap (λ list. slice_get list k) c.self.view_is ∙ at in
    absurd (true≢false (sym (found_by_test old (And c.args.first c.args.second) k here) ∙ c.in_err-index.ensures.absent))

pub invariant_of-self-2 : goal.invariant_of-self-2
invariant_of-self-2 c =
    let old = c.self.inside.nodes.keys in
    let new = c.insert_full.new.self.keys in
    let graph : IsGraph old = c.self.invariant.graph in
    elim (is_inserted c).cases [
      | inl same ↦ record {
        graph = subst IsGraph (sym same.0) graph;
        inputs = c.self.invariant.inputs ∙ ap inputs_of (sym same.0);
      }
      | inr more ↦ record {
        graph = subst IsGraph (sym more.0) (graph_push old (And c.args.first c.args.second) graph (subst (λ (list : List Node). AreOperands (length list) c.args.first c.args.second) (sym c.self.view_is) c.requires.operands) more.2);
        inputs = c.self.invariant.inputs ∙ sym (ap inputs_of more.0 ∙ inputs_of-and old c.args.first c.args.second);
      }
    ]

pub returns-clause-found : goal.returns-clause-found
returns-clause-found c = λ k at.
    let old = c.self.inside.nodes.keys in
    let here : slice_get old k ≡ Some (And c.args.first c.args.second) = ap (λ list. slice_get list k) c.self.view_is ∙ at in
    let found = inserted_found old c.insert_full.new.self.keys (And c.args.first c.args.second) c.in_ok-index.index k c.self.invariant.graph (is_inserted c) here in
    (ap (λ n. Ok (plain n)) found.0, found.1 ∙ c.self.view_is)

pub returns-clause-added : goal.returns-clause-added
returns-clause-added c = elim (is_inserted c).cases [
  | inl same ↦ inl (same.0 ∙ c.self.view_is)
  | inr more ↦ inr (more.0 ∙ ap (λ list. list ++ And c.args.first c.args.second ∷ []) c.self.view_is, more.1 ∙ ap length c.self.view_is)
]
