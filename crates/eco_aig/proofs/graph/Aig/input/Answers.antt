-- No node has the number of the new one, which stands behind the others.
use Rattle.std.proofs.Common.{◌≡◌, ◌++◌, [], ◌∷◌, length, sym, ◌∙◌, ap, subst, arith}
use Rattle.std.proofs.lemmas.Option.{slice_get_within}
use Rattle.eco_aig.specs.declared.node.Node.TheVariants.{Input}
use Rattle.eco_aig.specs.Edges.{plain}
use Rattle.eco_aig.specs.Graph.{IsGraph, inputs_of}
use Rattle.eco_aig.proofs.Inserting.{inserted_new}
use Rattle.eco_aig.proofs.Growing.{graph_push}
use Rattle.eco_aig.proofs.Inputs.{inputs_of-input}
use Rattle.eco_aig.proofs.graph.Aig.input.Goals as goal

is_last : (c : goal.In-Ok) → c.insert.new.self.keys ≡ c.self.inside.nodes.keys ++ Input c.len-number.result ∷ []
is_last c =
    let old = c.self.inside.nodes.keys in
    let n = c.len-number.result in
    inserted_new old c.insert.new.self.keys (Input n) c.in-Ok.ensures.keys (λ k at.
    let same = c.self.invariant.graph.inputs k n at in
    let within = slice_get_within old k (Input n) at in
    omega (arith, same, within, c.len-number.ensures.len))

pub invariant_of-self-in-Ok : goal.invariant_of-self-in-Ok
invariant_of-self-in-Ok c =
    let old = c.self.inside.nodes.keys in
    let n = c.len-number.result in
    record {
      graph = subst IsGraph (sym (is_last c)) (graph_push old (Input n) c.self.invariant.graph c.len-number.ensures.len (λ k at.
          let same = c.self.invariant.graph.inputs k n at in
          let within = slice_get_within old k (Input n) at in
          omega (arith, same, within, c.len-number.ensures.len)));
      inputs = c.in_ok-push.ensures.items ∙ ap (λ list. list ++ n ∷ []) c.self.invariant.inputs ∙ sym (ap inputs_of (is_last c) ∙ inputs_of-input old n);
    }

pub returns-in-Ok-clause-ok : goal.returns-in-Ok-clause-ok
returns-in-Ok-clause-ok c =
    let count : c.len-number.result ≡ length c.args.self.now = c.len-number.ensures.len ∙ ap length c.self.view_is in
    (ap plain count, is_last c ∙ ap (λ list. list ++ Input c.len-number.result ∷ []) c.self.view_is ∙ ap (λ n. c.args.self.now ++ Input n ∷ []) count)
