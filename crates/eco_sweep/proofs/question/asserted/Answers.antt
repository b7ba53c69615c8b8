-- The edge is encoded first, then its literal is asserted.
use Rattle.std.proofs.Common.{Result, Ok, Err, IfOk, ℕ, List, [], ◌∷◌, sym, ap, subst}
use Rattle.std.proofs.lemmas.List.{append-nil}
use Rattle.eco_trace.specs.Clauses.{Valuation}
use Rattle.eco_tseitin.specs.Encoding.{Encoding, HasGrown}
use Rattle.eco_tseitin.specs.Models.{HasNodeBits, IsEdgeIn}
use Rattle.eco_sweep.specs.Questions.{IsAsserted}
use Rattle.eco_sweep.proofs.question.asserted.Goals as goal

-- what holds whatever a call answers holds where it answers
always : {T E : Type 0} (r : Result T E) (P : Type 0) → P → IfOk r (λ _. P)
always (Ok x) P p = p
always (Err e) P p = tt

pub returns : goal.returns
returns c =
    let graph = c.args.graph.now in
    let edge = c.args.edge in
    let lit = c.in_ok-literal.literal in
    let same : HasGrown graph graph = record { added = []; behind = sym (append-nil graph) } in
    let encoded = c.in_ok-literal.ensures.encoding graph [] [] c.requires.fresh same in
    always c.input_variables.result (IsAsserted graph edge c.assert_lit.new.self) (record {
      lit = lit;
      encoding_is = c.in_ok-assert_lit.ensures.encoding graph (edge ∷ []) [] encoded;
      value = subst (λ (nodes : List ℕ). (v : Valuation) (has : HasNodeBits graph nodes v) → IsEdgeIn v lit has.bits edge) (sym (ap (λ (x : Encoding). x.nodes) c.in_ok-assert_lit.ensures.ok)) c.in_ok-literal.ensures.value;
    })
