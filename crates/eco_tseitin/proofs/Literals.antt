-- What literals say of edges.
use Rattle.std.proofs.Common.{◌≡◌, ◌↔◌, ℕ, Bool, true, false, not, cond, List, refl, sym, ◌∙◌, ap, subst}
use Rattle.std.specs.List.{Contains}
use Rattle.eco_aig.specs.declared.edge.Edge.{Edge}
use Rattle.eco_aig.specs.declared.node.Node.{Node}
use Rattle.eco_aig.specs.declared.node.Node.TheVariants.{Zero}
use Rattle.eco_aig.specs.Edges.{value_of}
use Rattle.eco_aig.specs.Graph.{IsGraph, IsValuation}
use Rattle.eco_trace.specs.declared.clause.Lit.{Lit}
use Rattle.eco_trace.specs.Clauses.{Valuation, IsTrueIn, Satisfies}
use Rattle.eco_tseitin.specs.Encoding.{Encoding, literal_of, IsEncoding}
use Rattle.eco_tseitin.specs.Models.{HasNodeBits, IsEdgeIn}
use Rattle.eco_tseitin.proofs.Modelled.{bit_true, true_bit, modelled_with}

-- an edge's literal is true where the edge's bit is 1
pub literal_value : (graph : List Node) (nodes : List ℕ) (v : Valuation) (has : HasNodeBits graph nodes v) (e : Edge) (l : Lit) → Contains nodes e.node → l ≡ literal_of nodes e → IsEdgeIn v l has.bits e
literal_value graph nodes v has e l c is =
    let c_sign = e.complemented in
    let same = has.same e.node c in
    subst (λ (x : Lit). IsEdgeIn v x has.bits e) (sym is) (
      λ true_lit. ap (λ b. cond c_sign (not b) b) (sym same) ∙ bit_true c_sign (v (literal_of nodes e).var.0) true_lit,
      λ one. true_bit c_sign (v (literal_of nodes e).var.0) (ap (λ b. cond c_sign (not b) b) same ∙ one),
    )

-- the bit of an edge to the constant
sign_bit : (c : Bool) → cond c (not false) false ≡ c
sign_bit true = refl
sign_bit false = refl

constant_bit : (graph : List Node) (w : ℕ → Bool) (e : Edge) → IsGraph graph → IsValuation graph w → e.node ≡ 0 → value_of w e ≡ e.complemented
constant_bit graph w e is valuation zero_node =
    ap (λ b. cond e.complemented (not b) b) (ap w zero_node ∙ valuation.fits 0 Zero is.constant) ∙ sign_bit e.complemented

pub constant_literal : (graph : List Node) (roots : List Edge) (asserted : List Lit) (encoding : Encoding) (e : Edge) (l : Lit) → IsEncoding graph roots asserted encoding → Contains encoding.nodes e.node → l ≡ literal_of encoding.nodes e → e.node ≡ 0 → (v : Valuation) → Satisfies v encoding.clauses → IsTrueIn v l ↔ (e.complemented ≡ true)
constant_literal graph roots asserted encoding e l is c l_is zero_node v holds =
    let has = ((modelled_with graph roots asserted encoding is v).0 holds).0 in
    let told = literal_value graph encoding.nodes v has e l c l_is in
    let bit = constant_bit graph has.bits e is.of_graph has.valuation zero_node in
    (λ t. sym bit ∙ told.0 t, λ s. told.1 (bit ∙ s))
