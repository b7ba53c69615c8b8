-- What the answers to questions about nodes say.
use Rattle.std.specs.Prelude.{◌≡◌, ℕ, Bool, false, List, [], ◌∷◌, length}
use Rattle.eco_aig.specs.declared.edge.Edge.{Edge}
use Rattle.eco_aig.specs.declared.node.Node.{Node}
use Rattle.eco_lists.specs.Bits.{exactly_one}
use Rattle.eco_aig.specs.Edges.{value_of}
use Rattle.eco_aig.specs.Graph.{IsValuation, HasValue}
use Rattle.eco_trace.specs.declared.clause.Lit.{Lit}
use Rattle.eco_trace.specs.Clauses.{Valuation}
use Rattle.eco_trace.specs.Resolution.{Proof}
use Rattle.eco_trace.specs.Verdicts.{IsSpent}
use Rattle.eco_tseitin.specs.Encoding.{Encoding, IsEncoding}
use Rattle.eco_tseitin.specs.Models.{HasNodeBits, IsEdgeIn}
use Rattle.eco_sweep.specs.Parts.{Mirrors, IsCopy}
use Rattle.eco_sweep.specs.declared.question.Answer.{Answer}
use Rattle.eco_sweep.specs.declared.question.Answer.TheVariants.{Never, Sometimes, Spent, Unasked}
use Rattle.eco_sweep.specs.declared.question.Outcome.{Outcome}
use Rattle.eco_sweep.specs.declared.question.Outcome.TheVariants as outcomes

-- the edge's bit is 0 under every valuation
abbrev pub IsNever : List Node → Edge → Type 0
IsNever nodes e = (w : ℕ → Bool) → IsValuation nodes w → value_of w e ≡ false

-- the edges' bits are equal under every valuation
abbrev pub AreEqual : List Node → Edge → Edge → Type 0
AreEqual nodes a b = (w : ℕ → Bool) → IsValuation nodes w → value_of w a ≡ value_of w b

-- the edge is encoded, and its literal asserted
pub record IsAsserted (nodes : List Node) (e : Edge) (encoding : Encoding) : Type 0 where
  pub lit : Lit
  pub encoding_is : IsEncoding nodes (e ∷ []) (lit ∷ []) encoding
  pub value : (v : Valuation) (has : HasNodeBits nodes encoding.nodes v) → IsEdgeIn v lit has.bits e

-- a search gave up on whether the edge's bit can be 1: the clauses say just that it is, and a proof from them has just so many
-- learnt clauses, each of which was news and none of them empty
pub record IsQuestionSpent (nodes : List Node) (e : Edge) (limit : ℕ) : Type 0 where
  pub encoding : Encoding
  pub asserted : IsAsserted nodes e encoding
  pub proof : Proof
  pub spent : IsSpent (record { vars = length encoding.nodes; clauses = encoding.clauses }) limit proof

-- a search gave up on whether two edges differ: it was asked of a part that mirrors the graph, whether an edge can be 1 that
-- is 1 just where the copies of the two differ
pub record IsComparisonSpent (whole : List Node) (a b : Edge) (limit : ℕ) : Type 0 where
  pub nodes : List ℕ
  pub part : List Node
  pub copies : List Edge
  pub mirrors : Mirrors whole nodes part copies
  pub first : Edge
  pub first_copy : IsCopy nodes part copies a first
  pub second : Edge
  pub second_copy : IsCopy nodes part copies b second
  pub difference : Edge
  pub differs : HasValue part difference (λ w. exactly_one (value_of w first) (value_of w second))
  pub question : IsQuestionSpent part difference limit

-- only that something is never so has to be true
abbrev pub IfNever : Answer → Type 0 → Type 0
IfNever Never P = P
IfNever (Sometimes witness) P = Unit {0}
IfNever Spent P = Unit {0}
IfNever Unasked P = Unit {0}

-- only why an answer is open has to be true
abbrev pub IfSpent : Answer → Type 0 → Type 0
IfSpent Never P = Unit {0}
IfSpent (Sometimes witness) P = Unit {0}
IfSpent Spent P = P
IfSpent Unasked P = Unit {0}

-- only that edges are equal has to be true
abbrev pub IfEqual : Outcome → Type 0 → Type 0
IfEqual outcomes.Equal P = P
IfEqual outcomes.Apart P = Unit {0}
IfEqual outcomes.Spent P = Unit {0}
IfEqual outcomes.Cut P = Unit {0}

-- only why a comparison took too long has to be true
abbrev pub IfTooLong : Outcome → Type 0 → Type 0
IfTooLong outcomes.Equal P = Unit {0}
IfTooLong outcomes.Apart P = Unit {0}
IfTooLong outcomes.Spent P = P
IfTooLong outcomes.Cut P = Unit {0}
