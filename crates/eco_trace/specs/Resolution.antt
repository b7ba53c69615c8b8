-- Resolution, chains and proofs.
use Rattle.std.specs.Prelude.{◌≡◌, ◌≢◌, ◌↔◌, ◌⊎◌, ℕ, ◌-◌, List, [], ◌∷◌, ◌++◌, length, take, map, slice_get, Option, Some, All, Contains}
use Rattle.std.specs.Option.{option_map}
use Rattle.eco_trace.specs.declared.clause.Var.{Var}
use Rattle.eco_trace.specs.declared.clause.Lit.{Lit}
use Rattle.eco_trace.specs.declared.node.NodeId.{NodeId}
use Rattle.eco_trace.specs.declared.node.Link.{Link}
use Rattle.eco_trace.specs.Clauses.{complement, IsClause}

-- one of the two clauses holds the pivot variable with one sign, the other with the other sign
pub record IsOpposed (left right : List Lit) (pivot : Var) : Type 0 where
  pub lit : Lit
  pub variable : lit.var ≡ pivot
  pub in_left : Contains left lit
  pub in_right : Contains right (complement lit)

-- the resolvent of two clauses on a pivot variable: they hold it with opposite signs, and the resolvent is their
-- union without these two literals, which is a clause too
pub record IsResolvent (left right : List Lit) (pivot : Var) (clause : List Lit) : Type 0 where
  pub opposed : IsOpposed left right pivot
  pub clause_itself : IsClause clause
  pub members : (l : Lit) → Contains clause l ↔ ((Contains left l ⊎ Contains right l) × (l.var ≢ pivot))

-- the next clause of a chain: the clause so far, resolved with the one that the link names
pub record IsLinked (before : List (List Lit)) (so_far : List Lit) (link : Link) (next : List Lit) : Type 0 where
  pub other : List Lit
  pub other_at : slice_get before link.with.0 ≡ Some other
  pub resolvent : IsResolvent so_far other link.pivot next

-- from a clause, link by link, to the last clause of a chain
abbrev pub Derives : List (List Lit) → List Lit → List Link → List Lit → Type 0
Derives before so_far [] last = so_far ≡ last
Derives before so_far (link ∷ links) last =
    (next : List Lit) × IsLinked before so_far link next × Derives before next links last

-- the chain gives this clause, from the clauses that stand before
pub record Gives (before : List (List Lit)) (start : NodeId) (links : List Link) (clause : List Lit) : Type 0 where
  pub begin : List Lit
  pub begin_at : slice_get before start.0 ≡ Some begin
  pub derives : Derives before begin links clause

-- the chain is legal: it gives a clause
abbrev pub IsLegalChain : List (List Lit) → NodeId → List Link → Type 0
IsLegalChain before start links = (clause : List Lit) × Gives before start links clause

-- a learnt clause with its chain
pub record Learnt : Type 0 where
  pub start : NodeId
  pub links : List Link
  pub clause : List Lit

-- its chain
abbrev pub chain_of : Learnt → NodeId × List Link
chain_of n = (n.start, n.links)

-- the clauses that a proof begins with, and those that it adds, each with its chain
pub record Proof : Type 0 where
  pub originals : List (List Lit)
  pub learnt : List Learnt

-- the first clauses of a proof: the originals, and this many learnt ones
abbrev pub clauses_before : Proof → ℕ → List (List Lit)
clauses_before p k = p.originals ++ map (λ n. n.clause) (take k p.learnt)

-- all clauses of a proof: the one of the node with the number k stands at place k
abbrev pub clauses_of : Proof → List (List Lit)
clauses_of p = p.originals ++ map (λ n. n.clause) p.learnt

-- the chain of a learnt clause: where it starts, and its links
abbrev pub chain_at : Proof → ℕ → Option (NodeId × List Link)
chain_at p k = option_map (λ n. (n.start, n.links)) (slice_get p.learnt k)

-- each learnt clause stands so to the clauses before it
abbrev pub EachLearnt : (List (List Lit) → Learnt → Type 0) → Proof → Type 0
EachLearnt P p = (k : ℕ) (n : Learnt) → slice_get p.learnt k ≡ Some n → P (clauses_before p k) n

-- the learnt clause is what its chain gives
abbrev pub IsDerived : List (List Lit) → Learnt → Type 0
IsDerived before n = Gives before n.start n.links n.clause

-- a legal proof: each learnt clause is what its chain gives from the clauses that stand before it
pub record IsLegal (p : Proof) : Type 0 where
  pub originals : All IsClause p.originals
  pub chains : EachLearnt IsDerived p

-- the last clause is the empty one
abbrev pub EndsEmpty : Proof → Type 0
EndsEmpty p = slice_get (clauses_of p) (length (clauses_of p) - 1) ≡ Some []

-- the proof with one more learnt clause
abbrev pub with_learnt : Proof → Learnt → Proof
with_learnt p n = record p { learnt = p.learnt ++ n ∷ [] }

-- the proof has one more learnt clause: what this chain gives, and it gives nothing else
pub record Learns (old new : Proof) (start : NodeId) (links : List Link) : Type 0 where
  pub clause : List Lit
  pub given : Gives (clauses_of old) start links clause
  pub only : (other : List Lit) → Gives (clauses_of old) start links other → other ≡ clause
  pub added : new ≡ with_learnt old (record { start = start; links = links; clause = clause })
