-- Which clauses a proof's last clause stands on.
use Rattle.std.specs.Prelude.{◌≡◌, ◌↔◌, ◌⊎◌, ℕ, ◌+◌, ◌-◌, ◌<◌, Bool, true, false, List, Some, length, slice_get, slice_index_or, Any}
use Rattle.eco_trace.specs.declared.node.Link.{Link}
use Rattle.eco_trace.specs.declared.node.NodeId.{NodeId}
use Rattle.eco_trace.specs.Resolution.{Learnt, Proof, clauses_of}

-- the chain begins with the clause of this node, or resolves with it
abbrev pub Names : NodeId → List Link → ℕ → Type 0
Names start links used = (start.0 ≡ used) ⊎ Any (λ link. link.with.0 ≡ used) links

-- the chain of the node names the other one
pub record Uses (p : Proof) (node used : ℕ) : Type 0 where
  pub place : ℕ
  pub node_is : node ≡ length p.originals + place
  pub learnt : Learnt
  pub at : slice_get p.learnt place ≡ Some learnt
  pub names : Names learnt.start learnt.links used

-- what is reached from a node: the node itself, and what the chains of reached nodes name
pub data Reaches (p : Proof) (from : ℕ) : ℕ → Type 0 where
  itself : Reaches p from from
  next : (node used : ℕ) → Uses p node used → Reaches p from node → Reaches p from used

-- the number of the last node
abbrev pub last_of : Proof → ℕ
last_of p = length (clauses_of p) - 1

-- the mark at this place is set
abbrev pub IsSet : List Bool → ℕ → Type 0
IsSet marks k = slice_index_or marks k false ≡ true

-- a mark for each clause that the proof begins with: set where it is reached from the last clause
pub record IsCore (p : Proof) (marks : List Bool) : Type 0 where
  pub count : length marks ≡ length p.originals
  pub reached : (k : ℕ) → IsSet marks k ↔ ((k < length p.originals) × Reaches p (last_of p) k)
