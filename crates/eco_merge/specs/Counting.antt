-- What edges reach, counted, and which inputs.
use Rattle.std.specs.Prelude.{◌≡◌, ◌≢◌, ℕ, ◌+◌, Bool, true, List, [], ◌∷◌, Some, None, length, slice_get, take, All, AllPairs}
use Rattle.eco_aig.specs.declared.edge.Edge.{Edge}
use Rattle.eco_aig.specs.declared.node.Node.{Node}
use Rattle.eco_aig.specs.declared.node.Node.TheVariants.{Input}
use Rattle.eco_aig.specs.Edges.{plain}
use Rattle.eco_aig.specs.Graph.{pair_at}
use Rattle.eco_aig.specs.Reached.{IsReached}
use Rattle.eco_merge.specs.declared.loose.Loose.{Loose}
use Rattle.eco_merge.specs.Alike.{IsAndNode}
use Rattle.eco_merge.specs.Questions.{IsCompared, AreCompared}

-- at most as many have P as have Q: for each list without repeats of some that have P, there is one as long of some that
-- have Q
abbrev pub AreNoMore : {X Y : Type 0} → (X → Type 0) → (Y → Type 0) → Type 0
AreNoMore {X} {Y} P Q = (xs : List X) → AllPairs (λ a b. a ≢ b) xs → All P xs
    → (ys : List Y) × AllPairs (λ a b. a ≢ b) ys × All Q ys × (length ys ≡ length xs)

-- an and-node that the edges reach
pub record IsGate (nodes : List Node) (roots : List Edge) (k : ℕ) : Type 0 where
  pub conjunction : IsAndNode nodes k
  pub reached : IsReached nodes roots k

-- what is made for the edges: an and-node that they reach, as the plain edge to it; or the complement of a node, as the
-- complemented edge that a reached and-node has as an operand
pub data IsItem (nodes : List Node) (roots : List Edge) : Edge → Type 0 where
  gate : (k : ℕ) → IsGate nodes roots k → IsItem nodes roots (plain k)
  first : (k : ℕ) (a b : Edge) → pair_at nodes k ≡ Some (a, b) → IsReached nodes roots k → a.complemented ≡ true
      → IsItem nodes roots a
  second : (k : ℕ) (a b : Edge) → pair_at nodes k ≡ Some (a, b) → IsReached nodes roots k → b.complemented ≡ true
      → IsItem nodes roots b

-- the node is an input, and the edges reach it
pub record IsReachedInput (nodes : List Node) (roots : List Edge) (k : ℕ) : Type 0 where
  pub input : slice_get nodes k ≡ Some (Input k)
  pub reached : IsReached nodes roots k

-- each of the new edges reaches only inputs that the old edges up to its place reach
abbrev pub ReachNoMoreInputs : List Node → List Edge → List Node → List Edge → Type 0
ReachNoMoreInputs old roots new edges = (k : ℕ) (e : Edge) → slice_get edges k ≡ Some e
    → (j : ℕ) → IsReachedInput new (e ∷ []) j → IsReachedInput old (take (k + 1) roots) j

-- no two and-nodes that the edges reach are alike, and none of them is constant, but where an entry says that this isn't known
pub record AreUnlike (nodes : List Node) (roots : List Edge) (apart : List Loose) : Type 0 where
  pub two : (n m : ℕ) → IsGate nodes roots n → IsGate nodes roots m → n ≢ m → (same : Bool) → AreCompared nodes apart n m same
  pub one : (n : ℕ) → IsGate nodes roots n → (same : Bool) → IsCompared nodes apart n None same

-- the edges reach the nodes that the entry is about
pub record IsAboutReached (nodes : List Node) (roots : List Edge) (entry : Loose) : Type 0 where
  pub node : IsReached nodes roots entry.node
  pub other : (m : ℕ) → entry.other ≡ Some m → IsReached nodes roots m
