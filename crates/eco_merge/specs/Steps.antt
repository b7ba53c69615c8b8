-- What is kept while nodes are merged.
use Rattle.std.specs.Prelude.{◌≡◌, ◌⊎◌, ℕ, ◌+◌, ◌-◌, ◌<◌, ◌≤◌, Bool, true, List, [], ◌∷◌, ◌++◌, Option, Some, None, length, slice_get, slice_set, All, AllPairs, Contains}
use Rattle.eco_aig.specs.declared.edge.Edge.{Edge}
use Rattle.eco_aig.specs.declared.node.Node.{Node}
use Rattle.eco_aig.specs.Edges.{plain}
use Rattle.eco_aig.specs.Graph.{IsGraph, Grows, pair_at, in_order}
use Rattle.eco_aig.specs.Reached.{IsReached}
use Rattle.eco_tseitin.specs.Encoding.{HasGrown}
use Rattle.eco_merge.specs.declared.loose.Loose.{Loose}
use Rattle.eco_merge.specs.declared.question.Answer.{Answer}
use Rattle.eco_merge.specs.declared.question.Answer.TheVariants.{Alike, Unlike, Unknown}
use Rattle.eco_merge.specs.declared.findings.Findings.{Findings}
use Rattle.eco_merge.specs.declared.merging.Merging.{Merging}
use Rattle.eco_merge.specs.Alike.{IsAlike, IsAndNode, other_of}
use Rattle.eco_merge.specs.Rows.{IsRow}
use Rattle.eco_merge.specs.Signatures.{AreSigned}
use Rattle.eco_merge.specs.Images.{IsImage, IsSwept, signed}
use Rattle.eco_merge.specs.Questions.{IsEntry, IsCompared}
use Rattle.eco_merge.specs.Counting.{IsReachedInput}

-- an entry is about these nodes, and is one
pub record IsEntryOf (nodes : List Node) (limit : ℕ) (n : ℕ) (other : Option ℕ) (same : Bool) (entry : Loose) : Type 0 where
  pub itself : IsEntry nodes limit entry
  pub node_is : entry.node ≡ n
  pub other_is : entry.other ≡ other
  pub same_is : entry.same ≡ same

-- what an answer says of two nodes
abbrev pub IsAnswer : List Node → ℕ → ℕ → Option ℕ → Bool → Answer → Type 0
IsAnswer nodes limit n other same Alike = IsAlike nodes n other same
IsAnswer nodes limit n other same (Unlike row) = (IsAlike nodes n other same → ⊥) × IsRow nodes row
IsAnswer nodes limit n other same (Unknown entry) = IsEntryOf nodes limit n other same entry

-- rows of the graph, the signatures of its nodes, and entries about them
pub record AreFindings (nodes : List Node) (limit : ℕ) (findings : Findings) : Type 0 where
  pub rows : All (IsRow nodes) findings.rows.items
  pub signed : AreSigned (length nodes) findings.rows.items findings.drawn findings.signatures.items
  pub entries : All (IsEntry nodes limit) findings.apart.items

-- more entries behind the older ones
pub record HasMore (old new : List Loose) : Type 0 where
  pub more : List Loose
  pub behind : new ≡ old ++ more

-- the node was compared with another one, with both signs
abbrev pub IsComparedWith : List Node → List Loose → ℕ → ℕ → Type 0
IsComparedWith nodes apart n m = (same : Bool) → IsCompared nodes apart n (other_of m) same

-- the and-nodes that are kept were compared with those that were kept before them; the constant is the first one
pub record AreKept (nodes : List Node) (apart : List Loose) (kept : List ℕ) : Type 0 where
  pub constant : slice_get kept 0 ≡ Some 0
  pub within : All (λ k. k < length nodes) kept
  pub compared : AllPairs (λ m n. IsAndNode nodes n → IsComparedWith nodes apart n m) kept

-- the images have the values of their nodes and go to nodes that are kept, and what is known fits the graph
pub record IsReady (nodes : List Node) (limit : ℕ) (m : Merging) : Type 0 where
  pub few : length m.images.items ≤ length nodes
  pub swept : IsSwept nodes m.images.items
  pub members : (k : ℕ) (e : Edge) → IsImage m.images.items k e → Contains m.kept.items e.node
  pub kept : AreKept nodes m.findings.apart.items m.kept.items
  pub findings : AreFindings nodes limit m.findings

-- the conjunction of two edges is an edge to a node that is kept, or the plain edge to its node, kept from now on
pub data IsJoined (nodes : List Node) (before after : List ℕ) (p q e : Edge) : Type 0 where
  found : after ≡ before → Contains before e.node → IsJoined nodes before after p q e
  added : after ≡ before ++ e.node ∷ [] → e ≡ plain e.node → pair_at nodes e.node ≡ Some (in_order p q)
      → IsJoined nodes before after p q e

-- the node is represented by an edge to a node that is kept, or by the plain edge to itself, kept from now on
pub data IsMergedOrKept (before after : List ℕ) (n : ℕ) (e : Edge) : Type 0 where
  merged : after ≡ before → Contains before e.node → IsMergedOrKept before after n e
  kept : after ≡ before ++ n ∷ [] → e ≡ plain n → IsMergedOrKept before after n e

-- the node was treated
abbrev pub HasImage : List (Option Edge) → ℕ → Type 0
HasImage images k = (e : Edge) × IsImage images k e

-- the node was treated now, and no other
pub record GainsImage (old new : List (Option Edge)) (k : ℕ) : Type 0 where
  pub image : Edge
  pub set : new ≡ slice_set old k (Some image)

-- how many nodes have no image yet
abbrev pub undone : List (Option Edge) → ℕ
undone [] = 0
undone (None ∷ images) = 1 + undone images
undone (Some e ∷ images) = undone images

-- the node has an image, as all have that had one; at most so many nodes were added as have an image now and had none
pub record IsVisited (before : List Node) (old : List (Option Edge)) (after : List Node) (new : List (Option Edge)) (k : ℕ) : Type 0 where
  pub image : HasImage new k
  pub stay : (j : ℕ) (e : Edge) → IsImage old j e → IsImage new j e
  pub count : length new ≡ length old
  pub fewer : undone new ≤ undone old
  pub grows : Grows before after (undone old - undone new)

-- the edge is the image of the other one: its node's image, with its sign
pub record IsEdgeImage (images : List (Option Edge)) (x e : Edge) : Type 0 where
  pub of_node : Edge
  pub at : IsImage images x.node of_node
  pub is : e ≡ signed x.complemented of_node

-- the node is kept from now on, if it wasn't
abbrev pub Keeps : List ℕ → List ℕ → ℕ → Type 0
Keeps before after k = ((after ≡ before) × Contains before k) ⊎ (after ≡ before ++ k ∷ [])

-- and-node k is the image of an older reached one, and the conjunction of the images of its operands
pub record IsMadeFrom (old : List Node) (roots : List Edge) (nodes : List Node) (images : List (Option Edge)) (k : ℕ) : Type 0 where
  pub source : ℕ
  pub first : Edge
  pub second : Edge
  pub operands : pair_at old source ≡ Some (first, second)
  pub reached : IsReached old roots source
  pub image : IsImage images source (plain k)
  pub p : Edge
  pub q : Edge
  pub p_is : IsEdgeImage images first p
  pub q_is : IsEdgeImage images second q
  pub made : pair_at nodes k ≡ Some (in_order p q)

-- the nodes that are kept: the constant, reached inputs, and images of reached and-nodes
pub data IsKept (old : List Node) (roots : List Edge) (nodes : List Node) (images : List (Option Edge)) : ℕ → Type 0 where
  constant : IsKept old roots nodes images 0
  input : (k : ℕ) → IsReachedInput old roots k → IsKept old roots nodes images k
  made : (k : ℕ) → IsMadeFrom old roots nodes images k → IsKept old roots nodes images k

-- the graph has grown from the old one, only nodes that the roots reach have images, and these go to nodes that are kept
pub record IsMerged (old : List Node) (roots : List Edge) (nodes : List Node) (m : Merging) : Type 0 where
  pub graph : IsGraph old
  pub grown : HasGrown old nodes
  pub count : length m.images.items ≡ length old
  pub reached : (k : ℕ) (e : Edge) → IsImage m.images.items k e → IsReached old roots k
  pub turned : (k : ℕ) (e : Edge) → IsImage m.images.items k e → e.complemented ≡ true → IsAndNode old k
  pub each : (k : ℕ) → Contains m.kept.items k → IsKept old roots nodes m.images.items k
