-- The numbers of the input nodes.
use Rattle.std.proofs.Common.{◌≡◌, ℕ, zero, suc, List, [], ◌∷◌, ◌++◌, Some, ◌∙◌, ap}
use Rattle.std.specs.List.{slice_get, Contains}
use Rattle.std.proofs.lemmas.Option.{none-some, same_Some}
use Rattle.std.proofs.lemmas.List.{append-nil}
use Rattle.std.proofs.lemmas.List.Elements.{filter_map-append}
use Rattle.eco_aig.specs.declared.edge.Edge.{Edge}
use Rattle.eco_aig.specs.declared.node.Node.{Node}
use Rattle.eco_aig.specs.declared.node.Node.TheVariants.{Zero, Input, And}
use Rattle.eco_aig.specs.Graph.{IsGraph, inputs_of, input_number}
use Rattle.eco_lists.proofs.Places.{place_of, Contains_at}

-- an and-node adds no input, an input adds its number
pub inputs_of-and : (nodes : List Node) (a b : Edge) → inputs_of (nodes ++ And a b ∷ []) ≡ inputs_of nodes
inputs_of-and nodes a b = filter_map-append input_number nodes (And a b ∷ []) ∙ append-nil (inputs_of nodes)

pub inputs_of-input : (nodes : List Node) (number : ℕ) → inputs_of (nodes ++ Input number ∷ []) ≡ inputs_of nodes ++ number ∷ []
inputs_of-input nodes number = filter_map-append input_number nodes (Input number ∷ [])

-- a listed number is that of an input node, and the number of each input node is listed
pub listed_at : (nodes : List Node) (j number : ℕ) → slice_get (inputs_of nodes) j ≡ Some number → (k : ℕ) × (slice_get nodes k ≡ Some (Input number))
listed_at [] j number e = absurd (none-some number e)
listed_at (Zero ∷ nodes) j number e = let more = listed_at nodes j number e in (suc more.0, more.1)
listed_at (And a b ∷ nodes) j number e = let more = listed_at nodes j number e in (suc more.0, more.1)
listed_at (Input n ∷ nodes) zero number e = (0, ap (λ m. Some (Input m)) (same_Some n number e))
listed_at (Input n ∷ nodes) (suc j) number e = let more = listed_at nodes j number e in (suc more.0, more.1)

is_listed : (nodes : List Node) (k number : ℕ) → slice_get nodes k ≡ Some (Input number) → (j : ℕ) × (slice_get (inputs_of nodes) j ≡ Some number)
is_listed [] k number e = absurd (none-some (Input number) e)
is_listed (Zero ∷ nodes) zero number e = let f : Zero ≡ Input number = same_Some Zero (Input number) e in cc
is_listed (Zero ∷ nodes) (suc k) number e = is_listed nodes k number e
is_listed (And a b ∷ nodes) zero number e = let f : And a b ≡ Input number = same_Some (And a b) (Input number) e in cc
is_listed (And a b ∷ nodes) (suc k) number e = is_listed nodes k number e
is_listed (Input n ∷ nodes) zero number e =
    (0, ap Some (let f : Input n ≡ Input number = same_Some (Input n) (Input number) e in cc))
is_listed (Input n ∷ nodes) (suc k) number e = let more = is_listed nodes k number e in (suc more.0, more.1)

pub input_listed : (nodes : List Node) (k number : ℕ) → slice_get nodes k ≡ Some (Input number) → Contains (inputs_of nodes) number
input_listed nodes k number e = let at = is_listed nodes k number e in Contains_at (inputs_of nodes) at.0 number at.1

pub listed_input : (nodes : List Node) (number : ℕ) → IsGraph nodes → Contains (inputs_of nodes) number → slice_get nodes number ≡ Some (Input number)
listed_input nodes number graph c =
    let at = place_of (inputs_of nodes) number c in
    let node = listed_at nodes at.0 number at.1 in
    ap (slice_get nodes) (graph.inputs node.0 number node.1) ∙ node.1
