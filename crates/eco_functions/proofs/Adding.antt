-- Inputs that are added to a graph, and what stays.
use Rattle.std.proofs.Common.{◌≡◌, ℕ, ◌+◌, ◌≤◌, Bool, List, [], ◌∷◌, ◌++◌, length, sym, ◌∙◌, ap, arith, append_assoc, length-append}
use Rattle.std.specs.List.{slice_get}
use Rattle.std.proofs.lemmas.List.{append-nil}
use Rattle.eco_lists.proofs.Places.{slice_get-append_left}
use Rattle.eco_aig.specs.declared.node.Node.{Node}
use Rattle.eco_aig.specs.declared.node.Node.TheVariants.{Input}
use Rattle.eco_aig.specs.Graph.{IsValuation, Grows, inputs_of}
use Rattle.eco_aig.proofs.Inputs.{inputs_of-input}
use Rattle.eco_functions.specs.Inputs.{HasMoreInputs}

-- no input
pub no_inputs : (nodes : List Node) → HasMoreInputs nodes 0 nodes
no_inputs nodes = record { added = []; behind = sym (append-nil nodes); inputs = omega arith }

-- one more
pub input_more : (old new last : List Node) (count number : ℕ) → last ≡ new ++ Input number ∷ [] → HasMoreInputs old count new → HasMoreInputs old (count + 1) last
input_more old new last count number pushed more =
    let length_more : length (inputs_of last) ≡ length (inputs_of new) + 1 = ap (λ (list : List Node). length (inputs_of list)) pushed ∙ ap (λ (list : List ℕ). length list) (inputs_of-input new number) ∙ length-append (inputs_of new) (number ∷ []) in
    record {
      added = more.added ++ Input number ∷ [];
      behind = pushed ∙ ap (λ list. list ++ Input number ∷ []) more.behind ∙ append_assoc old more.added (Input number ∷ []);
      inputs = omega (arith, length_more, more.inputs);
    }

-- a growth behind the inputs
pub inputs_grown : (old mid new : List Node) (count most : ℕ) → HasMoreInputs old count mid → Grows mid new most → HasMoreInputs old count new
inputs_grown old mid new count most more grows = record {
  added = more.added ++ grows.added;
  behind = grows.behind ∙ ap (λ list. list ++ grows.added) more.behind ∙ append_assoc old more.added grows.added;
  inputs = ap (λ (list : List ℕ). length list) grows.inputs ∙ more.inputs;
}

-- how many nodes there are at most after a growth behind them
pub grown_few : (old mid new : List Node) (count most : ℕ) → length mid ≡ length old + count → Grows mid new most → length new ≤ length old + count + most
grown_few old mid new count most more grows =
    let longer : length new ≡ length mid + length grows.added = ap (λ (list : List Node). length list) grows.behind ∙ length-append mid grows.added in
    let few = grows.few in
    omega (arith, more, longer, few)

-- a valuation of the larger graph is one of the smaller
pub older_valuation : (old new : List Node) (count : ℕ) (w : ℕ → Bool) → HasMoreInputs old count new → IsValuation new w → IsValuation old w
older_valuation old new count w more valuation = record {
  fits = λ k node at. valuation.fits k node (ap (λ list. slice_get list k) more.behind ∙ slice_get-append_left old more.added k node at);
}
