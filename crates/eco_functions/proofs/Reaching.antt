-- What edges reach in a graph that has grown.
use Rattle.std.proofs.Common.{◌≡◌, ℕ, ◌-◌, ◌+◌, ◌<◌, inl, inr, List, ◌++◌, Option, Some, length, sym, ◌∙◌, ap, subst, arith}
use Rattle.std.specs.List.{slice_get, Contains}
use Rattle.std.specs.Option.{option_and_then}
use Rattle.std.proofs.lemmas.Bool.{cases_lt}
use Rattle.std.proofs.lemmas.List.Elements.{filter_map-append}
use Rattle.eco_lists.proofs.Places.{slice_get-front, slice_get-back}
use Rattle.eco_aig.specs.declared.edge.Edge.{Edge}
use Rattle.eco_aig.specs.declared.node.Node.{Node}
use Rattle.eco_aig.specs.declared.node.Node.TheVariants.{Input}
use Rattle.eco_aig.specs.Graph.{IsGraph, pair_of, inputs_of, input_number}
use Rattle.eco_aig.proofs.Inputs.{listed_at}
use Rattle.eco_aig.specs.Reached.{both_of, operands_at, Reaches, itself, next}
use Rattle.eco_aig.proofs.Reaching.{operand_below}

-- an older node reaches what it reached before, and only older nodes
pub older_reach : (old added : List Node) (start k : ℕ) → IsGraph old → start < length old → Reaches (old ++ added) start k → Reaches old start k × (k < length old)
older_reach old added start k graph lt itself = (itself, lt)
older_reach old added start k graph lt (next j e before operand) =
    let from = older_reach old added start j graph lt before in
    let same : operands_at (old ++ added) j ≡ operands_at old j = ap (λ (node : Option Node). both_of (option_and_then pair_of node)) (slice_get-front old added j from.1) in
    let older : Contains (operands_at old j) e = subst (λ (list : List Edge). Contains list e) same operand in
    let below = operand_below old j e graph older in
    (next j e from.0 older, omega (arith, below.1, below.2))

-- the inputs of a graph that has grown: the older ones, then those among the nodes that were added
pub grown_inputs : (old added new : List Node) → new ≡ old ++ added → inputs_of new ≡ inputs_of old ++ inputs_of added
grown_inputs old added new behind = ap inputs_of behind ∙ filter_map-append input_number old added

-- an older input has its old place
pub older_input : (old added new : List Node) (place node : ℕ) → IsGraph new → new ≡ old ++ added → node < length old → slice_get (inputs_of new) place ≡ Some node → slice_get (inputs_of old) place ≡ Some node
older_input old added new place node graph behind lt at =
    let both : slice_get (inputs_of old ++ inputs_of added) place ≡ Some node = ap (λ (list : List ℕ). slice_get list place) (sym (grown_inputs old added new behind)) ∙ at in
    elim (cases_lt place (length (inputs_of old))) [
      | inl front ↦ sym (slice_get-front (inputs_of old) (inputs_of added) place front) ∙ both
      | inr back ↦
          let j = place - length (inputs_of old) in
          let later : slice_get (inputs_of added) j ≡ Some node = sym (slice_get-back (inputs_of old) (inputs_of added) place j (omega (arith, back))) ∙ both in
          let found = listed_at added j node later in
          let here : slice_get new (length old + found.0) ≡ Some (Input node) = ap (λ (list : List Node). slice_get list (length old + found.0)) behind ∙ slice_get-back old added (length old + found.0) found.0 (omega arith) ∙ found.1 in
          let number : node ≡ length old + found.0 = graph.inputs (length old + found.0) node here in
          absurd (omega (arith, number, lt))
    ]
