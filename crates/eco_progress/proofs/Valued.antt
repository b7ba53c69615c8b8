-- What a patch with functions computes: at each of its consistent maps the graph has a valuation with the base signals' bits, in
-- which the roots have the targets' bits.
use Rattle.std.proofs.Common.{◌≡◌, ℕ, Bool, List, ◌++◌, Some, length, drop, map, sym, ◌∙◌, ap, subst}
use Rattle.std.specs.List.{slice_get, Contains}
use Rattle.std.proofs.lemmas.List.{length-map}
use Rattle.eco_lists.proofs.Places.{Contains_at, same_at}
use Rattle.eco_meaning.specs.Circuit.{Circuit, Values, names, IsConsistent, AreTargets}
use Rattle.eco_gates.specs.declared.gate.NetId.{NetId}
use Rattle.eco_netlist.specs.Netlists.{IsChecked, name_at, names_at}
use Rattle.eco_netlist.proofs.SoundNetlists.{sound_netlist}
use Rattle.eco_aig.specs.declared.edge.Edge.{Edge}
use Rattle.eco_aig.specs.Edges.{value_of}
use Rattle.eco_aig.specs.Graph.{IsValuation, inputs_of}
use Rattle.eco_laws.specs.Reached.{IsPatchOf}
use Rattle.eco_functions.specs.Functions.{FunctionsValue, AreFunctions}
use Rattle.eco_functions.specs.Standing.{IsPatchWith}
use Rattle.eco_functions.proofs.InputBits.{valuation_at}

-- the patch, as one of the first of its targets
pub patch_of : (f : Circuit) (functions : FunctionsValue) (p : Circuit) → IsChecked f → IsPatchWith f functions p → (targets before behind : List (List ℕ)) → AreTargets f targets → p.outputs ≡ before ++ behind → IsPatchOf f p before
patch_of f functions p checked is targets before behind are cut = record {
  sound = sound_netlist f checked;
  patch = sound_netlist p is.checked;
  later = drop (length functions.roots) targets;
  fits = (is.fits targets are).1;
  behind = behind;
  first = cut;
}

-- a valuation of the graph with the bits that the map gives the inputs of the patch, in which each root has the bit of its target
pub record IsValued (functions : FunctionsValue) (p : Circuit) (w : Values) : Type 0 where
  pub bits : ℕ → Bool
  pub valuation : IsValuation functions.nodes bits
  pub inputs : map w p.inputs ≡ map bits (inputs_of functions.nodes)
  pub roots : (k : ℕ) (target : List ℕ) (root : Edge) → slice_get p.outputs k ≡ Some target → slice_get functions.roots k ≡ Some root →
      w target ≡ value_of bits root

module _ (f : Circuit) (functions : FunctionsValue) (p : Circuit) (are : AreFunctions functions) (is : IsPatchWith f functions p) where
  -- the patch has an input for each base signal
  pub count_inputs : length p.inputs ≡ length functions.base
  count_inputs = ap length is.inputs ∙ length-map functions.base (λ (net : NetId). name_at (names f) net.0)

  -- each consistent map of the patch has such a valuation
  pub valued_at : (w : Values) → IsConsistent p w → IsValued functions p w
  valued_at w of_p =
      let count : length (map w p.inputs) ≡ length (inputs_of functions.nodes) = length-map p.inputs w ∙ count_inputs ∙ sym are.inputs in
      let found = valuation_at functions.nodes (map w p.inputs) are.graph count in
      let outputs : map w p.outputs ≡ map (value_of found.0) functions.roots = is.values found.0 w found.1 of_p (sym found.2) in
      record {
        bits = found.0;
        valuation = found.1;
        inputs = sym found.2;
        roots = λ k target root at at_root. same_at w (value_of found.0) p.outputs functions.roots k target root outputs at at_root;
      }

  -- the signal at a place of the base is an input of the patch
  pub base_input : (place : ℕ) (name : List ℕ) → slice_get (names_at (names f) functions.base) place ≡ Some name → Contains p.inputs name
  base_input place name at = subst (λ (l : List (List ℕ)). Contains l name) (sym is.inputs) (Contains_at (names_at (names f) functions.base) place name at)

  -- the bit of a base signal is that of the graph's input at its place
  pub input_bit : (w : Values) (valued : IsValued functions p w) (place node : ℕ) (name : List ℕ) → slice_get (names_at (names f) functions.base) place ≡ Some name → slice_get (inputs_of functions.nodes) place ≡ Some node → w name ≡ valued.bits node
  input_bit w valued place node name at at_node =
      same_at w valued.bits p.inputs (inputs_of functions.nodes) place name node valued.inputs (ap (λ l. slice_get l place) is.inputs ∙ at) at_node
