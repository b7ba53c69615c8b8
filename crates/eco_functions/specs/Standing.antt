-- The patch in which the functions of the first targets stand.
use Rattle.std.specs.Prelude.{◌≡◌, ◌⊎◌, ◌<◌, ◌++◌, ℕ, List, [], length}
use Rattle.eco_meaning.specs.Circuit.{Circuit, names}
use Rattle.eco_netlist.specs.Netlists.{IsChecked, names_at}
use Rattle.eco_aig.specs.declared.edge.Edge.{Edge}
use Rattle.eco_aig.specs.declared.node.Node.{Node}
use Rattle.eco_splice.specs.GraphPatch.{FitsFirst, HasRootValues, IsGraphPatch, ReadsReached}
use Rattle.eco_splice.specs.Written.{IsWrittenPatch}
use Rattle.eco_functions.specs.Functions.{FunctionsValue}

-- the patch is the fixed form of these roots over these base signals, with a gate for each and-node and each complement of an
-- operand that they reach and one for each target; or it has fewer gates than that form
pub record IsFixedOrShorter (f : Circuit) (nodes : List Node) (roots : List Edge) (base : List (List ℕ)) (p : Circuit) : Type 0 where
  pub fixed : Circuit
  pub form : IsGraphPatch f nodes roots base fixed
  pub fewer : (p ≡ fixed) ⊎ (length p.gates < length fixed.gates)

-- the patch is written of lines, and has fewer gates than this number
pub record IsShorterPatch (f : Circuit) (nodes : List Node) (roots : List Edge) (base : List (List ℕ)) (most : ℕ) (p : Circuit) : Type 0 where
  pub count : ℕ
  pub written : IsWrittenPatch f nodes roots base count p
  pub fewer : count < most

-- the patch gives the first targets of f these functions, reads their signals, and each that a root reaches by some gate; it
-- has the gates of the fixed form, or fewer
pub record IsPatchWith (f : Circuit) (functions : FunctionsValue) (p : Circuit) : Type 0 where
  pub checked : IsChecked p
  pub written : IsFixedOrShorter f functions.nodes functions.roots (names_at (names f) functions.base) p
  pub fits : FitsFirst f (length functions.roots) p
  pub ports : p.ports ≡ p.outputs ++ p.inputs
  pub inputs : p.inputs ≡ names_at (names f) functions.base
  pub values : HasRootValues functions.nodes functions.roots p
  pub reads : ReadsReached functions.nodes functions.roots (names_at (names f) functions.base) p
  pub empty : functions.roots ≡ [] → p.gates ≡ []
