-- The patch whose gates are given by lines.
use Rattle.std.specs.Prelude.{◌≡◌, ℕ, List, ◌++◌, codes, length}
use Rattle.eco_meaning.specs.Circuit.{Circuit}
use Rattle.eco_netlist.specs.Netlists.{IsChecked}
use Rattle.eco_aig.specs.declared.edge.Edge.{Edge}
use Rattle.eco_aig.specs.declared.node.Node.{Node}
use Rattle.eco_splice.specs.GraphPatch.{FitsFirst, HasRootValues, ReadsReached}

-- the patch gives f's first targets the values of these roots over these base signals, reads each that a root reaches, and has
-- so many gates
pub record IsWrittenPatch (f : Circuit) (nodes : List Node) (roots : List Edge) (base : List (List ℕ)) (count : ℕ) (p : Circuit) : Type 0 where
  pub checked : IsChecked p
  pub title : p.title ≡ codes "patch"
  pub fits : FitsFirst f (length roots) p
  pub ports : p.ports ≡ p.outputs ++ p.inputs
  pub inputs : p.inputs ≡ base
  pub values : HasRootValues nodes roots p
  pub reads : ReadsReached nodes roots base p
  pub gates : length p.gates ≡ count
