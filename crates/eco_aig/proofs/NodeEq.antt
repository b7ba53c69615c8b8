-- What `==` of nodes says.
use Rattle.std.proofs.Common.{◌≡◌, true, rules, refl}
use Rattle.eco_aig.specs.declared.node.Node.{Node}
use Rattle.eco_aig.specs.declared.node.Node.TheVariants.{Zero, Input, And}
use Rattle.eco_aig.specs.contracts.node.NodePartialEq.TheImpl as node
use Rattle.eco_aig.specs.contracts.node.NodeEq.TheImpl.Laws.{laws-law}

-- nodes that `==` takes as equal are one
pub node_same : (x y : Node) → (node.ghosts).eq x y ≡ true → x ≡ y
node_same Zero Zero e = refl
node_same Zero (Input k) e = cc
node_same (Input j) (Input k) e = search rules
node_same (And a b) (And c d) e = search rules
node_same x y e = cc

-- a node is equal to itself
pub node_itself : (x : Node) → (node.ghosts).eq x x ≡ true
node_itself x = laws-law.refl x
