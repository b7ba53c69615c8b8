-- What a sweeper stands for.
use Rattle.std.specs.Prelude.{ℕ, List}
use Rattle.eco_aig.specs.declared.edge.Edge.{Edge}

-- the edges that stand for the nodes, in order, and the most clauses that a question may learn
pub record SweeperValue : Type 0 where
  pub map : List Edge
  pub limit : ℕ
