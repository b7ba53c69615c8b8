-- Inputs with rows.
use Rattle.std.specs.Prelude.{Bool, List}

-- inputs, and for each a row of signals' values there
pub record SideValue : Type 0 where
  pub inputs : List (List Bool)
  pub rows : List (List Bool)
