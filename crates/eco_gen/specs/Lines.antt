-- The lines of a weight file.
use Rattle.std.specs.Prelude.{ℕ, List, ◌++◌, codes}
use Rattle.std.specs.Fmt.{decimal}
use Rattle.std.specs.List.{flat_map}
use Rattle.eco_meaning.specs.Cost.{Weights}

-- a line: the name, a blank, the weight and a line feed
abbrev pub weight_line : List ℕ × ℕ → List ℕ
weight_line pair = pair.0 ++ codes " " ++ decimal pair.1 ++ codes "\n"

-- a line for each of the weights
unfoldable pub weight_text : Weights → List ℕ
weight_text weights = flat_map weight_line weights
