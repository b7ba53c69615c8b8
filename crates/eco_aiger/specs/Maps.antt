-- What a file means: maps of its variables.
use Rattle.std.specs.Prelude.{◌≡◌, ℕ, ◌%◌, Bool, not, ◌&&◌, List, ◌++◌, map, Contains, ◌==◌, if◌then◌else◌}
use Rattle.eco_meaning.specs.Circuit.{Circuit, Values, IsConsistent}
use Rattle.eco_aiger.specs.declared.tree.AndLine.{AndLine}
use Rattle.eco_aiger.specs.Syntax.{File}
use Rattle.eco_aiger.specs.Defined.{variable_of}

-- the bit of a literal: 0 is false and 1 is true, an even literal has its variable's bit and an odd one the complement
abbrev pub literal_bit : (ℕ → Bool) → ℕ → Bool
literal_bit w literal =
    if variable_of literal == 0 then literal == 1
    else (if literal % 2 == 0 then w (variable_of literal) else not (w (variable_of literal)))

-- the map gives each left side the and of its right side's literals
abbrev pub IsAigerMap : File → (ℕ → Bool) → Type 0
IsAigerMap f w =
    (a : AndLine) → Contains f.ands a → w (variable_of a.left) ≡ (literal_bit w a.first && literal_bit w a.second)

-- the ports have these bits under a map of the file
pub record HasAigerMap (f : File) (bits : List Bool) : Type 0 where
  pub map_of : ℕ → Bool
  pub is : IsAigerMap f map_of
  pub bits_are : map (literal_bit map_of) (f.inputs ++ f.outputs) ≡ bits

-- the ports have these bits under a map that is consistent with the netlist
pub record HasConsistent (n : Circuit) (bits : List Bool) : Type 0 where
  pub values : Values
  pub consistent : IsConsistent n values
  pub bits_are : map values n.ports ≡ bits
