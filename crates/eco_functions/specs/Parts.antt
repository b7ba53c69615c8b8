-- The parts of functions, and clauses in two parts.
use Rattle.std.specs.Prelude.{ℕ, ◌+◌}
use Rattle.eco_trace.specs.Split.{Split}
use Rattle.eco_itp.specs.Bound.{links_of, literals_of_a}
use Rattle.eco_functions.specs.declared.parts.Parts.{Parts}
use Rattle.eco_functions.specs.declared.two_parts.TwoParts.{TwoParts}
use Rattle.eco_functions.specs.Functions.{FunctionsValue}

-- the functions that the parts are
abbrev pub functions_of : Parts → FunctionsValue
functions_of parts = record {
  nodes = parts.aig;
  base = parts.base.items;
  roots = parts.roots.items;
  counts = parts.counts.items;
}

-- the clauses, and the mark of each
abbrev pub split_of : TwoParts → Split
split_of two = record { clauses = two.trace.now.originals; marks = two.side.now }

-- how many nodes the interpolant of the proof adds at most
abbrev pub most_of : TwoParts → ℕ
most_of two = links_of two.trace.now.learnt + literals_of_a two.trace.now.originals two.side.now
