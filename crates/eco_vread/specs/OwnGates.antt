-- Prefixes of the names of numbered nets that serve as well as a file's own.
use Rattle.std.specs.Prelude.{◌≡◌, ℕ, Bool, true, false, List}
use Rattle.eco_vread.specs.Syntax.{Statement, File}
use Rattle.eco_vread.specs.Syntax.Statement.{input, output, wire, gates, assign}
use Rattle.eco_vread.specs.Meaning.{statements_gates, own_prefix}

abbrev pub is_assign : Statement → Bool
is_assign (input also names) = false
is_assign (output also names) = false
is_assign (wire names) = false
is_assign (gates kind instances) = false
is_assign (assign list) = true

-- with this prefix the gates of a file are those that it has with its own
abbrev pub HasOwnGates : List ℕ → File → Type 0
HasOwnGates prefix f = statements_gates prefix 0 f.statements ≡ statements_gates (own_prefix f) 0 f.statements
