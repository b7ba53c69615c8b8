-- The bits of nets, by their numbers.
use Rattle.std.specs.Prelude.{◌≡◌, ℕ, Bool, false, true, List, map, slice_get, slice_index_or, Some, All}
use Rattle.eco_gates.specs.declared.gate.Term.{Term}
use Rattle.eco_gates.specs.declared.gate.Term.TheVariants.{Zero, One, Net}
use Rattle.eco_gates.specs.GateValue.{GateValue}
use Rattle.eco_gates.specs.Gates.{IsUndriven}
use Rattle.eco_meaning.specs.Gates.{apply}

-- the bit that a gate's input reads
abbrev pub term_value : List Bool → Term → Bool
term_value values Zero = false
term_value values One = true
term_value values (Net net) = slice_index_or values net.0 false

-- the value of a gate where the nets have these bits
abbrev pub gate_value : List Bool → GateValue → Bool
gate_value values g = apply g.kind (map (term_value values) g.ins)

-- each gate's output has the value of its kind at its inputs
abbrev pub IsConsistentAt : List GateValue → List Bool → Type 0
IsConsistentAt gates values = All (λ g. slice_get values g.out.0 ≡ Some (gate_value values g)) gates

-- two lists of bits have the same bit at each net that no gate drives
abbrev pub AgreeUndriven : List GateValue → List Bool → List Bool → Type 0
AgreeUndriven gates values bits =
    (net : ℕ) → IsUndriven gates net → slice_get values net ≡ slice_get bits net
