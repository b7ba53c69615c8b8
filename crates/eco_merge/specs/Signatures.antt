-- Signatures of nodes: numbers that alike nodes share.
use Rattle.std.specs.Prelude.{◌≡◌, ℕ, ◌+◌, ◌*◌, ◌%◌, ◌^◌, ◌≤◌, Bool, if◌then◌else◌, List, [], ◌∷◌, Some, length, slice_get, take}
use Rattle.eco_lists.specs.Bits.{bit_at}
use Rattle.eco_aig.specs.declared.edge.Edge.{Edge}
use Rattle.eco_aig.specs.Edges.{plain, value_of}

-- a signature with one more bit; which number it is doesn't matter
unfoldable pub with_bit : ℕ → Bool → ℕ
with_bit signature bit = (signature * 2 % 2 ^ 64 + (if bit then 1 else 0)) % 2 ^ 64

-- a signature with the bits that an edge has in the rows
abbrev pub with_bits : ℕ → List (List Bool) → Edge → ℕ
with_bits signature [] e = signature
with_bits signature (bits ∷ rows) e = with_bits (with_bit signature (value_of (bit_at bits) e)) rows e

-- the edge to the node that has bit 0 in the first row
abbrev pub cleared : List (List Bool) → ℕ → Edge
cleared [] k = plain k
cleared (bits ∷ rows) k = record { node = k; complemented = bit_at bits k }

-- the signature of a node: of its bits in the rows, or of their complements
abbrev pub signature_at : List (List Bool) → ℕ → ℕ
signature_at rows k = with_bits 0 rows (cleared rows k)

-- each number is its node's signature
abbrev pub AreSignatures : List (List Bool) → List ℕ → Type 0
AreSignatures rows signatures = (k x : ℕ) → slice_get signatures k ≡ Some x → x ≡ signature_at rows k

-- so many nodes have signatures, by the first rows
pub record AreSigned (count : ℕ) (rows : List (List Bool)) (first : ℕ) (signatures : List ℕ) : Type 0 where
  pub few : first ≤ length rows
  pub count_is : length signatures ≡ count
  pub each : AreSignatures (take first rows) signatures
