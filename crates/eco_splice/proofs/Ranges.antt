-- The wires with the numbers of a range.
use Rattle.std.proofs.Common.{◌≡◌, ℕ, zero, suc, ◌+◌, ◌^◌, ◌<◌, ◌≤◌, List, [], ◌∷◌, ◌++◌, arith}
use Rattle.std.specs.List.{range_with_len, Contains, IsDistinct}
use Rattle.std.specs.Str.{bytes_eq}
use Rattle.std.proofs.lemmas.List.FromFn.{map-range_with_len_more}
use Rattle.eco_lists.proofs.Members.{map-Contains}
use Rattle.eco_lists.proofs.Ranges.{range_member}
use Rattle.eco_netlist.proofs.NameSets.{distinct_none, distinct_from_new}
use Rattle.eco_text.specs.Prefix.{numbered}
use Rattle.eco_text.proofs.NumberedNames.{numbered-injective}
use Rattle.eco_splice.specs.GraphPatch.{wires_from}

-- one more wire
pub wires_from_more : (prefix : List ℕ) (first n j : ℕ) → first + n ≡ j → wires_from prefix first (n + 1) ≡ wires_from prefix first n ++ numbered prefix j ∷ []
wires_from_more prefix first n j e = map-range_with_len_more (numbered prefix) first n j e

-- the wires of a range, of which no two have one name
pub wires_member : (prefix : List ℕ) (first count : ℕ) (name : List ℕ) → Contains (wires_from prefix first count) name → (k : ℕ) × (first ≤ k) × (k < first + count) × (numbered prefix k ≡ name)
wires_member prefix first count name c =
    let found = map-Contains (numbered prefix) (range_with_len first count) name c in
    let within = range_member first count found.0 found.1 in
    (found.0, within.0, within.1, found.2)

pub distinct_wires : (prefix : List ℕ) (first count : ℕ) → first + count ≤ 2 ^ 64 → IsDistinct bytes_eq (wires_from prefix first count)
distinct_wires prefix first zero small = distinct_none
distinct_wires prefix first (suc count) small =
    distinct_from_new (numbered prefix first) (wires_from prefix (first + 1) count)
    (λ c.
    let found = wires_member prefix (first + 1) count (numbered prefix first) c in
    let same = numbered-injective prefix found.0 first (omega arith) (omega arith) found.3 in
    omega arith)
    (distinct_wires prefix (first + 1) count (omega arith))
