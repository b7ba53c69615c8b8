-- The values of gates (IEEE 1364-2005, sections 7.2 and 7.3, over the two values 0 and 1).
use Rattle.std.specs.Prelude.{◌≡◌, ℕ, ◌≤◌, ◌%◌, ◌==◌, Bool, false, not, List, [], ◌∷◌, count_by}
use Rattle.std.specs.List.{list_all, list_any}
use Rattle.eco_meaning.specs.declared.kind.Kind.{Kind}
use Rattle.eco_meaning.specs.declared.kind.Kind.TheVariants.{And, Nand, Or, Nor, Xor, Xnor, Buf, Not}

-- how many inputs a gate may have: exactly one for `buf` and `not`, at least one for the others
abbrev pub FitsKind : Kind → ℕ → Type 0
FitsKind And n = 1 ≤ n
FitsKind Nand n = 1 ≤ n
FitsKind Or n = 1 ≤ n
FitsKind Nor n = 1 ≤ n
FitsKind Xor n = 1 ≤ n
FitsKind Xnor n = 1 ≤ n
FitsKind Buf n = n ≡ 1
FitsKind Not n = n ≡ 1

-- whether an odd number of the bits is 1
abbrev pub is_odd : List Bool → Bool
is_odd bits = count_by (λ bit. bit) bits % 2 == 1

-- the first of the bits, where there is one
abbrev pub first_bit : List Bool → Bool
first_bit [] = false
first_bit (bit ∷ bits) = bit

-- the output of a gate at its inputs: `and` is 1 where all are 1, `or` where some is, `xor` where an odd
-- number is; `nand`, `nor` and `xnor` are their complements; `buf` is its input, `not` the complement of it
abbrev pub apply : Kind → List Bool → Bool
apply And bits = list_all (λ bit. bit) bits
apply Nand bits = not (list_all (λ bit. bit) bits)
apply Or bits = list_any (λ bit. bit) bits
apply Nor bits = not (list_any (λ bit. bit) bits)
apply Xor bits = is_odd bits
apply Xnor bits = not (is_odd bits)
apply Buf bits = first_bit bits
apply Not bits = not (first_bit bits)
