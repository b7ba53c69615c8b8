-- Names as lists of bytes.
use Rattle.std.specs.Prelude.{ℕ, ◌+◌, ◌-◌, ◌*◌, Bool, not, ◌&&◌, ◌||◌, ◌==◌, nat_le, List, length, take, drop, fold, codes}
use Rattle.std.specs.List.{list_all, list_any, slice_index_or}
use Rattle.std.specs.Str.{bytes_eq}

-- a printing byte other than the blank
abbrev pub is_printing : ℕ → Bool
is_printing b = nat_le 33 b && nat_le b 126

-- one or more printing bytes
abbrev pub is_name : List ℕ → Bool
is_name bytes = not (length bytes == 0) && list_all is_printing bytes

-- a decimal digit
abbrev pub is_digit : ℕ → Bool
is_digit b = nat_le 48 b && nat_le b 57

-- one to nine decimal digits, the first of which is 0 only in the number 0 itself
abbrev pub is_numeral : List ℕ → Bool
is_numeral digits =
    list_all is_digit digits && nat_le 1 (length digits) && nat_le (length digits) 9
    && (length digits == 1 || not (slice_index_or digits 0 48 == 48))

-- the number that decimal digits spell
abbrev pub number_of : List ℕ → ℕ
number_of digits = fold (λ number digit. 10 * number + (digit - 48)) 0 digits

-- the form of a target's name: `t_` and a number
abbrev pub is_target_text : List ℕ → Bool
is_target_text name = bytes_eq (take 2 name) (codes "t_") && is_numeral (drop 2 name)

-- the number in a target's name
abbrev pub target_number : List ℕ → ℕ
target_number name = number_of (drop 2 name)

-- whether the name stands in the list
abbrev pub has : List (List ℕ) → List ℕ → Bool
has list name = list_any (bytes_eq name) list
