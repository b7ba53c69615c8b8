-- Words of 64 bits, one for each net: their bits at one place are the values of the nets in one of 64 rows.
use Rattle.std.specs.Prelude.{ℕ, ◌==◌, Bool, List, map}
use Rattle.std.specs.Int.{bit_at}

-- whether the bit at the place is 1
abbrev pub is_set : ℕ → ℕ → Bool
is_set word place = bit_at word place == 1

-- the bits of the words at the place
abbrev pub lane : List ℕ → ℕ → List Bool
lane words place = map (λ word. is_set word place) words
