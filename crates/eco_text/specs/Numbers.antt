-- Numbers as words have them.
use Rattle.std.specs.Prelude.{◌≡◌, ℕ, ◌≤◌, List, decimal}

-- the word is this number, written with no sign and no needless zero, and the number is at most the given one
pub record IsNumberUpTo (most : ℕ) (word : List ℕ) (number : ℕ) : Type 0 where
  pub text : word ≡ decimal number
  pub within : number ≤ most
