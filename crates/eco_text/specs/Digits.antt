-- Numbers that decimal digits spell, with zeros at their front or without.
use Rattle.std.specs.Prelude.{◌≡◌, ℕ, ◌+◌, ◌-◌, ◌*◌, ◌≤◌, ◌<◌, true, List, length}
use Rattle.std.specs.List.{list_all}
use Rattle.eco_meaning.specs.Names.{is_digit, number_of}

-- the byte is a decimal digit, and behind the number it makes this one, which is at most the given one
pub record HasDigit (most number byte more : ℕ) : Type 0 where
  pub digit : is_digit byte ≡ true
  pub value : more ≡ 10 * number + (byte - 48)
  pub limit : more ≤ most

-- one or more decimal digits spell this number, which is at most the given one; zeros at their front count nothing
pub record IsSpelled (most : ℕ) (digits : List ℕ) (number : ℕ) : Type 0 where
  pub some : 0 < length digits
  pub decimal : list_all is_digit digits ≡ true
  pub value : number_of digits ≡ number
  pub limit : number ≤ most
