-- The bytes that tokens of structural Verilog are made of, by their ASCII codes.
use Rattle.std.specs.Prelude.{ℕ, Bool, ◌||◌, ◌&&◌, ◌==◌, nat_le}

-- white space: blank, tab, line feed, form feed, carriage return
abbrev pub is_blank : ℕ → Bool
is_blank b = b == 32 || b == 9 || b == 10 || b == 12 || b == 13

-- what an identifier begins with: `a` to `z`, `A` to `Z`, `_`
abbrev pub is_first : ℕ → Bool
is_first b = (nat_le 97 b && nat_le b 122) || (nat_le 65 b && nat_le b 90) || b == 95

-- what an identifier goes on with: those, `0` to `9`, `$`
abbrev pub is_later : ℕ → Bool
is_later b = is_first b || (nat_le 48 b && nat_le b 57) || b == 36

-- `(`, `)`, `,`, `;`
abbrev pub is_separator : ℕ → Bool
is_separator b = b == 40 || b == 41 || b == 44 || b == 59

-- what a mark begins with: those, `~`, `&`, `^`, `|`, `=`
abbrev pub is_mark : ℕ → Bool
is_mark b = is_separator b || b == 126 || b == 38 || b == 94 || b == 124 || b == 61

-- the marks of two bytes: `~^`, `~&`, `~|`, `^~`, `&&`, `||`
abbrev pub is_pair : ℕ → ℕ → Bool
is_pair b c =
    (b == 126 && (c == 94 || c == 38 || c == 124)) || (b == 94 && c == 126) || (b == 38 && c == 38)
    || (b == 124 && c == 124)
