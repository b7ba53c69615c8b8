-- What the lexer finds at the front of bytes, as functions on lists.
use Rattle.std.specs.Prelude.{ℕ, ◌+◌, Bool, false, ◌&&◌, ◌==◌, List, [], ◌∷◌, take, Option, Some, None, option_map, if◌then◌else◌}
use Rattle.std.specs.Prelude.{not, ◌||◌}
use Rattle.eco_meaning.specs.Names.{is_printing}
use Rattle.eco_lists.specs.Lines.{run_of}
use Rattle.eco_tokens.specs.declared.TokenKind.TheVariants.{Simple, Word, Escaped, Constant, Mark}
use Rattle.eco_tokens.specs.declared.fronts.Front.{Front}
use Rattle.eco_tokens.specs.declared.fronts.Front.TheVariants.{Gap, Found, Bad}
use Rattle.eco_tokens.specs.Bytes.{is_blank, is_first, is_later, is_mark, is_pair}
use Rattle.eco_tokens.specs.Words.{is_reserved}

-- the bytes up to and with the first `*/`; `star` where a `*` stands before them
unfoldable pub end_of : Bool → List ℕ → Option ℕ
end_of star [] = None
end_of star (b ∷ more) = if star && b == 47 then Some 1 else option_map (λ n. n + 1) (end_of (b == 42) more)

-- an identifier or a word of so many bytes
unfoldable pub named_of : ℕ → List ℕ → Front
named_of n bytes = Found (if is_reserved (take n bytes) then Word else Simple) n

-- behind a backslash
unfoldable pub escape_of : List ℕ → Front
escape_of more = if run_of is_printing more == 0 then Bad else Found Escaped (run_of is_printing more + 1)

unfoldable pub block_of : Option ℕ → Front
block_of None = Bad
block_of (Some n) = Gap (n + 2)

-- behind a `/`
unfoldable pub comment_of : List ℕ → Front
comment_of [] = Bad
comment_of (b ∷ more) =
    if b == 47 then Gap (run_of (λ c. not (c == 10)) more + 2)
    else (if b == 42 then block_of (end_of false more) else Bad)

-- behind a `1`
unfoldable pub constant_of : List ℕ → Front
constant_of (quote ∷ base ∷ bit ∷ more) =
    if quote == 39 && base == 98 && (bit == 48 || bit == 49) then Found Constant 4 else Bad
constant_of (quote ∷ base ∷ []) = Bad
constant_of (quote ∷ []) = Bad
constant_of [] = Bad

-- how many bytes the mark has that begins with `b` and goes on with these
unfoldable pub mark_size : ℕ → List ℕ → ℕ
mark_size b [] = 1
mark_size b (c ∷ more) = if is_pair b c then 2 else 1

unfoldable pub front_of : List ℕ → Front
front_of [] = Bad
front_of (b ∷ more) =
    if is_blank b then Gap 1
    else (if is_mark b then Found Mark (mark_size b more)
    else (if is_first b then named_of (run_of is_later more + 1) (b ∷ more)
    else (if b == 92 then escape_of more
    else (if b == 47 then comment_of more
    else (if b == 49 then constant_of more else Bad)))))
