-- One word for a function that finds the one value with a property.
use Rattle.std.specs.Prelude.{◌≡◌, Bool, true, false, Result, Ok, Err}
use Rattle.eco_tokens.specs.declared.LexError.{LexError}
use Rattle.eco_tokens.specs.declared.LexError.TheVariants.{Syntax, OutOfMemory}

-- What is found, seen by `view`, has the property, and nothing else does; an error that `refuses`
-- says that nothing has it, and any other error says nothing.
abbrev pub FindsOr : {X Y E : Type 0} → (E → Bool) → (X → Y) → Result X E → (Y → Type 0) → Type 0
FindsOr {Y = Y} refuses view (Ok x) P = P (view x) × ((y : Y) → P y → y ≡ view x)
FindsOr {Y = Y} refuses view (Err e) P = refuses e ≡ true → (y : Y) → P y → ⊥

-- an error of the bytes, and not a want of memory
abbrev pub is_error : LexError → Bool
is_error (Syntax at) = true
is_error OutOfMemory = false

abbrev pub Finds : {X Y : Type 0} → (X → Y) → Result X LexError → (Y → Type 0) → Type 0
Finds view result P = FindsOr is_error view result P
