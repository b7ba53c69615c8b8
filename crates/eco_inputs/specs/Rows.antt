-- What a command goes through, row by row: at each row it stops for a cause that stands there, or passes on with a value.
-- A cause counts where it stands and every row before it was passed.
use Rattle.std.specs.Prelude.{◌≡◌, ◌⊎◌, ℕ, List, Option, Some, None}

-- One row or several: which cause stands, at what is given; the file of which path it comes to read; and with which value
-- it passes on.
pub record Row (Given Cause Value : Type 0) : Type 1 where
  pub stands : Given → Cause → Type 0
  pub reads : Given → List ℕ → Type 0
  pub passes : Given → Value → Type 0

module _ {Given Cause : Type 0} where
  -- the row, and behind it the rows that its value chooses
  abbrev pub then_row : {Value Next : Type 0} → Row Given Cause Value → (Value → Row Given Cause Next) → Row Given Cause Next
  then_row row next = record {
    stands = λ given cause. row.stands given cause ⊎ ((m : _) × row.passes given m × (next m).stands given cause);
    reads = λ given path. row.reads given path ⊎ ((m : _) × row.passes given m × (next m).reads given path);
    passes = λ given value. (m : _) × row.passes given m × (next m).passes given value;
  }

  -- the row, with its causes as those of a command
  abbrev pub named_row : {Own Value : Type 0} → (Own → Cause) → Row Given Own Value → Row Given Cause Value
  named_row make row = record {
    stands = λ given cause. (own : _) × (cause ≡ make own) × row.stands given own;
    reads = row.reads;
    passes = row.passes;
  }

  -- a row that reads no file and is passed with this value: the causes that stand there, and where it is passed
  abbrev pub test_row : {Value : Type 0} → (Cause → Type 0) → Type 0 → Value → Row Given Cause Value
  test_row stands passes value = record {
    stands = λ given cause. stands cause;
    reads = λ given path. ⊥;
    passes = λ given v. passes × (v ≡ value);
  }

  -- a row that is always passed, with this value
  abbrev pub value_row : {Value : Type 0} → Value → Row Given Cause Value
  value_row value = test_row (λ cause. ⊥) (Unit {0}) value

  -- two rows in order, of which the second doesn't turn on what the first gives
  abbrev pub both_rows : {First Second : Type 0} → Row Given Cause First → Row Given Cause Second → Row Given Cause (First × Second)
  both_rows first second = then_row first (λ a. then_row second (λ b. value_row (a, b)))

  -- three such rows, with what is made of their values
  abbrev pub three_rows : {A B C Value : Type 0} → ((A × B) × C → Value) → Row Given Cause A → Row Given Cause B → Row Given Cause C → Row Given Cause Value
  three_rows make a b c = then_row (both_rows (both_rows a b) c) (λ read. value_row (make read))

  -- and four
  abbrev pub four_rows : {A B C D Value : Type 0} → (((A × B) × C) × D → Value) → Row Given Cause A → Row Given Cause B → Row Given Cause C → Row Given Cause D → Row Given Cause Value
  four_rows make a b c d = then_row (both_rows (both_rows (both_rows a b) c) d) (λ read. value_row (make read))

  -- the rows of what is given to an option; without the option they are passed with none
  abbrev pub optional_row : {X Value : Type 0} → Option X → (X → Row Given Cause Value) → Row Given Cause (Option Value)
  optional_row None row = value_row None
  optional_row (Some x) row = then_row (row x) (λ value. value_row (Some value))

  -- What makes the answer one: two causes that stand are alike but for what is left open, which `determine` takes out; no
  -- cause stands where the row is passed; it is passed with one value at most.
  pub record IsRow {Value : Type 0} (determine : Cause → Cause) (row : Row Given Cause Value) (given : Given) : Type 0 where
    pub once : (a b : Cause) → row.stands given a → row.stands given b → determine a ≡ determine b
    pub apart : (a : Cause) (v : Value) → row.stands given a → row.passes given v → ⊥
    pub same : (v w : Value) → row.passes given v → row.passes given w → v ≡ w
