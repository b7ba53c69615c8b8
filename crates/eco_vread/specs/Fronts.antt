-- What stands at the front of tokens: single tokens, repetitions and lists with commas, as functions on lists.
use Rattle.std.specs.Prelude.{ℕ, zero, suc, Bool, true, false, ◌&&◌, List, [], ◌∷◌, ◌++◌, length, Option, Some, None, option_map, option_and_then, codes, if◌then◌else◌}
use Rattle.std.specs.Str.{bytes_eq}
use Rattle.eco_tokens.specs.declared.TokenKind.{TokenKind}
use Rattle.eco_tokens.specs.declared.TokenKind.TheVariants.{Simple, Word, Escaped, Constant, Mark}
use Rattle.eco_tokens.specs.Said.{Said}
use Rattle.eco_tokens.specs.Cells.{is_mark_kind}
use Rattle.eco_vread.specs.Syntax.{Identifier, Term}
use Rattle.eco_vread.specs.Syntax.Term.{low, high, net}

-- what is found, and the tokens behind it
abbrev pub Found : Type 0 → Type 0
Found X = Option (X × List Said)

infixl 10 ◌>>=◌
abbrev pub ◌>>=◌ : {A B : Type 0} → Option A → (A → Option B) → Option B
o >>= f = option_and_then f o

abbrev pub is_word_kind : TokenKind → Bool
is_word_kind Simple = false
is_word_kind Word = true
is_word_kind Escaped = false
is_word_kind Constant = false
is_word_kind Mark = false

-- the tokens behind this word, or behind this mark
unfoldable pub word_at : List ℕ → List Said → Option (List Said)
word_at text [] = None
word_at text (t ∷ ts) = if is_word_kind t.kind && bytes_eq t.text text then Some ts else None

unfoldable pub mark_at : List ℕ → List Said → Option (List Said)
mark_at text [] = None
mark_at text (t ∷ ts) = if is_mark_kind t.kind && bytes_eq t.text text then Some ts else None

abbrev pub name_from : TokenKind → List ℕ → Option Identifier
name_from Simple text = Some (record { escaped = false; text = text })
name_from Escaped text = Some (record { escaped = true; text = text })
name_from Word text = None
name_from Constant text = None
name_from Mark text = None

unfoldable pub name_at : List Said → Found Identifier
name_at [] = None
name_at (t ∷ ts) = option_map (λ i. (i, ts)) (name_from t.kind t.text)

abbrev pub constant_from : List ℕ → Option Term
constant_from text =
    if bytes_eq text (codes "1'b0") then Some low else (if bytes_eq text (codes "1'b1") then Some high else None)

abbrev pub term_from : TokenKind → List ℕ → Option Term
term_from Simple text = Some (net (record { escaped = false; text = text }))
term_from Escaped text = Some (net (record { escaped = true; text = text }))
term_from Constant text = constant_from text
term_from Word text = None
term_from Mark text = None

unfoldable pub term_at : List Said → Found Term
term_at [] = None
term_at (t ∷ ts) = option_map (λ i. (i, ts)) (term_from t.kind t.text)

-- whether a token is there or not
abbrev pub or_here : List Said → Option (List Said) → Bool × List Said
or_here ts None = (false, ts)
or_here ts (Some us) = (true, us)

unfoldable pub wire_at : List Said → Bool × List Said
wire_at ts = or_here ts (word_at (codes "wire") ts)

abbrev pub label_from : List Said → Found Identifier → Option Identifier × List Said
label_from ts None = (None, ts)
label_from ts (Some found) = (Some found.0, found.1)

unfoldable pub label_at : List Said → Option Identifier × List Said
label_at ts = label_from ts (name_at ts)

-- `true` behind a comma, `false` behind the mark that ends the list
abbrev pub end_with : Option (List Said) → Option (List Said) → Found Bool
end_with (Some us) other = Some (true, us)
end_with None other = option_map (λ us. (false, us)) other

unfoldable pub separator_at : List ℕ → List Said → Found Bool
separator_at mark ts = end_with (mark_at (codes ",") ts) (mark_at mark ts)

-- a step of a repetition: one more, or the last
pub data Step (X Y : Type 0) : Type 0 where
  more : X → Step X Y
  last : Y → Step X Y

-- how a repetition goes on behind a step
abbrev pub step_from : {X Y : Type 0} → Step X Y → Found (List X × Y) → List Said → Found (List X × Y)
step_from (more x) rest us = option_map (λ r. ((x ∷ r.0.0, r.0.1), r.1)) rest
step_from (last y) rest us = Some (([], y), us)

abbrev pub next_steps : {X Y : Type 0} → (List Said → Found (List X × Y)) → Found (Step X Y) → Found (List X × Y)
next_steps rest None = None
next_steps rest (Some found) = step_from found.0 (rest found.1) found.1

-- steps up to the last, of which there are at most so many
unfoldable pub steps_at : {X Y : Type 0} → (List Said → Found (Step X Y)) → ℕ → List Said → Found (List X × Y)
steps_at step zero ts = None
steps_at step (suc n) ts = next_steps (λ us. steps_at step n us) (step ts)

abbrev pub repeated : {X Y : Type 0} → (List Said → Found (Step X Y)) → List Said → Found (List X × Y)
repeated step ts = steps_at step (length ts) ts

-- an element of a list and the mark behind it
unfoldable pub element_at : {X : Type 0} → (List Said → Found X) → List ℕ → List Said → Found (Step X X)
element_at read mark ts = do
  found ← read ts
  separator ← separator_at mark found.1
  Some ((if separator.0 then more found.0 else last found.0), separator.1)

-- elements with commas between, up to a mark
unfoldable pub list_at : {X : Type 0} → (List Said → Found X) → List ℕ → List Said → Found (List X)
list_at read mark ts = option_map (λ r. (r.0.0 ++ r.0.1 ∷ [], r.1)) (repeated (element_at read mark) ts)
