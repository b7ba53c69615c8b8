-- The lines of a text, as a loop goes over its pieces, and the first of them that hasn't a property.
use Rattle.std.proofs.Common.{◌≡◌, ℕ, zero, suc, ◌+◌, ◌<◌, List, [], ◌∷◌, ◌++◌, Bor, length, take, drop, get_or, map, refl, ap, sym, ◌∙◌, subst, arith, false}
use Rattle.std.specs.List.{AllByRecursion, enumerate_from}
use Rattle.std.specs.Str.Lines.{strip_carriage_return}
use Rattle.std.proofs.Math.Seq.{drop-cons}
use Rattle.std.proofs.lemmas.List.{length-map, map-append, take-append-drop}
use Rattle.std.proofs.lemmas.List.FromFn.{get_or-enumerate_from, length-enumerate_from}
use Rattle.std.specs.Prelude.{◌==◌}
use Rattle.eco_lists.specs.Lines.{cut_at_feeds, lines_of, IsFirstWithout}

-- numbered pieces behind references, as a loop sees them
abbrev pub seen : List (ℕ × Bor (List ℕ)) → List (ℕ × List ℕ)
seen items = map (λ item. (item.0, item.1.now)) items

-- the lines of numbered pieces
abbrev pub lines_in : List (ℕ × List ℕ) → List (List ℕ)
lines_in pairs = map (λ pair. strip_carriage_return pair.1) pairs

lines_in-take : (n k : ℕ) (pieces : List (List ℕ)) → lines_in (take k (enumerate_from n pieces)) ≡ map strip_carriage_return (take k pieces)
lines_in-take n zero [] = refl
lines_in-take n (suc k) [] = refl
lines_in-take n zero (piece ∷ pieces) = refl
lines_in-take n (suc k) (piece ∷ pieces) = ap (λ lines. strip_carriage_return piece ∷ lines) (lines_in-take (n + 1) k pieces)

lines_in-all : (n : ℕ) (pieces : List (List ℕ)) → lines_in (enumerate_from n pieces) ≡ map strip_carriage_return pieces
lines_in-all n [] = refl
lines_in-all n (piece ∷ pieces) = ap (λ lines. strip_carriage_return piece ∷ lines) (lines_in-all (n + 1) pieces)

-- all pieces were gone over
pub all_lines : (bytes : List ℕ) (pairs : List (ℕ × List ℕ)) → pairs ≡ enumerate_from 0 (cut_at_feeds bytes) → lines_in pairs ≡ lines_of bytes
all_lines bytes pairs e = ap lines_in e ∙ lines_in-all 0 (cut_at_feeds bytes)

-- where a piece at fault stands behind sound ones
pub fault_at : (P : List ℕ → Type 0) (bytes : List ℕ) (k : ℕ) (pairs : List (ℕ × List ℕ)) (pair : ℕ × List ℕ) → length pairs ≡ k → pairs ≡ take k (enumerate_from 0 (cut_at_feeds bytes)) → (k < length (enumerate_from 0 (cut_at_feeds bytes))) × (pair ≡ get_or (enumerate_from 0 (cut_at_feeds bytes)) k pair) → AllByRecursion P (lines_in pairs) → (P (strip_carriage_return pair.1) → ⊥) → IsFirstWithout P (lines_of bytes) (pair.0 + 1)
fault_at P bytes k pairs pair count so_far (within, at) sound fault =
    let pieces = cut_at_feeds bytes in
    let long : length (enumerate_from 0 pieces) ≡ length pieces = length-enumerate_from 0 pieces in
    let inside : k < length pieces = omega (arith, long, within) in
    let is : pair ≡ (0 + k, get_or pieces k pair.1) = at ∙ get_or-enumerate_from 0 pieces k pair inside in
    let piece : get_or pieces k pair.1 ≡ pair.1 = sym (ap (λ (p : ℕ × List ℕ). p.1) is) in
    let index : pair.0 ≡ 0 + k = ap (λ (p : ℕ × List ℕ). p.0) is in
    let front : lines_in pairs ≡ map strip_carriage_return (take k pieces) = ap lines_in so_far ∙ lines_in-take 0 k pieces in
    let cut : pieces ≡ take k pieces ++ pair.1 ∷ drop (suc k) pieces =
    sym (take-append-drop k pieces) ∙ ap (λ xs. take k pieces ++ xs) (drop-cons pieces k pair.1 inside ∙ ap (λ x. x ∷ drop (suc k) pieces) piece) in
    record {
      before = lines_in pairs;
      line = strip_carriage_return pair.1;
      after = map strip_carriage_return (drop (suc k) pieces);
      cut = ap (map strip_carriage_return) cut ∙ map-append strip_carriage_return (take k pieces) (pair.1 ∷ drop (suc k) pieces) ∙ ap (λ xs. xs ++ strip_carriage_return pair.1 ∷ map strip_carriage_return (drop (suc k) pieces)) (sym front);
      number =
          let length_is : length (lines_in pairs) ≡ length pairs = length-map pairs (λ (p : ℕ × List ℕ). strip_carriage_return p.1) in
          omega (arith, index, length_is, count);
      sound = sound;
      fault = fault;
    }

-- one piece more is one line more
pub lines-push : (items : List (ℕ × Bor (List ℕ))) (item : ℕ × Bor (List ℕ)) → lines_in (seen (items ++ item ∷ [])) ≡ lines_in (seen items) ++ strip_carriage_return item.1.now ∷ []
lines-push [] item = refl
lines-push (x ∷ items) item = ap (λ lines. strip_carriage_return x.1.now ∷ lines) (lines-push items item)

-- a line among lines with the property has it
pub sound_at : (P : List ℕ → Type 0) (before : List (List ℕ)) (line : List ℕ) (after : List (List ℕ)) → AllByRecursion P (before ++ line ∷ after) → P line
sound_at P [] line after h = h.0
sound_at P (l ∷ before) line after h = sound_at P before line after h.1

-- in two cuts at the first line without the property it stands at one place
same_length : (P : List ℕ → Type 0) (before : List (List ℕ)) (line : List ℕ) (after front : List (List ℕ)) (other : List ℕ) (back : List (List ℕ)) → before ++ line ∷ after ≡ front ++ other ∷ back → AllByRecursion P before → AllByRecursion P front → (P line → ⊥) → (P other → ⊥) → length before ≡ length front
same_length P [] line after [] other back e s t f g = refl
same_length P [] line after (m ∷ front) other back e s t f g =
    let same : line ≡ m = cc in
    absurd (f (subst P (sym same) t.0))
same_length P (l ∷ before) line after [] other back e s t f g =
    let same : l ≡ other = cc in
    absurd (g (subst P same s.0))
same_length P (l ∷ before) line after (m ∷ front) other back e s t f g =
    let rest : before ++ line ∷ after ≡ front ++ other ∷ back = cc in
    ap (λ n. suc n) (same_length P before line after front other back rest s.1 t.1 f g)

-- one line is the first without the property
pub fault_once : (P : List ℕ → Type 0) (lines : List (List ℕ)) (n m : ℕ) → IsFirstWithout P lines n → IsFirstWithout P lines m → n ≡ m
fault_once P lines n m f g =
    f.number ∙ ap (λ k. k + 1) (same_length P f.before f.line f.after g.before g.line g.after (sym f.cut ∙ g.cut) f.sound g.sound f.fault g.fault) ∙ sym g.number

-- no line feed
abbrev pub IsNoFeed : ℕ → Type 0
IsNoFeed b = (b == 10) ≡ false
