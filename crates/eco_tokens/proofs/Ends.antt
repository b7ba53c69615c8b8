-- A block comment's end, looked for byte by byte.
use Rattle.std.proofs.Common.{◌≡◌, ℕ, ◌+◌, ◌<◌, ◌≤◌, Bool, true, false, ◌&&◌, List, [], length, get_or, drop, refl, ap, ◌∙◌, add-one, drop-cons, arith}
use Rattle.std.specs.Prelude.{Option, Some, None, option_map, ◌==◌, if◌then◌else◌}
use Rattle.std.proofs.lemmas.List.{at_drop_all}
use Rattle.eco_tokens.specs.Front.{end_of}

step : (star : Bool) (bytes : List ℕ) (i d : ℕ) → i < length bytes → end_of star (drop i bytes) ≡ (if star && get_or bytes i d == 47 then Some 1 else option_map (λ n. n + 1) (end_of (get_or bytes i d == 42) (drop (i + 1) bytes)))
unfolding end_of
step star bytes i d h = rw (add-one, drop-cons bytes i d) refl

chosen : {A : Type 0} (b c : Bool) (x y : A) → b ≡ c → (c ≡ true → (if b then x else y) ≡ x) × (c ≡ false → (if b then x else y) ≡ y)
chosen b true x y e = (λ _. rw e refl, λ h. absurd (cc))
chosen b false x y e = (λ h. absurd (cc), λ _. rw e refl)

-- the end is at this byte
pub end_found : (star : Bool) (bytes : List ℕ) (i d : ℕ) → i < length bytes → (star && get_or bytes i d == 47) ≡ true → end_of star (drop i bytes) ≡ Some 1
end_found star bytes i d h e = step star bytes i d h ∙ (chosen _ _ _ _ refl).0 e

shift : (i : ℕ) (o : Option ℕ) → option_map (λ n. n + i) (option_map (λ n. n + 1) o) ≡ option_map (λ n. n + (i + 1)) o
shift i None = refl
shift i (Some n) = ap Some (omega arith)

-- the end isn't at this byte
pub end_later : (star : Bool) (bytes : List ℕ) (i d : ℕ) → i < length bytes → (star && get_or bytes i d == 47) ≡ false → option_map (λ n. n + i) (end_of star (drop i bytes)) ≡ option_map (λ n. n + (i + 1)) (end_of (get_or bytes i d == 42) (drop (i + 1) bytes))
end_later star bytes i d h e = ap (option_map (λ n. n + i)) (step star bytes i d h ∙ (chosen _ _ _ _ refl).1 e) ∙ shift i _

none : (star : Bool) → end_of star [] ≡ None
unfolding end_of
none star = refl

-- there is none
pub end_none : (star : Bool) (bytes : List ℕ) (i : ℕ) → length bytes ≤ i → end_of star (drop i bytes) ≡ None
end_none star bytes i h = at_drop_all (end_of star) bytes i h ∙ none star

pub ruleset end_steps = (end_found, end_later, end_none)
