-- The end of a block comment: what stands is found, and what is found stands.
use Rattle.std.proofs.Common.{◌≡◌, ℕ, ◌+◌, Bool, true, false, ◌&&◌, ◌||◌, List, [], ◌∷◌, ◌++◌, length, refl, ap, ◌∙◌, sym, arith, ◌⊎◌, inl, inr, eqb-true}
use Rattle.std.specs.Prelude.{Option, Some, None, option_map, ◌==◌, if◌then◌else◌}
use Rattle.std.proofs.lemmas.Bool.{false≢true}
use Rattle.std.proofs.Math.Bool.{and-false}
use Rattle.eco_lists.proofs.Tests.{both, neither}
use Rattle.eco_tokens.specs.Front.{end_of}
use Rattle.eco_tokens.specs.Pieces.{has_end}

-- the bytes begin with a `/`
pub slash : List ℕ → Bool
slash [] = false
slash (b ∷ more) = b == 47

-- the next byte ends the comment, or doesn't
end_cons : (star : Bool) (b : ℕ) (more : List ℕ) → end_of star (b ∷ more) ≡ (if star && b == 47 then Some 1 else option_map (λ n. n + 1) (end_of (b == 42) more))
unfolding end_of
end_cons star b more = refl

-- one more byte before has an end with the next, or doesn't
has_end_cons : (b : ℕ) (more : List ℕ) → has_end (b ∷ more) ≡ ((b == 42 && slash more) || has_end more)
unfolding has_end slash
has_end_cons b [] = elim (b == 42) as (λ t. false ≡ ((t && false) || false)) [ true ↦ refl | false ↦ refl ]
has_end_cons b (c ∷ more) = refl

end_stands_from : (body after : List ℕ) (star : Bool) → has_end body ≡ false → (star && slash body) ≡ false → end_of star (body ++ 42 ∷ 47 ∷ after) ≡ Some (length body + 2)
unfolding slash
end_stands_from [] after star none apart = rw (end_cons, and-false star, end_cons) refl
end_stands_from (b ∷ body) after star none apart =
    let h = neither _ _ (sym (has_end_cons b body) ∙ none) in
    rw (end_cons, apart, end_stands_from body after (b == 42) h.1 h.0) (ap Some (omega arith))

-- the first end behind a body without one is found
pub end_stands : (body after : List ℕ) → has_end body ≡ false → end_of false (body ++ 42 ∷ 47 ∷ after) ≡ Some (length body + 2)
end_stands body after none = end_stands_from body after false none refl

-- the end that is found is behind a body without one
pub record IsClosed (star : Bool) (bytes : List ℕ) (n : ℕ) : Type 0 where
  pub body : List ℕ
  pub after : List ℕ
  pub joined : bytes ≡ body ++ 42 ∷ 47 ∷ after
  pub count : n ≡ length body + 2
  pub none : has_end body ≡ false
  pub apart : (star && slash body) ≡ false

-- the end stands at once
abbrev pub ClosesNow : Bool → List ℕ → ℕ → Type 0
ClosesNow star bytes n = (star ≡ true) × ((after : List ℕ) × (bytes ≡ 47 ∷ after) × (n ≡ 1))

abbrev pub Closes : Bool → List ℕ → ℕ → Type 0
Closes star bytes n = IsClosed star bytes n ⊎ ClosesNow star bytes n

-- a byte that isn't the end, before an end at once
closes_behind : (star : Bool) (b : ℕ) (more : List ℕ) (m n : ℕ) → (star && b == 47) ≡ false → n ≡ m + 1 → ClosesNow (b == 42) more m → IsClosed star (b ∷ more) n
unfolding slash has_end
closes_behind star b more m n e count w =
    let same : b ≡ 42 = eqb-true b 42 w.0 in
    record { body = []; after = w.1.0; joined = cc; count = omega arith; none = refl; apart = and-false star }

-- a byte that isn't the end, before an end further on
closes_further : (star : Bool) (b : ℕ) (more : List ℕ) (m n : ℕ) → (star && b == 47) ≡ false → n ≡ m + 1 → IsClosed (b == 42) more m → IsClosed star (b ∷ more) n
unfolding slash
closes_further star b more m n e count w = record {
  body = b ∷ w.body;
  after = w.after;
  joined = ap (λ xs. b ∷ xs) w.joined;
  count = omega arith;
  none = has_end_cons b w.body ∙ cc;
  apart = e;
}

closes_later : (star : Bool) (b : ℕ) (more : List ℕ) (n : ℕ) (o : Option ℕ) → (star && b == 47) ≡ false → option_map (λ n. n + 1) o ≡ Some n → ((m : ℕ) → o ≡ Some m → Closes (b == 42) more m) → Closes star (b ∷ more) n
closes_later star b more n None e h found = absurd (cc)
closes_later star b more n (Some m) e h found =
    let count : n ≡ m + 1 = cc in
    elim (found m refl) [ inl w ↦ inl (closes_further star b more m n e count w) | inr w ↦ inl (closes_behind star b more m n e count w) ]

closes_first : (star : Bool) (b : ℕ) (more : List ℕ) (n : ℕ) (t : Bool) → (star && b == 47) ≡ t → (if t then Some 1 else option_map (λ n. n + 1) (end_of (b == 42) more)) ≡ Some n → ((m : ℕ) → end_of (b == 42) more ≡ Some m → Closes (b == 42) more m) → Closes star (b ∷ more) n
closes_first star b more n true e h found =
    let w = both star (b == 47) e in
    let same : b ≡ 47 = eqb-true b 47 w.1 in
    inr (w.0, (more, ap (λ c. c ∷ more) same, cc))
closes_first star b more n false e h found = closes_later star b more n (end_of (b == 42) more) e h found

closes_from : (bytes : List ℕ) (star : Bool) (n : ℕ) → end_of star bytes ≡ Some n → Closes star bytes n
unfolding end_of
closes_from [] star n h = absurd (cc)
closes_from (b ∷ more) star n h = closes_first star b more n (star && b == 47) refl h (λ m e. closes_from more (b == 42) m e)

pub end_found : (bytes : List ℕ) (n : ℕ) → end_of false bytes ≡ Some n → IsClosed false bytes n
end_found bytes n h = elim (closes_from bytes false n h) [ inl w ↦ w | inr w ↦ absurd (false≢true w.0) ]
