-- Runs of bytes that pass a test, at the front of a text.
use Rattle.std.proofs.Common.{◌≡◌, ℕ, Bool, true, false, List, [], ◌∷◌, ◌++◌, take, drop, refl, ap, sym, ◌∙◌}
use Rattle.std.specs.List.{list_all}
use Rattle.std.proofs.lemmas.Bool.{false≢true, and_parts}
use Rattle.std.proofs.lemmas.List.Sums.{take_while-cons}
use Rattle.eco_lists.specs.Lines.{run_of}

-- the bytes don't begin with one that passes
abbrev pub StopsAt : (ℕ → Bool) → List ℕ → Type 0
StopsAt test [] = Unit {0}
StopsAt test (b ∷ more) = test b ≡ false

-- the bytes are a text that passes, and what begins with no byte that does
pub record IsRun (test : ℕ → Bool) (bytes text after : List ℕ) : Type 0 where
  pub joined : text ++ after ≡ bytes
  pub all : list_all test text ≡ true
  pub stop : StopsAt test after

more_run : (test : ℕ → Bool) (b : ℕ) (more : List ℕ) (passes : Bool) → test b ≡ passes → IsRun test more (take (run_of test more) more) (drop (run_of test more) more) → IsRun test (b ∷ more) (take (run_of test (b ∷ more)) (b ∷ more)) (drop (run_of test (b ∷ more)) (b ∷ more))
more_run test b more true e r =
    rw (take_while-cons, e)
    (record { joined = ap (λ xs. b ∷ xs) r.joined; all = rw e r.all; stop = r.stop })
more_run test b more false e r =
    rw (take_while-cons, e)
    (record { joined = refl; all = refl; stop = e })

-- a run that is counted is cut off whole
pub run_cut : (test : ℕ → Bool) (bytes : List ℕ) → IsRun test bytes (take (run_of test bytes) bytes) (drop (run_of test bytes) bytes)
run_cut test [] = record { joined = refl; all = refl; stop = tt }
run_cut test (b ∷ more) = more_run test b more (test b) refl (run_cut test more)

-- bytes are a run and the rest in one way
pub run_once : (test : ℕ → Bool) (bytes text after front back : List ℕ) → IsRun test bytes text after → IsRun test bytes front back → (text ≡ front) × (after ≡ back)
run_once test bytes [] after [] back r s = (refl, r.joined ∙ sym s.joined)
run_once test [] (b ∷ text) after front back r s = absurd (cc (r.joined))
run_once test [] [] after (c ∷ front) back r s = absurd (cc (s.joined))
run_once test (a ∷ bytes) (b ∷ text) after [] [] r s = absurd (cc (s.joined))
run_once test (a ∷ bytes) (b ∷ text) after [] (c ∷ back) r s =
    let same : b ≡ c = cc (r.joined, s.joined) in
    let passes : test b ≡ true = (and_parts (test b) (list_all test text) r.all).0 in
    absurd (false≢true (sym s.stop ∙ sym (ap test same) ∙ passes))
run_once test (a ∷ bytes) [] [] (c ∷ front) back r s = absurd (cc (r.joined))
run_once test (a ∷ bytes) [] (b ∷ after) (c ∷ front) back r s =
    let same : c ≡ b = cc (r.joined, s.joined) in
    let passes : test c ≡ true = (and_parts (test c) (list_all test front) s.all).0 in
    absurd (false≢true (sym r.stop ∙ sym (ap test same) ∙ passes))
run_once test (a ∷ bytes) (b ∷ text) after (c ∷ front) back r s =
    let first : b ≡ c = cc (r.joined, s.joined) in
    let left : text ++ after ≡ bytes = cc (r.joined) in
    let right : front ++ back ≡ bytes = cc (s.joined) in
    let rest = run_once test bytes text after front back
    (record { joined = left; all = (and_parts (test b) (list_all test text) r.all).1; stop = r.stop })
    (record { joined = right; all = (and_parts (test c) (list_all test front) s.all).1; stop = s.stop }) in
    (cc (first, rest.0), rest.1)
