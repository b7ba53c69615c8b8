-- Runs of bytes that pass a test, at the front of a text.
use Rattle.std.proofs.Common.{◌≡◌, ℕ, suc, ◌≤◌, Bool, true, false, List, [], ◌∷◌, ◌++◌, length, refl, ap, arith}
use Rattle.std.specs.List.{list_all}
use Rattle.std.proofs.lemmas.List.Sums.{take_while-cons}
use Rattle.eco_lists.proofs.Tests.{both}
use Rattle.eco_lists.specs.Lines.{run_of}

-- the bytes don't begin with one that passes
abbrev pub StopsAt : (ℕ → Bool) → List ℕ → Type 0
StopsAt test [] = Unit {0}
StopsAt test (b ∷ more) = test b ≡ false

-- a run of bytes that pass is found whole
pub run_stands : (test : ℕ → Bool) (text after : List ℕ) → list_all test text ≡ true → StopsAt test after → run_of test (text ++ after) ≡ length text
run_stands test [] [] all stop = refl
run_stands test [] (b ∷ more) all stop = rw (take_while-cons, stop) refl
run_stands test (b ∷ text) after all stop =
    let h = both (test b) (list_all test text) all in
    let first : test b ≡ true = h.0 in
    rw (take_while-cons, first) (ap (λ n. suc n) (run_stands test text after h.1 stop))

-- what is found is a run of bytes that pass
pub record IsRun (test : ℕ → Bool) (bytes : List ℕ) : Type 0 where
  pub text : List ℕ
  pub after : List ℕ
  pub joined : bytes ≡ text ++ after
  pub all : list_all test text ≡ true
  pub stop : StopsAt test after
  pub count : run_of test bytes ≡ length text

more_run : (test : ℕ → Bool) (b : ℕ) (more : List ℕ) (passes : Bool) → test b ≡ passes → IsRun test more → IsRun test (b ∷ more)
more_run test b more true e r = record {
  text = b ∷ r.text;
  after = r.after;
  joined = ap (λ xs. b ∷ xs) r.joined;
  all = rw e r.all;
  stop = r.stop;
  count = rw (take_while-cons, e) (ap (λ n. suc n) r.count);
}
more_run test b more false e r = record {
  text = [];
  after = b ∷ more;
  joined = refl;
  all = refl;
  stop = e;
  count = rw (take_while-cons, e) refl;
}

pub run_found : (test : ℕ → Bool) (bytes : List ℕ) → IsRun test bytes
run_found test [] = record { text = []; after = []; joined = refl; all = refl; stop = tt; count = refl }
run_found test (b ∷ more) = more_run test b more (test b) refl (run_found test more)

-- no run of bytes that pass is longer
pub run_longest : (test : ℕ → Bool) (text after front back : List ℕ) → text ++ after ≡ front ++ back → StopsAt test after → list_all test front ≡ true → length front ≤ length text
run_longest test text after [] back e stop all = omega arith
run_longest test (b ∷ text) after (c ∷ front) back e stop all =
    let rest : text ++ after ≡ front ++ back = cc in
    let h = run_longest test text after front back rest stop (both (test c) (list_all test front) all).1 in
    omega arith
run_longest test [] [] (c ∷ front) back e stop all = absurd (cc)
run_longest test [] (b ∷ more) (c ∷ front) back e stop all =
    let same : b ≡ c = cc in
    let passes : test c ≡ true = (both (test c) (list_all test front) all).0 in
    absurd (cc)
