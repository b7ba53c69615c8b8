-- The parts of a line, and that a line has them in one way.
use Rattle.std.proofs.Common.{◌≡◌, ◌≢◌, ℕ, zero, suc, ◌-◌, ◌<◌, ◌≤◌, ◌^◌, Bool, true, false, List, [], ◌∷◌, ◌++◌, length, take, drop, get_or, map, decimal, IsTrue, refl, ap, sym, subst, ◌∙◌, arith}
use Rattle.std.specs.Prelude.{not, ◌==◌}
use Rattle.std.specs.List.{list_all}
use Rattle.std.specs.Str.Parse.{AllDigits}
use Rattle.std.proofs.lemmas.Bool.{and_parts, not-true, not-false, eqb-true, eqb-false, leb-true}
use Rattle.std.proofs.lemmas.Fmt.{decimal_is_IsNumeral}
use Rattle.std.proofs.lemmas.List.{take_all}
use Rattle.std.proofs.lemmas.List.Sums.{take_while-cons}
use Rattle.std.proofs.lemmas.Str.Parse.{digit_from_value}
use Rattle.eco_meaning.specs.Names.{is_name, is_printing}
use Rattle.eco_report.specs.Texts.{bit_digit}
use Rattle.eco_report.specs.Files.{IsFree}
use Rattle.eco_report.specs.Reading.{run_before, IsCut}

-- nothing, or the byte first
abbrev pub StopsAt : ℕ → List ℕ → Type 0
StopsAt mark [] = Unit {0}
StopsAt mark (b ∷ more) = b ≡ mark

-- the bytes are some without the byte, then nothing or the byte and more
pub record IsRun (mark : ℕ) (bytes front after : List ℕ) : Type 0 where
  pub joined : front ++ after ≡ bytes
  pub free : IsFree mark front
  pub stop : StopsAt mark after

more_run : (mark b : ℕ) (more : List ℕ) (passes : Bool) → not (b == mark) ≡ passes → IsRun mark more (take (run_before mark more) more) (drop (run_before mark more) more) → IsRun mark (b ∷ more) (take (run_before mark (b ∷ more)) (b ∷ more)) (drop (run_before mark (b ∷ more)) (b ∷ more))
more_run mark b more true e r =
    rw (take_while-cons, e)
    (record { joined = ap (λ xs. b ∷ xs) r.joined; free = (eqb-false b mark (not-true (b == mark) e), r.free); stop = r.stop })
more_run mark b more false e r =
    rw (take_while-cons, e)
    (record { joined = refl; free = tt; stop = eqb-true b mark (not-false (b == mark) e) })

-- a run that is counted is cut off whole
run_cut : (mark : ℕ) (bytes : List ℕ) → IsRun mark bytes (take (run_before mark bytes) bytes) (drop (run_before mark bytes) bytes)
run_cut mark [] = record { joined = refl; free = tt; stop = tt }
run_cut mark (b ∷ more) = more_run mark b more (not (b == mark)) refl (run_cut mark more)

run_of : (mark : ℕ) (bytes front rest : List ℕ) (n : ℕ) → n ≡ run_before mark bytes → front ≡ take n bytes → rest ≡ drop n bytes → IsRun mark bytes front rest
run_of mark bytes front rest n count before after = rw (before, after, count) (run_cut mark bytes)

append-nil : (bytes : List ℕ) → bytes ++ [] ≡ bytes
append-nil [] = refl
append-nil (b ∷ more) = ap (λ xs. b ∷ xs) (append-nil more)

-- where nothing is behind the run the byte stands nowhere
pub cut_none : (mark : ℕ) (bytes front rest : List ℕ) (n : ℕ) → n ≡ run_before mark bytes → front ≡ take n bytes → rest ≡ drop n bytes → length rest ≡ 0 → IsFree mark bytes
cut_none mark bytes front [] n count before after none =
    let r = run_of mark bytes front [] n count before after in
    subst (IsFree mark) (sym (append-nil front) ∙ r.joined) r.free
cut_none mark bytes front (b ∷ rest) n count before after none = absurd (omega arith)

-- else the bytes are cut there
pub cut_some : (mark : ℕ) (bytes front rest : List ℕ) (n : ℕ) → n ≡ run_before mark bytes → front ≡ take n bytes → rest ≡ drop n bytes → 1 ≤ length rest → IsCut mark bytes front (take (length rest - 1) (drop 1 rest))
cut_some mark bytes front [] n count before after some = absurd (omega arith)
cut_some mark bytes front (b ∷ rest) n count before after some =
    let r = run_of mark bytes front (b ∷ rest) n count before after in
    let whole : take (length (b ∷ rest) - 1) rest ≡ rest = take_all (length (b ∷ rest) - 1) rest (omega arith) in
    let same : b ∷ rest ≡ mark ∷ take (length (b ∷ rest) - 1) rest = ap (λ x. x ∷ rest) r.stop ∙ ap (λ xs. mark ∷ xs) (sym whole) in
    record { row = sym r.joined ∙ ap (λ xs. front ++ xs) same; free = r.free }

-- bytes are cut in one way
pub cut_once : (mark : ℕ) (a b c d : List ℕ) → a ++ mark ∷ b ≡ c ++ mark ∷ d → IsFree mark a → IsFree mark c → (a ≡ c) × (b ≡ d)
cut_once mark [] b [] d e f g = (refl, cc)
cut_once mark [] b (y ∷ c) d e f g = let same : mark ≡ y = cc in absurd (g.0 (sym same))
cut_once mark (x ∷ a) b [] d e f g = let same : x ≡ mark = cc in absurd (f.0 same)
cut_once mark (x ∷ a) b (y ∷ c) d e f g =
    let first : x ≡ y = cc in
    let rest : a ++ mark ∷ b ≡ c ++ mark ∷ d = cc in
    let more = cut_once mark a b c d rest f.1 g.1 in
    (cc (first, more.0), more.1)

-- bytes in which the byte stands aren't free of it
pub not_free : (mark : ℕ) (front back : List ℕ) → IsFree mark (front ++ mark ∷ back) → ⊥
not_free mark [] back f = f.0 refl
not_free mark (b ∷ front) back f = not_free mark front back f.1

pub free_append : (mark : ℕ) (a b : List ℕ) → IsFree mark a → IsFree mark b → IsFree mark (a ++ b)
free_append mark [] b f g = g
free_append mark (x ∷ a) b f g = (f.0, free_append mark a b f.1 g)

-- names, numbers and bits have no byte outside of theirs
printing_free : (mark : ℕ) (bytes : List ℕ) → mark < 33 → list_all is_printing bytes ≡ true → IsFree mark bytes
printing_free mark [] low h = tt
printing_free mark (b ∷ more) low h =
    let parts = and_parts (is_printing b) (list_all is_printing more) h in
    let least = leb-true 33 b (and_parts _ _ parts.0).0 in
    ((λ e. absurd (omega arith)), printing_free mark more low parts.1)

pub name_free : (mark : ℕ) (name : List ℕ) → mark < 33 → IsTrue (is_name name) → IsFree mark name
name_free mark name low h = printing_free mark name low (and_parts _ _ h).1

digits_free : (mark : ℕ) (bytes : List ℕ) → mark < 33 → AllDigits 10 bytes → IsFree mark bytes
digits_free mark [] low h = tt
digits_free mark (b ∷ more) low h = ((λ e. absurd (omega (arith, digit_from_value b h.0))), digits_free mark more low h.1)

pub number_free : (mark n : ℕ) → mark < 33 → n < 2 ^ 64 → IsFree mark (decimal n)
number_free mark n low h = digits_free mark (decimal n) low (decimal_is_IsNumeral n h).0.1

bit_free : (mark : ℕ) (bit : Bool) → mark < 33 → bit_digit bit ≢ mark
bit_free mark true low e = omega arith
bit_free mark false low e = omega arith

pub bits_free : (mark : ℕ) (bits : List Bool) → mark < 33 → IsFree mark (map bit_digit bits)
bits_free mark [] low = tt
bits_free mark (b ∷ bits) low = (bit_free mark b low, bits_free mark bits low)

-- a digit that isn't a bit's stands in no bits
pub not_bits : (digits : List ℕ) (k d : ℕ) (bits : List Bool) → k < length digits → digits ≡ map bit_digit bits → ((bit : Bool) → get_or digits k d ≡ bit_digit bit → ⊥) → ⊥
not_bits [] k d bits within e none = omega arith
not_bits (x ∷ digits) k d [] within e none = cc
not_bits (x ∷ digits) zero d (b ∷ bits) within e none = let same : x ≡ bit_digit b = cc in none b same
not_bits (x ∷ digits) (suc k) d (b ∷ bits) within e none =
    let rest : digits ≡ map bit_digit bits = cc in
    not_bits digits k d bits (omega arith) rest none

-- bits are one list
bit_once : (b c : Bool) → bit_digit b ≡ bit_digit c → b ≡ c
bit_once true true e = refl
bit_once true false e = absurd (omega arith)
bit_once false true e = absurd (omega arith)
bit_once false false e = refl

pub bits_once : (bits other : List Bool) → map bit_digit bits ≡ map bit_digit other → bits ≡ other
bits_once [] [] e = refl
bits_once [] (c ∷ other) e = absurd (cc)
bits_once (b ∷ bits) [] e = absurd (cc)
bits_once (b ∷ bits) (c ∷ other) e =
    let first : bit_digit b ≡ bit_digit c = cc in
    let rest : map bit_digit bits ≡ map bit_digit other = cc in
    cc (bit_once b c first, bits_once bits other rest)
