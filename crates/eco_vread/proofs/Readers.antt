-- Readers and the grammar: what is read is what is written there, and what is written is read again.
use Rattle.std.proofs.Common.{◌≡◌, ℕ, zero, suc, ◌≤◌, Bool, true, List, [], ◌∷◌, ◌++◌, length, refl, ap, sym, ◌∙◌, arith, append_assoc, length-append, Some, None}
use Rattle.std.specs.Prelude.{◌&&◌}
use Rattle.std.specs.List.{flat_map, list_all}
use Rattle.std.proofs.Math.Bool.{and_assoc}
use Rattle.eco_lists.proofs.Tests.{both}
use Rattle.eco_tokens.specs.Said.{Said}
use Rattle.eco_vread.specs.Fronts.{Found, Step, step_from, next_steps, steps_at, repeated}
use Rattle.eco_vread.specs.Fronts.Step.{more, last}
use Rattle.eco_vread.proofs.Repeats.{Shrinks, unrolled, rest_of}

-- What is found is written at the front, and is good; what is good and written at the front is found. It has at
-- least one token.
pub record IsReader {X : Type 0} (read : List Said → Found X) (spell : X → List Said) (good : X → Bool) : Type 0 where
  pub takes : (ts us : List Said) (x : X) → read ts ≡ Some (x, us) → (ts ≡ spell x ++ us) × (good x ≡ true)
  pub again : (us : List Said) (x : X) → good x ≡ true → read (spell x ++ us) ≡ Some (x, us)
  pub some : (x : X) → 1 ≤ length (spell x)

pub reader_less : {X : Type 0} (read : List Said → Found X) (spell : X → List Said) (good : X → Bool) → IsReader read spell good → Shrinks read
reader_less read spell good r = record {
  less = λ ts us x h.
      let w = r.takes ts us x h in
      omega (arith, r.some x, ap length w.0, length-append (spell x) us);
}

-- the value that is found
abbrev pub value_or : {X : Type 0} → X → Found X → X
value_or x None = x
value_or x (Some found) = found.0

-- the value, and the tokens behind it
abbrev pub found_at : {X : Type 0} → X → List Said → Found X
found_at x us = Some (x, us)

-- how a repetition is written
abbrev pub spell_repeated : {X Y : Type 0} → (Step X Y → List Said) → List X × Y → List Said
spell_repeated spell r = flat_map (λ x. spell (more x)) r.0 ++ spell (last r.1)

abbrev pub good_repeated : {X Y : Type 0} → (Step X Y → Bool) → List X × Y → Bool
good_repeated good r = list_all (λ x. good (more x)) r.0 && good (last r.1)

grouped : (a b c us : List Said) → a ++ ((b ++ c) ++ us) ≡ ((a ++ b) ++ c) ++ us
grouped a b c us = simp append_assoc

-- what a step and the steps behind it read
step_takes : {X Y : Type 0} (spell : Step X Y → List Said) (good : Step X Y → Bool) (ts vs us : List Said) (s : Step X Y) (rest : Found (List X × Y)) (r : List X × Y) → ts ≡ spell s ++ vs → good s ≡ true → ((q : List X × Y) → rest ≡ Some (q, us) → (vs ≡ spell_repeated spell q ++ us) × (good_repeated good q ≡ true)) → step_from s rest vs ≡ Some (r, us) → (ts ≡ spell_repeated spell r ++ us) × (good_repeated good r ≡ true)
step_takes {X} {Y} spell good ts vs us (last y) rest r e g h k =
    let v : vs ≡ us = ap rest_of k in
    let w : ([], y) ≡ r = ap (value_or ([], y)) k in
    (e ∙ ap (λ l. spell (last y) ++ l) v ∙ ap (λ q. spell_repeated spell q ++ us) w, ap (good_repeated good) (sym w) ∙ g)
step_takes spell good ts vs us (more x) None r e g h k = absurd (cc)
step_takes spell good ts vs us (more x) (Some found) r e g h k =
    let v : found.1 ≡ us = ap rest_of k in
    let w : (x ∷ found.0.0, found.0.1) ≡ r = ap (value_or (x ∷ found.0.0, found.0.1)) k in
    let i = h found.0 (ap (λ l. Some (found.0, l)) v) in
    let all : good_repeated good (x ∷ found.0.0, found.0.1) ≡ true = rw g i.1 in
    (e ∙ ap (λ l. spell (more x) ++ l) i.0 ∙ grouped (spell (more x)) (flat_map (λ x. spell (more x)) found.0.0) (spell (last found.0.1)) us ∙ ap (λ q. spell_repeated spell q ++ us) w, ap (good_repeated good) (sym w) ∙ all)

-- the first step of a repetition, and what is behind it
next_takes : {X Y : Type 0} (spell : Step X Y → List Said) (good : Step X Y → Bool) (ts us : List Said) (rest : List Said → Found (List X × Y)) (o : Found (Step X Y)) (r : List X × Y) → ((vs : List Said) (s : Step X Y) → o ≡ Some (s, vs) → (ts ≡ spell s ++ vs) × (good s ≡ true)) → ((vs : List Said) (q : List X × Y) → rest vs ≡ Some (q, us) → (vs ≡ spell_repeated spell q ++ us) × (good_repeated good q ≡ true)) → next_steps rest o ≡ Some (r, us) → (ts ≡ spell_repeated spell r ++ us) × (good_repeated good r ≡ true)
next_takes spell good ts us rest None r f h k = absurd (cc)
next_takes spell good ts us rest (Some found) r f h k =
    let w = f found.1 found.0 refl in
    step_takes spell good ts found.1 us found.0 (rest found.1) r w.0 w.1 (h found.1) k

steps_take : {X Y : Type 0} (step : List Said → Found (Step X Y)) (spell : Step X Y → List Said) (good : Step X Y → Bool) → IsReader step spell good → (n : ℕ) (ts us : List Said) (r : List X × Y) → steps_at step n ts ≡ Some (r, us) → (ts ≡ spell_repeated spell r ++ us) × (good_repeated good r ≡ true)
unfolding steps_at
steps_take step spell good is zero ts us r h = absurd (cc)
steps_take step spell good is (suc n) ts us r h =
    next_takes spell good ts us (λ vs. steps_at step n vs) (step ts) r (is.takes ts) (λ vs q. steps_take step spell good is n vs us q) h

-- what is written is read, one step after another
steps_again : {X Y : Type 0} (step : List Said → Found (Step X Y)) (spell : Step X Y → List Said) (good : Step X Y → Bool) → IsReader step spell good → (us : List Said) (xs : List X) (y : Y) → good_repeated good (xs, y) ≡ true → repeated step (spell_repeated spell (xs, y) ++ us) ≡ Some ((xs, y), us)
steps_again step spell good is us [] y g =
    unrolled step (reader_less step spell good is) (spell (last y) ++ us) ∙ ap (next_steps (λ vs. repeated step vs)) (is.again us (last y) g)
steps_again step spell good is us (x ∷ xs) y g =
    let h : (good (more x) && good_repeated good (xs, y)) ≡ true = sym (and_assoc (good (more x)) (list_all (λ x. good (more x)) xs) (good (last y))) ∙ g in
    let w = both (good (more x)) (good_repeated good (xs, y)) h in
    ap (repeated step) (sym (grouped (spell (more x)) (flat_map (λ x. spell (more x)) xs) (spell (last y)) us))
    ∙ unrolled step (reader_less step spell good is) (spell (more x) ++ (spell_repeated spell (xs, y) ++ us))
    ∙ ap (next_steps (λ vs. repeated step vs)) (is.again (spell_repeated spell (xs, y) ++ us) (more x) w.0)
    ∙ ap (λ r. step_from (more x) r us) (steps_again step spell good is us xs y w.1)

repeated_some : {X Y : Type 0} (step : List Said → Found (Step X Y)) (spell : Step X Y → List Said) (good : Step X Y → Bool) → IsReader step spell good → (r : List X × Y) → 1 ≤ length (spell_repeated spell r)
repeated_some step spell good is r = omega (arith, is.some (last r.1), length-append (flat_map (λ x. spell (more x)) r.0) (spell (last r.1)))

-- a repetition of a reader's steps is a reader
pub repeated_reader : {X Y : Type 0} (step : List Said → Found (Step X Y)) (spell : Step X Y → List Said) (good : Step X Y → Bool) → IsReader step spell good → IsReader (λ ts. repeated step ts) (spell_repeated spell) (good_repeated good)
repeated_reader step spell good is = record {
  takes = λ ts us r h. steps_take step spell good is (length ts) ts us r h;
  again = λ us r g. steps_again step spell good is us r.0 r.1 g;
  some = repeated_some step spell good is;
}
