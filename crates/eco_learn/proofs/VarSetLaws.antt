-- Sets of variables by stamps.
use Rattle.std.proofs.Common.{◌≡◌, ℕ, ◌+◌, ◌<◌, ◌≤◌, ◌==◌, inl, inr, Bool, true, false, List, [], ◌∷◌, ◌++◌, length, set, replicate, map, refl, sym, ap, ◌∙◌, subst, arith}
use Rattle.std.specs.List.{All}
use Rattle.std.proofs.lemmas.Bool.{true≢false, eq-eqb, ne_eqb}
use Rattle.std.proofs.lemmas.List.{map-set}
use Rattle.std.proofs.lemmas.List.Elements.{All-head, All-tail, All-replicate, All-weaker, Contains-push, Contains-append_left}
use Rattle.eco_trace.specs.declared.clause.Lit.{Lit}
use Rattle.eco_learn.specs.Marks.{IsIn, HaveBeenFound}
use Rattle.eco_learn.proofs.MarkLaws.{in_cases}
use Rattle.eco_learn.proofs.StepLaws.{none_marked}

-- earlier stamps mark nothing
pub none_in : (stamps : List ℕ) (present : ℕ) → All (λ stamp. stamp < present) stamps → map (λ stamp. stamp == present) stamps ≡ replicate (length stamps) false
none_in [] present h = refl
none_in (s ∷ stamps) present h =
    let lt : s < present = All-head (λ (n : ℕ). n < present) s stamps h in
    let here : (s == present) ≡ false = ne_eqb s present (λ e. absurd (omega arith)) in
    let rest = none_in stamps present (All-tail (λ (n : ℕ). n < present) s stamps h) in
    cc

-- a variable is marked with the present stamp, and by no other
pub put_in : (stamps : List ℕ) (present v : ℕ) → map (λ stamp. stamp == present) (set stamps v present) ≡ set (map (λ stamp. stamp == present) stamps) v true
put_in stamps present v =
    map-set (λ (stamp : ℕ). stamp == present) stamps v present ∙ ap (λ (b : Bool). set (map (λ (stamp : ℕ). stamp == present) stamps) v b) (eq-eqb present present refl)

pub put_out : (stamps : List ℕ) (present v : ℕ) → 1 ≤ present → map (λ stamp. stamp == present) (set stamps v 0) ≡ set (map (λ stamp. stamp == present) stamps) v false
put_out stamps present v le =
    map-set (λ (stamp : ℕ). stamp == present) stamps v 0 ∙ ap (λ (b : Bool). set (map (λ (stamp : ℕ). stamp == present) stamps) v b) (ne_eqb 0 present (λ e. absurd (omega arith)))

-- all stamps are nought at first
none_at_first : (n : ℕ) → All (λ stamp. stamp < 1) (replicate n 0)
none_at_first n = All-replicate (λ (stamp : ℕ). stamp < 1) n 0 (omega arith)

pub none_filled : (stamps : List ℕ) (n : ℕ) → stamps ≡ replicate n 0 → All (λ stamp. stamp < 1) stamps
none_filled stamps n e = subst (λ (l : List ℕ). All (λ stamp. stamp < 1) l) (sym e) (none_at_first n)

-- earlier stamps are below the next one
pub none_later : (stamps : List ℕ) (present : ℕ) → All (λ stamp. stamp ≤ present) stamps → All (λ stamp. stamp < present + 1) stamps
none_later stamps present h = All-weaker (λ (n : ℕ). n ≤ present) (λ (n : ℕ). n < present + 1) (λ n le. omega arith) stamps h

-- in an empty set there is nothing to be found
pub found_none : (marks : List Bool) (n : ℕ) (found : List Lit) → marks ≡ replicate n false → HaveBeenFound marks found
found_none marks n found e v in' = absurd (none_marked n v (subst (λ (m : List Bool). IsIn m v) e in'))

-- what was found stays so with one variable more, whose literal is noted, and with one less
pub found_more : (marks new : List Bool) (found : List Lit) (l : Lit) → new ≡ set marks l.var.0 true → HaveBeenFound marks found → HaveBeenFound new (found ++ l ∷ [])
found_more marks new found l e h v in' =
    elim (in_cases marks l.var.0 v true (subst (λ (m : List Bool). IsIn m v) e in')) [
      | inl here ↦ record { lit = l; member = Contains-push found l; variable = sym here.0 }
      | inr other ↦
          let has = h v other.1 in
          record { lit = has.lit; member = Contains-append_left found (l ∷ []) has.lit has.member; variable = has.variable }
    ]

pub found_less : (marks new : List Bool) (found : List Lit) (w : ℕ) → new ≡ set marks w false → HaveBeenFound marks found → HaveBeenFound new found
found_less marks new found w e h v in' =
    elim (in_cases marks w v false (subst (λ (m : List Bool). IsIn m v) e in')) [ inl here ↦ absurd (true≢false here.1) | inr other ↦ h v other.1 ]
