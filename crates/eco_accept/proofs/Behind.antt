-- Valuations that are put together of two.
use Rattle.std.proofs.Common.{◌≡◌, ◌≢◌, ◌↔◌, ℕ, ◌+◌, ◌-◌, ◌<◌, ◌≤◌, Bool, false, cond, leb, List, length, get_or, map, ◌∙◌, ap, subst, arith}
use Rattle.std.specs.List.{Contains, All, AllPairs}
use Rattle.std.proofs.lemmas.Bool.{le-leb, lt-leb}
use Rattle.std.proofs.lemmas.List.{length-map, get_or-map}
use Rattle.std.proofs.lemmas.List.Elements.{All-get_or, All-contains}
use Rattle.std.proofs.lemmas.Option.{get_or_from_slice_get}
use Rattle.eco_trace.specs.declared.clause.Lit.{Lit}
use Rattle.eco_trace.specs.Adding.{behind}
use Rattle.eco_trace.specs.Clauses.{Valuation}
use Rattle.eco_tseitin.specs.Encoding.{variable_of}
use Rattle.eco_tseitin.proofs.Places.{place_of, place_stands}

-- a valuation up to a variable, and behind it the bits of the nodes
pub glued : ℕ → List ℕ → Valuation → (ℕ → Bool) → Valuation
glued n named v u x = cond (leb x n) (v x) (u (get_or named (x - (n + 1)) 0))

pub glued_front : (n : ℕ) (named : List ℕ) (v : Valuation) (u : ℕ → Bool) (x : ℕ) → x ≤ n → glued n named v u x ≡ v x
unfolding glued
glued_front n named v u x last = ap (λ b. cond b (v x) (u (get_or named (x - (n + 1)) 0))) (le-leb x n last)

pub glued_behind : (n : ℕ) (named : List ℕ) (v : Valuation) (u : ℕ → Bool) (k : ℕ) → Contains named k → behind n (glued n named v u) (variable_of named k).0 ≡ u k
unfolding glued
glued_behind n named v u k c =
    let place = place_of named k in
    let y = place + 1 + n in
    let later : leb y n ≡ false = lt-leb y n (omega arith) in
    let same : y - (n + 1) ≡ place = omega arith in
    ap (λ b. cond b (v y) (u (get_or named (y - (n + 1)) 0))) later ∙ ap (λ i. u (get_or named i 0)) same ∙ ap u (get_or_from_slice_get named place k 0 (place_stands named k c))
