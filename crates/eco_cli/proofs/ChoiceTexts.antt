-- The lines of nets that are cut together, one after the other.
use Rattle.std.proofs.Common.{◌≡◌, ℕ, zero, suc, ◌+◌, ◌<◌, ◌≤◌, List, [], ◌∷◌, ◌++◌, Some, map, get_or, take, length, sym, ◌∙◌, ap, arith, append_assoc, append-nil}
use Rattle.std.specs.Borrow.{Bor}
use Rattle.std.specs.List.{slice_get}
use Rattle.std.specs.Option.{option_map}
use Rattle.std.proofs.lemmas.List.{length-map, take_all}
use Rattle.std.proofs.lemmas.Option.{slice_get-get_or, slice_get-map}
use Rattle.eco_locate.specs.declared.choosing.Need.{Need}
use Rattle.eco_cli.specs.Choice.{need_line, need_lines}

lines_more : (names : List (List ℕ)) (needs : List Need) (k : ℕ) (name : List ℕ) (need : Need) → slice_get names k ≡ Some name → slice_get needs k ≡ Some need → need_lines (take (suc k) names) (take (suc k) needs) ≡ need_lines (take k names) (take k needs) ++ need_line name need
lines_more [] needs k name need at there = absurd (cc at)
lines_more (n ∷ names) [] k name need at there = absurd (cc there)
lines_more (n ∷ names) (d ∷ needs) zero name need at there =
    let same : n ≡ name = cc at in
    let equal : d ≡ need = cc there in
    append-nil (need_line n d) ∙ ap (λ n. need_line n d) same ∙ ap (need_line name) equal
lines_more (n ∷ names) (d ∷ needs) (suc k) name need at there =
    ap (λ lines. need_line n d ++ lines) (lines_more names needs k name need at there) ∙ sym (append_assoc (need_line n d) (need_lines (take k names) (take k needs)) (need_line name need))

-- one more
pub needs_step : (start before after : List ℕ) (named : List (Bor (List ℕ))) (needs : List Need) (k : ℕ) (d : Bor (List ℕ)) (need : Need) → k < length named → k < length needs → need ≡ get_or needs k need → before ≡ start ++ need_lines (take k (map (λ name. name.now) named)) (take k needs) → after ≡ before ++ need_line (get_or named k d).now need → after ≡ start ++ need_lines (take (k + 1) (map (λ name. name.now) named)) (take (k + 1) needs)
needs_step start before after named needs k d need less fewer is so more =
    let names = map (λ (name : Bor (List ℕ)). name.now) named in
    let name = (get_or named k d).now in
    let at : slice_get names k ≡ Some name = slice_get-map (λ (name : Bor (List ℕ)). name.now) named k ∙ ap (option_map (λ (name : Bor (List ℕ)). name.now)) (slice_get-get_or named k d less) in
    let next : suc k ≡ k + 1 = omega arith in
    more ∙ ap (λ text. text ++ need_line name need) so ∙ append_assoc start (need_lines (take k names) (take k needs)) (need_line name need)
    ∙ ap (λ lines. start ++ lines) (sym (lines_more names needs k name need at (slice_get-get_or needs k need fewer ∙ ap (λ n. Some n) (sym is))) ∙ ap (λ n. need_lines (take n names) (take n needs)) next)

-- all of them
pub needs_end : (start text : List ℕ) (named : List (Bor (List ℕ))) (needs : List Need) (k : ℕ) → length needs ≤ k → length named ≡ length needs → text ≡ start ++ need_lines (take k (map (λ name. name.now) named)) (take k needs) → text ≡ start ++ need_lines (map (λ name. name.now) named) needs
needs_end start text named needs k whole same so =
    let names = map (λ (name : Bor (List ℕ)). name.now) named in
    so ∙ ap (λ list. start ++ need_lines list (take k needs)) (take_all k names (omega (arith, length-map named (λ (name : Bor (List ℕ)). name.now), whole, same)))
    ∙ ap (λ list. start ++ need_lines names list) (take_all k needs whole)
