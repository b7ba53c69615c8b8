-- Gates, one line or one output more at a time.
use Rattle.std.proofs.Common.{◌≡◌, ℕ, zero, suc, ◌+◌, ◌<◌, List, [], ◌∷◌, ◌++◌, length, get_or, take, fold, refl, sym, ap, ◌∙◌, arith, append_assoc}
use Rattle.std.proofs.lemmas.List.{append-nil, take_more}
use Rattle.std.proofs.lemmas.Grind.{fold-append}
use Rattle.eco_netlist.specs.Draft.{Declared}
use Rattle.eco_aiger.specs.declared.tree.AndLine.{AndLine}
use Rattle.eco_aiger.specs.Meaning.{Naming, line_gates, line_seen, and_gates, output_gate, output_gates}
use Rattle.eco_aiger.specs.Declaring.{with_gates}

-- one and-line more
and_gates_push : (n : Naming) (seen : List ℕ) (ands : List AndLine) (a : AndLine) → and_gates n seen (ands ++ a ∷ []) ≡ and_gates n seen ands ++ line_gates n (fold line_seen seen ands) a
and_gates_push n seen [] a = append-nil (line_gates n seen a)
and_gates_push n seen (b ∷ ands) a =
    ap (λ gates. line_gates n seen b ++ gates) (and_gates_push n (line_seen seen b) ands a)
    ∙ sym (append_assoc (line_gates n seen b) (and_gates n (line_seen seen b) ands) (line_gates n (fold line_seen (line_seen seen b) ands) a))

pub lines_more : (n : Naming) (d old new : Declared) (keys more : List ℕ) (ands : List AndLine) (k : ℕ) (a : AndLine) → k < length ands → old ≡ with_gates d (and_gates n [] (take k ands)) → keys ≡ fold line_seen [] (take k ands) → new ≡ with_gates old (line_gates n keys (get_or ands k a)) → new ≡ with_gates d (and_gates n [] (take (k + 1) ands))
lines_more n d old new keys more ands k a lt is seen step =
    let gates : and_gates n [] (take (k + 1) ands) ≡ and_gates n [] (take k ands) ++ line_gates n keys (get_or ands k a) = ap (and_gates n []) (take_more ands k a lt) ∙ and_gates_push n [] (take k ands) (get_or ands k a) ∙ ap (λ s. and_gates n [] (take k ands) ++ line_gates n s (get_or ands k a)) (sym seen) in
    step ∙ ap (λ e. with_gates e (line_gates n keys (get_or ands k a))) is
    ∙ ap (λ g. record d { gates = g }) (append_assoc d.gates (and_gates n [] (take k ands)) (line_gates n keys (get_or ands k a)) ∙ ap (λ g. d.gates ++ g) (sym gates))

pub seen_more : (ands : List AndLine) (k : ℕ) (a : AndLine) (old new : List ℕ) → k < length ands → old ≡ fold line_seen [] (take k ands) → new ≡ line_seen old (get_or ands k a) → new ≡ fold line_seen [] (take (k + 1) ands)
seen_more ands k a old new lt is step =
    step ∙ ap (λ s. line_seen s (get_or ands k a)) is
    ∙ sym (ap (fold line_seen []) (take_more ands k a lt) ∙ fold-append line_seen [] (take k ands) (get_or ands k a ∷ []))

-- one output more
outputs_push : (n : Naming) (names : List (List ℕ)) (literals : List ℕ) (k : ℕ) (name : List ℕ) (literal : ℕ) → k < length names → k < length literals → output_gates n (take (suc k) names) (take (suc k) literals) ≡ output_gates n (take k names) (take k literals) ++ output_gate n (get_or names k name) (get_or literals k literal) ∷ []
outputs_push n [] literals k name literal lt_n lt_l = absurd (omega arith)
outputs_push n (x ∷ names) [] k name literal lt_n lt_l = absurd (omega arith)
outputs_push n (x ∷ names) (l ∷ literals) zero name literal lt_n lt_l = refl
outputs_push n (x ∷ names) (l ∷ literals) (suc k) name literal lt_n lt_l =
    ap (λ gates. output_gate n x l ∷ gates) (outputs_push n names literals k name literal (omega arith) (omega arith))

pub outputs_more : (n : Naming) (d old new : Declared) (names : List (List ℕ)) (literals : List ℕ) (k : ℕ) (name : List ℕ) (literal : ℕ) → k < length names → k < length literals → name ≡ get_or names k name → literal ≡ get_or literals k literal → old ≡ with_gates d (output_gates n (take k names) (take k literals)) → new ≡ with_gates old (output_gate n name literal ∷ []) → new ≡ with_gates d (output_gates n (take (k + 1) names) (take (k + 1) literals))
outputs_more n d old new names literals k name literal lt_n lt_l at_n at_l is step =
    let next : k + 1 ≡ suc k = omega arith in
    let gates : output_gates n (take (k + 1) names) (take (k + 1) literals) ≡ output_gates n (take k names) (take k literals) ++ output_gate n name literal ∷ [] =
    ap (λ j. output_gates n (take j names) (take j literals)) next ∙ outputs_push n names literals k name literal lt_n lt_l
    ∙ ap (λ x. output_gates n (take k names) (take k literals) ++ output_gate n x (get_or literals k literal) ∷ []) (sym at_n)
    ∙ ap (λ x. output_gates n (take k names) (take k literals) ++ output_gate n name x ∷ []) (sym at_l) in
    step ∙ ap (λ e. with_gates e (output_gate n name literal ∷ [])) is
    ∙ ap (λ g. record d { gates = g }) (append_assoc d.gates (output_gates n (take k names) (take k literals)) (output_gate n name literal ∷ []) ∙ ap (λ g. d.gates ++ g) (sym gates))
