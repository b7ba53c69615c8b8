-- Gates by the numbers of nets and by their names.
use Rattle.std.proofs.Common.{◌≡◌, ℕ, ◌+◌, ◌<◌, ◌≤◌, List, [], length, map, drop, get_or, refl, sym, ◌∙◌, ap, subst, arith}
use Rattle.std.specs.List.{All}
use Rattle.std.proofs.lemmas.List.{get_or-map, length-map, at_drop_more}
use Rattle.std.proofs.lemmas.List.Elements.{All-get_or, All-map, All-weaker}
use Rattle.eco_lists.proofs.Members.{map-map}
use Rattle.eco_lists.proofs.Places.{map_agree, All_at}
use Rattle.eco_gates.specs.declared.gate.Term.{Term}
use Rattle.eco_gates.specs.declared.gate.Term.TheVariants.{Zero, One, Net}
use Rattle.eco_gates.specs.GateValue.{GateValue}
use Rattle.eco_gates.specs.Gates.{IsTermBelow, IsGateWithin, IsWithin}
use Rattle.eco_netlist.specs.Netlists.{named_term, named_gate, name_at}
use Rattle.eco_trace.specs.declared.clause.Lit.{Lit}
use Rattle.eco_trace.specs.Clauses.{Clauses, IsVarWithin}
use Rattle.eco_clauses.specs.Listing.{constant}
use Rattle.eco_clauses.specs.Gates.{with_kind, operand_literal, with_gate, with_gates}
use Rattle.eco_clauses.specs.Numbers.{term_literal, out_literal}

-- what terms read has a variable
term_within : (vars : ℕ) (lits : List Lit) (term : Term) → 1 ≤ vars → All (IsVarWithin vars) lits → IsTermBelow (length lits) term → IsVarWithin vars (term_literal lits term)
term_within vars lits Zero some within below = record { first = omega arith; last = some }
term_within vars lits One some within below = record { first = omega arith; last = some }
term_within vars lits (Net net) some within below = All-get_or (IsVarWithin vars) lits net.0 constant below within

pub terms_within : (vars : ℕ) (lits : List Lit) (terms : List Term) (ins : List Lit) → 1 ≤ vars → All (IsVarWithin vars) lits → All (IsTermBelow (length lits)) terms → ins ≡ map (term_literal lits) terms → All (IsVarWithin vars) ins
terms_within vars lits terms ins some within below is =
    subst (All (IsVarWithin vars)) (sym is) (All-map (IsVarWithin vars) (term_literal lits) terms (All-weaker (IsTermBelow (length lits)) (λ term. IsVarWithin vars (term_literal lits term)) (λ term. term_within vars lits term some within) terms below))

-- a literal by the number of a net is that of the net's name
named_literal : (list : List (List ℕ)) (literal : List ℕ → Lit) (net : ℕ) → net < length list → get_or (map literal list) net constant ≡ literal (name_at list net)
named_literal list literal net lt = get_or-map literal list net [] constant lt

named_operand : (list : List (List ℕ)) (literal : List ℕ → Lit) (term : Term) → IsTermBelow (length list) term → term_literal (map literal list) term ≡ operand_literal literal (named_term list term)
named_operand list literal Zero below = refl
named_operand list literal One below = refl
named_operand list literal (Net net) below = named_literal list literal net.0 below

-- a gate's clauses by numbers are those by names
named_clauses : (list : List (List ℕ)) (literal : List ℕ → Lit) (c : Clauses) (g : GateValue) → IsGateWithin (length list) g → with_kind c g.kind (out_literal (map literal list) g) (map (term_literal (map literal list)) g.ins) ≡ with_gate literal c (named_gate list g)
named_clauses list literal c g within =
    ap (λ o. with_kind c g.kind o (map (term_literal (map literal list)) g.ins)) (named_literal list literal g.out.0 within.out)
    ∙ ap (with_kind c g.kind (literal (name_at list g.out.0)))
    (map_agree (term_literal (map literal list)) (λ term. operand_literal literal (named_term list term)) g.ins (λ k term at. named_operand list literal term (All_at (IsTermBelow (length list)) g.ins k term within.ins at))
    ∙ sym (map-map (named_term list) (operand_literal literal) g.ins))

-- one more gate of those that are left
pub gates_step : (list : List (List ℕ)) (literal : List ℕ → Lit) (lits : List Lit) (gates : List GateValue) (k : ℕ) (g : GateValue) (old new all : Clauses) → lits ≡ map literal list → k < length gates → g ≡ get_or gates k g → IsWithin (length lits) gates → new ≡ with_kind old g.kind (out_literal lits g) (map (term_literal lits) g.ins) → with_gates literal old (map (named_gate list) (drop k gates)) ≡ all → with_gates literal new (map (named_gate list) (drop (k + 1) gates)) ≡ all
gates_step list literal lits gates k g old new all named lt at within is before =
    let sizes : length lits ≡ length list = ap length named ∙ length-map list literal in
    let here : IsGateWithin (length list) g = subst (λ n. IsGateWithin n g) sizes (subst (IsGateWithin (length lits)) (sym at) (within k g lt)) in
    let this : new ≡ with_gate literal old (named_gate list g) = is ∙ ap (λ ls. with_kind old g.kind (out_literal ls g) (map (term_literal ls) g.ins)) named ∙ named_clauses list literal old g here in
    ap (λ c. with_gates literal c (map (named_gate list) (drop (k + 1) gates))) this
    ∙ ap (λ (h : GateValue). with_gates literal (with_gate literal old (named_gate list h)) (map (named_gate list) (drop (k + 1) gates))) at
    ∙ sym (at_drop_more (λ rest. with_gates literal old (map (named_gate list) rest)) gates k g lt)
    ∙ before
