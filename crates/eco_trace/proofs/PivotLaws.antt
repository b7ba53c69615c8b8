-- The variables of a proof are those of the clauses that it begins with.
use Rattle.std.proofs.Common.{◌≡◌, ℕ, ◌≤◌, List, [], ◌∷◌, get_or, slice_get, Some, inl, inr, subst, arith, All}
use Rattle.std.proofs.lemmas.List.Elements.{All-nil, All-cons, All-contains, Contains-get_or}
use Rattle.std.proofs.lemmas.Option.{slice_get_within}
use Rattle.eco_lists.proofs.Places.{All_at}
use Rattle.eco_trace.specs.declared.clause.Lit.{Lit}
use Rattle.eco_trace.specs.declared.clause.Var.{Var}
use Rattle.eco_trace.specs.declared.node.Link.{Link}
use Rattle.eco_trace.specs.Clauses.{IsVarWithin}
use Rattle.eco_trace.specs.Resolution.{IsResolvent, Derives, Learnt, Proof, clauses_before, IsLegal}
use Rattle.eco_trace.proofs.ProofLaws.{legal_upto}

-- the variables of the clause are from 1 to `vars`
abbrev AreWithin : ℕ → List Lit → Type 0
AreWithin vars clause = All (IsVarWithin vars) clause

-- the pivot is from 1 to `vars`
abbrev pub IsPivotWithin : ℕ → Link → Type 0
IsPivotWithin vars link = (1 ≤ link.pivot.0) × (link.pivot.0 ≤ vars)

-- resolution keeps it
resolvent_within : (vars : ℕ) (left right : List Lit) (pivot : Var) (c : List Lit) → AreWithin vars left → AreWithin vars right → IsResolvent left right pivot c → AreWithin vars c
resolvent_within vars left right pivot c a b r = λ k d lt.
    let l = get_or c k d in
    elim ((r.members l).0 (Contains-get_or c k d lt)).0 [
      | inl m ↦ All-contains (IsVarWithin vars) left l a m
      | inr m ↦ All-contains (IsVarWithin vars) right l b m
    ]

-- each pivot of a chain stands in the clause that is resolved
chain_within : (vars : ℕ) (before : List (List Lit)) (begin : List Lit) (links : List Link) (last : List Lit) → All (AreWithin vars) before → AreWithin vars begin → Derives before begin links last → All (IsPivotWithin vars) links
chain_within vars before begin [] last all a d = All-nil (IsPivotWithin vars)
chain_within vars before begin (link ∷ links) last all a (next, linked, more) =
    let o = linked.resolvent.opposed in
    let held : IsVarWithin vars o.lit = All-contains (IsVarWithin vars) begin o.lit a o.in_left in
    let pivot : IsPivotWithin vars link = subst (λ (x : Var). (1 ≤ x.0) × (x.0 ≤ vars)) o.variable (held.first, held.last) in
    let other = All_at (AreWithin vars) before link.with.0 linked.other all linked.other_at in
    All-cons (IsPivotWithin vars) link links pivot
    (chain_within vars before next links last all (resolvent_within vars begin linked.other link.pivot next a other linked.resolvent) more)

-- the pivots of a legal proof are variables of the clauses that it begins with
pub pivots_within : (vars : ℕ) (p : Proof) → IsLegal p → All (All (IsVarWithin vars)) p.originals → (k : ℕ) (n : Learnt) → slice_get p.learnt k ≡ Some n → All (IsPivotWithin vars) n.links
pivots_within vars p legal first k n at =
    let within = slice_get_within p.learnt k n at in
    let gives = legal.chains k n at in
    let all = legal_upto (AreWithin vars) (resolvent_within vars) p legal.chains first k (omega arith) in
    chain_within vars (clauses_before p k) gives.begin n.links n.clause all (All_at (AreWithin vars) (clauses_before p k) n.start.0 gives.begin all gives.begin_at) gives.derives
