-- Proofs: what resolution keeps, all clauses of a proof have.
use Rattle.std.proofs.Common.{◌≡◌, ℕ, zero, suc, ◌<◌, ◌≤◌, List, [], ◌∷◌, ◌++◌, length, take, map, slice_get, Some, inl, inr, sym, ap, ◌∙◌, subst, arith, All, Contains}
use Rattle.std.proofs.lemmas.Bool.{cases_lt, cases_eq}
use Rattle.std.proofs.lemmas.List.{append-nil, append_assoc, map-append, take_all, take-append-le, take_at, length-append}
use Rattle.std.proofs.lemmas.List.Elements.{All-push}
use Rattle.std.proofs.lemmas.Option.{slice_get_within}
use Rattle.eco_lists.proofs.Places.{All_at, item_at, slice_get-back, slice_get-front, take_at_more}
use Rattle.eco_lists.proofs.Tests.{not_own}
use Rattle.eco_trace.specs.declared.clause.Lit.{Lit}
use Rattle.eco_trace.specs.declared.clause.Var.{Var}
use Rattle.eco_trace.specs.declared.node.NodeId.{NodeId}
use Rattle.eco_trace.specs.declared.node.Link.{Link}
use Rattle.eco_trace.specs.Clauses.{IsClause, complement, Valuation, IsTrueIn, HoldsIn, Satisfies}
use Rattle.eco_trace.specs.Resolution.{IsResolvent, IsLinked, Derives, Gives, Learnt, Proof, clauses_before, clauses_of, EachLearnt, IsDerived, IsLegal, with_learnt}
use Rattle.eco_trace.proofs.ClauseLaws.{clause_one}
use Rattle.eco_trace.proofs.ResolventLaws.{resolvent_one}

-- a link gives one clause at most
pub linked_one : (before : List (List Lit)) (so_far : List Lit) (link : Link) (c d : List Lit) → IsLinked before so_far link c → IsLinked before so_far link d → c ≡ d
linked_one before so_far link c d l m =
    let found : slice_get before link.with.0 ≡ Some l.other = l.other_at in
    let found' : slice_get before link.with.0 ≡ Some m.other = m.other_at in
    let same : l.other ≡ m.other = cc in
    let res : IsResolvent so_far l.other link.pivot d =
    subst (λ (o : List Lit). IsResolvent so_far o link.pivot d) (sym same) m.resolvent
    in
    resolvent_one so_far l.other link.pivot c d l.resolvent res

-- a chain gives one clause at most
derives_one : (before : List (List Lit)) (begin : List Lit) (links : List Link) (c d : List Lit) → Derives before begin links c → Derives before begin links d → c ≡ d
derives_one before begin [] c d e f = sym e ∙ f
derives_one before begin (link ∷ links) c d (next, linked, more) (next', linked', more') =
    let e : next ≡ next' = linked_one before begin link next next' linked linked' in
    derives_one before next links c d more (subst (λ (n : List Lit). Derives before n links d) (sym e) more')

-- the same from its start on
pub gives_one : (before : List (List Lit)) (start : NodeId) (links : List Link) (c d : List Lit) → Gives before start links c → Gives before start links d → c ≡ d
gives_one before start links c d g h =
    let found : slice_get before start.0 ≡ Some g.begin = g.begin_at in
    let found' : slice_get before start.0 ≡ Some h.begin = h.begin_at in
    let same : g.begin ≡ h.begin = cc in
    derives_one before g.begin links c d g.derives (subst (λ (b : List Lit). Derives before b links d) (sym same) h.derives)

-- what resolution keeps, a chain keeps
derives_keeps : (Q : List Lit → Type 0) (keeps : (left right : List Lit) (pivot : Var) (c : List Lit) → Q left → Q right → IsResolvent left right pivot c → Q c) (before : List (List Lit)) (begin : List Lit) (links : List Link) (c : List Lit) → All Q before → Q begin → Derives before begin links c → Q c
derives_keeps Q keeps before begin [] c all q e = subst Q e q
derives_keeps Q keeps before begin (link ∷ links) c all q (next, linked, more) =
    let other = All_at Q before link.with.0 linked.other all linked.other_at in
    derives_keeps Q keeps before next links c all (keeps begin linked.other link.pivot next q other linked.resolvent) more

-- the same from its start on
gives_keeps : (Q : List Lit → Type 0) (keeps : (left right : List Lit) (pivot : Var) (c : List Lit) → Q left → Q right → IsResolvent left right pivot c → Q c) (before : List (List Lit)) (start : NodeId) (links : List Link) (c : List Lit) → All Q before → Gives before start links c → Q c
gives_keeps Q keeps before start links c all g =
    derives_keeps Q keeps before g.begin links c all (All_at Q before start.0 g.begin all g.begin_at) g.derives

-- the clauses before the next learnt one
before_more : (p : Proof) (k : ℕ) (n : Learnt) → slice_get p.learnt k ≡ Some n → clauses_before p (suc k) ≡ clauses_before p k ++ n.clause ∷ []
before_more p k n at =
    let e : take (suc k) p.learnt ≡ take k p.learnt ++ n ∷ [] = take_at_more p.learnt k n at in
    let f : map (λ (m : Learnt). m.clause) (take (suc k) p.learnt) ≡ map (λ (m : Learnt). m.clause) (take k p.learnt) ++ n.clause ∷ [] =
    ap (map (λ (m : Learnt). m.clause)) e ∙ map-append (λ (m : Learnt). m.clause) (take k p.learnt) (n ∷ [])
    in
    ap (λ (cs : List (List Lit)). p.originals ++ cs) f
    ∙ sym (append_assoc p.originals (map (λ (m : Learnt). m.clause) (take k p.learnt)) (n.clause ∷ []))

-- all clauses of a proof up to a learnt one have what its first clauses have and resolution keeps
pub legal_upto : (Q : List Lit → Type 0) (keeps : (left right : List Lit) (pivot : Var) (c : List Lit) → Q left → Q right → IsResolvent left right pivot c → Q c) (p : Proof) → EachLearnt IsDerived p → All Q p.originals → (k : ℕ) → k ≤ length p.learnt → All Q (clauses_before p k)
legal_upto Q keeps p chains first zero le = subst (λ (cs : List (List Lit)). All Q cs) (sym (append-nil p.originals)) first
legal_upto Q keeps p chains first (suc k) le =
    let all = legal_upto Q keeps p chains first k (omega arith) in
    let item = item_at p.learnt k (omega arith) in
    let gives = chains k item.0 item.1 in
    let here = gives_keeps Q keeps (clauses_before p k) item.0.start item.0.links item.0.clause all gives in
    subst (λ (cs : List (List Lit)). All Q cs) (sym (before_more p k item.0 item.1)) (All-push Q (clauses_before p k) item.0.clause all here)

-- all clauses of a proof have what its first clauses have and resolution keeps
legal_all : (Q : List Lit → Type 0) (keeps : (left right : List Lit) (pivot : Var) (c : List Lit) → Q left → Q right → IsResolvent left right pivot c → Q c) (p : Proof) → EachLearnt IsDerived p → All Q p.originals → All Q (clauses_of p)
legal_all Q keeps p chains first =
    let all = legal_upto Q keeps p chains first (length p.learnt) (omega arith) in
    subst
    (λ (ns : List Learnt). All Q (p.originals ++ map (λ (m : Learnt). m.clause) ns))
    (take_all (length p.learnt) p.learnt (omega arith))
    all

-- the clauses of a legal proof are clauses
pub legal_clauses : (p : Proof) → IsLegal p → All IsClause (clauses_of p)
legal_clauses p h = legal_all IsClause (λ left right pivot c _ _ r. r.clause_itself) p h.chains h.originals

-- a clause with a true literal holds
pub holds_by : (v : Valuation) (c : List Lit) (l : Lit) → Contains c l → IsTrueIn v l → HoldsIn v c
holds_by v c l m t = (m.0, l, m.1, m.2, t)

-- no literal is true together with its complement
pub not_both : (v : Valuation) (l : Lit) → IsTrueIn v l → IsTrueIn v (complement l) → ⊥
not_both v l t f = not_own l.positive (sym t ∙ f)

-- a clause with its truth: what resolution keeps
abbrev pub HoldsAsClause : Valuation → List Lit → Type 0
HoldsAsClause v c = IsClause c × HoldsIn v c

-- true literals of the pivot don't stand on both sides
pivot_clash : (v : Valuation) (left right : List Lit) (pivot : Var) (c : List Lit) (a b : Lit) → IsClause left → IsClause right → IsResolvent left right pivot c → Contains left a → IsTrueIn v a → a.var.0 ≡ pivot.0 → Contains right b → IsTrueIn v b → b.var.0 ≡ pivot.0 → ⊥
pivot_clash v left right pivot c a b hl hr r in_left ta ea in_right tb eb =
    let o = r.opposed in
    let eo : o.lit.var.0 ≡ pivot.0 = ap (λ (w : Var). w.0) o.variable in
    let same_a : a ≡ o.lit = clause_one left hl a o.lit in_left o.in_left (ea ∙ sym eo) in
    let same_b : b ≡ complement o.lit = clause_one right hr b (complement o.lit) in_right o.in_right (eb ∙ sym eo) in
    not_both v o.lit (subst (IsTrueIn v) same_a ta) (subst (IsTrueIn v) same_b tb)

-- the resolvent holds where both clauses do
pub resolvent_holds : (v : Valuation) (left right : List Lit) (pivot : Var) (c : List Lit) → HoldsAsClause v left → HoldsAsClause v right → IsResolvent left right pivot c → HoldsAsClause v c
resolvent_holds v left right pivot c (hl, (i, a, il, ia, ta)) (hr, (j, b, jl, jb, tb)) r =
    let keep_a : (a.var.0 ≡ pivot.0 → ⊥) → HoldsIn v c =
    λ ne. holds_by v c a ((r.members a).1 (inl (i, il, ia), λ e. ne (ap (λ (w : Var). w.0) e))) ta
    in
    let keep_b : (b.var.0 ≡ pivot.0 → ⊥) → HoldsIn v c =
    λ ne. holds_by v c b ((r.members b).1 (inr (j, jl, jb), λ e. ne (ap (λ (w : Var). w.0) e))) tb
    in
    let holds : HoldsIn v c =
    elim (cases_eq a.var.0 pivot.0) [
      | inr ne ↦ keep_a ne
      | inl ea ↦ elim (cases_eq b.var.0 pivot.0) [
        | inr ne ↦ keep_b ne
        | inl eb ↦ absurd (pivot_clash v left right pivot c a b hl hr r (i, il, ia) ta ea (j, jl, jb) tb eb)
      ]
    ]
    in
    (r.clause_itself, holds)

-- each clause of a legal proof holds in every model of those that it begins with
pub legal_sound : (p : Proof) → IsLegal p → (v : Valuation) → Satisfies v p.originals → Satisfies v (clauses_of p)
legal_sound p h v s =
    let all = legal_all (HoldsAsClause v) (resolvent_holds v) p h.chains (λ k d lt. (h.originals k d lt, s k d lt)) in
    λ k d lt. (all k d lt).1

-- what each learnt clause has, and one more learnt clause, all of them have then
pub EachLearnt-push : (P : List (List Lit) → Learnt → Type 0) (p : Proof) (n : Learnt) → EachLearnt P p → P (clauses_of p) n → EachLearnt P (with_learnt p n)
EachLearnt-push P p n h here k m at =
    elim (cases_lt k (length p.learnt)) [
      | inl lt ↦
          let old : slice_get p.learnt k ≡ Some m = sym (slice_get-front p.learnt (n ∷ []) k lt) ∙ at in
          let e : take k (p.learnt ++ n ∷ []) ≡ take k p.learnt = take-append-le k p.learnt (n ∷ []) (omega arith) in
          subst (λ (ns : List Learnt). P (p.originals ++ map (λ (l : Learnt). l.clause) ns) m) (sym e) (h k m old)
      | inr ge ↦
          let within : k < length (p.learnt ++ n ∷ []) = slice_get_within (p.learnt ++ n ∷ []) k m at in
          let last : k ≡ length p.learnt = omega (arith, within, length-append p.learnt (n ∷ [])) in
          let new : slice_get (p.learnt ++ n ∷ []) k ≡ Some n = slice_get-back p.learnt (n ∷ []) k 0 (omega arith) in
          let same : n ≡ m = cc in
          let e : take k (p.learnt ++ n ∷ []) ≡ p.learnt = take_at p.learnt (n ∷ []) k (sym last) in
          let here' : P (p.originals ++ map (λ (l : Learnt). l.clause) p.learnt) m = subst (λ (z : Learnt). P (clauses_of p) z) same here in
          subst (λ (ns : List Learnt). P (p.originals ++ map (λ (l : Learnt). l.clause) ns) m) (sym e) here'
    ]

-- a legal proof stays legal where it learns what a chain gives
pub legal_push : (p : Proof) (n : Learnt) → IsLegal p → IsDerived (clauses_of p) n → IsLegal (with_learnt p n)
legal_push p n h d = record { originals = h.originals; chains = EachLearnt-push IsDerived p n h.chains d }
