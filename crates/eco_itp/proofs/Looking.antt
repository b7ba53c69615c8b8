-- The edges of variables, item by item.
use Rattle.std.proofs.Common.{◌≡◌, ◌≢◌, ◌↔◌, ℕ, ◌+◌, ◌<◌, ◌≤◌, cond, nat_eq, List, [], ◌∷◌, ◌++◌, Option, Some, length, get_or, take, inl, inr, sym, ◌∙◌, ap, subst, arith, AllPairs, Contains}
use Rattle.std.proofs.lemmas.Bool.{cases_eq, eq-eqb, ne_eqb}
use Rattle.std.proofs.lemmas.Option.{same_Some}
use Rattle.std.proofs.lemmas.List.{take_more, take_all, get_or_default, get_or-take, length-take}
use Rattle.std.proofs.lemmas.List.Elements.{Contains-append_left, Contains-push, Contains-push_cases}
use Rattle.eco_trace.proofs.ClauseLaws.{same_var}
use Rattle.eco_trace.specs.declared.clause.Var.{Var}
use Rattle.eco_aig.specs.declared.edge.Edge.{Edge}

-- the map has just the edges of the list
abbrev pub AreEdges : (ℕ → Option Edge) → List (Var × Edge) → Type 0
AreEdges found pairs = (x : Var) (e : Edge) → (found x.0 ≡ Some e) ↔ Contains pairs (x, e)

-- an item behind the others
edges_push : (old new : ℕ → Option Edge) (pairs : List (Var × Edge)) (y : Var) (f : Edge) → ((x : Var) (e : Edge) → Contains pairs (x, e) → x ≢ y) → ((q : ℕ) → new q ≡ cond (nat_eq y.0 q) (Some f) (old q)) → AreEdges old pairs → AreEdges new (pairs ++ (y, f) ∷ [])
edges_push old new pairs y f apart updates are = λ x e.
    elim (cases_eq y.0 x.0) [
      | inl same ↦
          let at : y ≡ x = same_var y x same in
          let found : new x.0 ≡ Some f = updates x.0 ∙ ap (λ b. cond b (Some f) (old x.0)) (eq-eqb y.0 x.0 same) in (
            λ is.
                let equal : f ≡ e = same_Some f e (sym found ∙ is) in
                let pair : ◌≡◌ {A = Var × Edge} (y, f) (x, e) = cc in
                subst (λ (z : Var × Edge). Contains (pairs ++ (y, f) ∷ []) z) pair (Contains-push pairs (y, f)),
            λ m. elim (Contains-push_cases pairs (y, f) (x, e) m) [
              | inl older ↦ absurd (apart x e older (sym at))
              | inr last ↦ found ∙ ap (λ (z : Var × Edge). Some z.1) last
            ],
          )
      | inr other ↦
          let found : new x.0 ≡ old x.0 = updates x.0 ∙ ap (λ b. cond b (Some f) (old x.0)) (ne_eqb y.0 x.0 other) in (
            λ is. Contains-append_left pairs ((y, f) ∷ []) (x, e) ((are x e).0 (sym found ∙ is)),
            λ m. elim (Contains-push_cases pairs (y, f) (x, e) m) [
              | inl older ↦ found ∙ (are x e).1 older
              | inr last ↦ absurd (other (ap (λ (z : Var × Edge). (z.0).0) last))
            ],
          )
    ]

-- one more item
pub edges_more : (old new : ℕ → Option Edge) (pairs : List (Var × Edge)) (i : ℕ) (d : Var × Edge) → AllPairs (λ (p q : Var × Edge). p.0 ≢ q.0) pairs → i < length pairs → ((q : ℕ) → new q ≡ cond (nat_eq ((get_or pairs i d).0).0 q) (Some (get_or pairs i d).1) (old q)) → AreEdges old (take i pairs) → AreEdges new (take (i + 1) pairs)
edges_more old new pairs i d distinct within updates are =
    let item = get_or pairs i d in
    subst (AreEdges new) (sym (take_more pairs i d within)) (edges_push old new (take i pairs) item.0 item.1 (λ x e m same.
    let below : m.0 < i = (let lt = m.1 in omega (arith, lt, length-take i pairs)) in
    let here : get_or pairs m.0 (x, e) ≡ (x, e) = sym (get_or-take i pairs m.0 (x, e) below) ∙ m.2 in
    let there : get_or pairs i (x, e) ≡ item = get_or_default pairs i (x, e) d within in
    distinct m.0 i (x, e) below within (ap (λ (z : Var × Edge). z.0) here ∙ same ∙ sym (ap (λ (z : Var × Edge). z.0) there))) updates are)

-- all items
pub edges_all : (found : ℕ → Option Edge) (pairs : List (Var × Edge)) (i : ℕ) → length pairs ≤ i → AreEdges found (take i pairs) → AreEdges found pairs
edges_all found pairs i le are = subst (AreEdges found) (take_all i pairs le) are
