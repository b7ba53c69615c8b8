-- Proofs taken step by step, and that there is one at most.
use Rattle.std.proofs.Common.{◌≡◌, ℕ, zero, suc, ◌+◌, ◌<◌, ◌≤◌, List, [], ◌∷◌, ◌++◌, length, take, map, get_or, slice_get, Some, refl, sym, ap, ◌∙◌, subst, arith}
use Rattle.std.specs.Option.{option_map}
use Rattle.std.proofs.lemmas.List.{take_more, take_all, take-take, take-map, map_push, length-map}
use Rattle.std.proofs.lemmas.List.Elements.{All-push, All-nil, All-take}
use Rattle.std.proofs.lemmas.Option.{slice_get-map, same_Some}
use Rattle.eco_lists.proofs.Places.{item_at, place_in_front, take_at_more}
use Rattle.eco_trace.specs.declared.clause.Lit.{Lit}
use Rattle.eco_trace.specs.declared.node.NodeId.{NodeId}
use Rattle.eco_trace.specs.declared.node.Link.{Link}
use Rattle.eco_trace.specs.Resolution.{Proof, Learnt, Gives, IsLegal, IsDerived, clauses_before, with_learnt, chain_of}
use Rattle.eco_trace.proofs.ProofLaws.{gives_one, legal_push}
use Rattle.eco_check.specs.Steps.{StepValue, HasIds, chain_of_step, TakesSteps, LearnsStep}

-- no step is taken yet
pub taken_start : (clauses : List (List Lit)) (p : Proof) → p ≡ record { originals = clauses; learnt = [] } → IsLegal p → TakesSteps clauses [] p
taken_start clauses p e h = record {
  originals = ap (λ (q : Proof). q.originals) e;
  legal = h;
  ids = All-nil HasIds;
  chains = ap (λ (q : Proof). map chain_of q.learnt) e;
}

-- one step more is taken
pub taken_more : (clauses : List (List Lit)) (steps : List StepValue) (k : ℕ) (step : StepValue) (old new : Proof) → k < length steps → step ≡ get_or steps k step → TakesSteps clauses (take k steps) old → LearnsStep old step new → TakesSteps clauses (take (k + 1) steps) new
taken_more clauses steps k step old new lt is t l =
    let n : Learnt = record { start = _; links = _; clause = l.learns.clause } in
    let at : take (k + 1) steps ≡ take k steps ++ step ∷ [] =
    take_more steps k step lt ∙ ap (λ (s : StepValue). take k steps ++ s ∷ []) (sym is)
    in
    let Q : Proof → Type 0 = λ p. TakesSteps clauses (take k steps ++ step ∷ []) p in
    let taken : Q (with_learnt old n) = record {
      originals = t.originals;
      legal = legal_push old n t.legal l.learns.given;
      ids = All-push HasIds (take k steps) step t.ids l.ids;
      chains =
          map_push chain_of old.learnt n
          ∙ ap (λ (cs : List (NodeId × List Link)). cs ++ chain_of_step step ∷ []) t.chains
          ∙ sym (map_push chain_of_step (take k steps) step);
    } in
    subst (λ (ss : List StepValue). TakesSteps clauses ss new) (sym at) (subst Q (sym l.learns.added) taken)

-- the front of a proof
abbrev pub front_of : Proof → ℕ → Proof
front_of p k = record { originals = p.originals; learnt = take k p.learnt }

-- the front of a legal proof is legal
legal_front : (p : Proof) (k : ℕ) → IsLegal p → IsLegal (front_of p k)
legal_front p k h = record {
  originals = h.originals;
  chains =
      λ j n at.
      let place = place_in_front k p.learnt j n at in
      let e : take j (take k p.learnt) ≡ take j p.learnt = take-take j k p.learnt (omega (arith, place.0)) in
      subst
      (λ (ns : List Learnt). IsDerived (p.originals ++ map (λ (m : Learnt). m.clause) ns) n)
      (sym e)
      (h.chains j n place.1);
}

-- the front of a proof takes the front of its steps
pub taken_front : (clauses : List (List Lit)) (steps : List StepValue) (p : Proof) (k : ℕ) → TakesSteps clauses steps p → TakesSteps clauses (take k steps) (front_of p k)
taken_front clauses steps p k t = record {
  originals = t.originals;
  legal = legal_front p k t.legal;
  ids = All-take HasIds k steps t.ids;
  chains = sym (take-map chain_of k p.learnt) ∙ ap (take k) t.chains ∙ take-map chain_of_step k steps;
}

-- a learnt clause is its parts
same_parts : (s t : NodeId) (k l : List Link) (c d : List Lit) → s ≡ t → k ≡ l → c ≡ d → ◌≡◌ {A = Learnt} (record { start = s; links = k; clause = c }) (record { start = t; links = l; clause = d })
same_parts s t k l c d e f g = cc

-- learnt clauses with equal chains and equal clauses are equal
same_learnt : (n m : Learnt) → chain_of n ≡ chain_of m → n.clause ≡ m.clause → n ≡ m
same_learnt n m e f =
    same_parts n.start m.start n.links m.links n.clause m.clause (ap (λ (c : NodeId × List Link). c.0) e) (ap (λ (c : NodeId × List Link). c.1) e) f

-- equal chains from equal clauses give equal proofs, as far as they go
same_upto : (p q : Proof) → IsLegal p → IsLegal q → p.originals ≡ q.originals → map chain_of p.learnt ≡ map chain_of q.learnt → length p.learnt ≡ length q.learnt → (k : ℕ) → k ≤ length p.learnt → take k p.learnt ≡ take k q.learnt
same_upto p q hp hq begin chains len zero le = refl
same_upto p q hp hq begin chains len (suc k) le =
    let front : take k p.learnt ≡ take k q.learnt = same_upto p q hp hq begin chains len k (omega arith) in
    let n = item_at p.learnt k (omega arith) in
    let m = item_at q.learnt k (omega arith) in
    let at_n : slice_get (map chain_of p.learnt) k ≡ Some (chain_of n.0) = slice_get-map chain_of p.learnt k ∙ ap (option_map chain_of) n.1 in
    let at_m : slice_get (map chain_of q.learnt) k ≡ Some (chain_of m.0) = slice_get-map chain_of q.learnt k ∙ ap (option_map chain_of) m.1 in
    let both : Some (chain_of n.0) ≡ Some (chain_of m.0) =
    sym at_n ∙ ap (λ (cs : List (NodeId × List Link)). slice_get cs k) chains ∙ at_m
    in
    let chain : chain_of n.0 ≡ chain_of m.0 = same_Some _ _ both in
    let before : clauses_before p k ≡ clauses_before q k =
    ap (λ (os : List (List Lit)). os ++ map (λ (l : Learnt). l.clause) (take k p.learnt)) begin
    ∙ ap (λ (ls : List Learnt). q.originals ++ map (λ (l : Learnt). l.clause) ls) front
    in
    let of : NodeId × List Link → Type 0 = λ c. Gives (clauses_before p k) c.0 c.1 m.0.clause in
    let gives_m : of (chain_of m.0) =
    subst (λ (bs : List (List Lit)). Gives bs m.0.start m.0.links m.0.clause) (sym before) (hq.chains k m.0 m.1)
    in
    let clause : n.0.clause ≡ m.0.clause =
    gives_one (clauses_before p k) n.0.start n.0.links n.0.clause m.0.clause (hp.chains k n.0 n.1) (subst of (sym chain) gives_m)
    in
    let same : n.0 ≡ m.0 = same_learnt n.0 m.0 chain clause in
    take_at_more p.learnt k n.0 n.1
    ∙ ap (λ (ls : List Learnt). ls ++ n.0 ∷ []) front
    ∙ ap (λ (l : Learnt). take k q.learnt ++ l ∷ []) same
    ∙ sym (take_at_more q.learnt k m.0 m.1)

-- steps have one proof at most
pub taken_one : (clauses : List (List Lit)) (steps : List StepValue) (p q : Proof) → TakesSteps clauses steps p → TakesSteps clauses steps q → p ≡ q
taken_one clauses steps p q t u =
    let begin : p.originals ≡ q.originals = t.originals ∙ sym u.originals in
    let chains : map chain_of p.learnt ≡ map chain_of q.learnt = t.chains ∙ sym u.chains in
    let len : length p.learnt ≡ length q.learnt =
    sym (length-map p.learnt chain_of) ∙ ap length chains ∙ length-map q.learnt chain_of
    in
    let upto = same_upto p q t.legal u.legal begin chains len (length p.learnt) (omega arith) in
    let learnt : p.learnt ≡ q.learnt =
    sym (take_all (length p.learnt) p.learnt (omega arith)) ∙ upto ∙ take_all (length p.learnt) q.learnt (omega arith)
    in
    ap (λ (os : List (List Lit)). record p { originals = os }) begin ∙ ap (λ (ls : List Learnt). record q { learnt = ls }) learnt
