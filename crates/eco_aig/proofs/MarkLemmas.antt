-- Marks at the nodes that edges reach.
use Rattle.std.proofs.Common.{◌≡◌, ℕ, ◌+◌, ◌<◌, ◌≤◌, ◌⊎◌, inl, inr, Bool, true, false, cond, List, [], ◌∷◌, ◌++◌, length, get_or, set, refl, sym, ◌∙◌, ap, subst, arith, length-set}
use Rattle.std.specs.List.{All, Contains}
use Rattle.std.specs.Prelude.{replicate}
use Rattle.std.proofs.lemmas.Bool.{cases_eq, false≢true}
use Rattle.std.proofs.lemmas.Option.{slice_get_within}
use Rattle.std.proofs.lemmas.List.{get_or-set_same, get_or-set_other, get_or-replicate, length-replicate}
use Rattle.std.proofs.lemmas.List.Elements.{All-head, All-tail}
use Rattle.eco_lists.proofs.Members.{Contains_cases, Contains_first, Contains_later, Contains_none}
use Rattle.eco_lists.proofs.Places.{slice_get_from_get_or, All_from_places, Contains_at}
use Rattle.eco_aig.specs.declared.edge.Edge.{Edge}
use Rattle.eco_aig.specs.declared.node.Node.{Node}
use Rattle.eco_aig.specs.Graph.{IsGraph, IsEdge}
use Rattle.eco_aig.proofs.Reaching.{operand_below}
use Rattle.eco_aig.specs.Reached.{operands_at, Reaches, itself, next, IsReached, AreReached}
use Rattle.eco_aig.specs.Marking.{with_marks, with_operands}

-- a mark stands within the list
pub mark_within : (marks : List Bool) (k : ℕ) → get_or marks k false ≡ true → k < length marks
mark_within marks k e = slice_get_within marks k true (slice_get_from_get_or marks k false true e false≢true)

-- marks change no length
pub length-with_marks : (marks : List Bool) (edges : List Edge) → length (with_marks marks edges) ≡ length marks
length-with_marks marks [] = refl
length-with_marks marks (e ∷ edges) = length-with_marks (set marks e.node true) edges ∙ length-set marks e.node true

-- more marks behind
pub with_marks-append : (marks : List Bool) (xs ys : List Edge) → with_marks marks (xs ++ ys) ≡ with_marks (with_marks marks xs) ys
with_marks-append marks [] ys = refl
with_marks-append marks (e ∷ xs) ys = with_marks-append (set marks e.node true) xs ys

-- older marks stay
set_keeps : (marks : List Bool) (k j : ℕ) → get_or marks j false ≡ true → get_or (set marks k true) j false ≡ true
set_keeps marks k j e =
    elim (cases_eq j k) [
      | inl same ↦ subst (λ (i : ℕ). get_or (set marks k true) i false ≡ true) (sym same) (get_or-set_same marks k true false (subst (λ (i : ℕ). i < length marks) same (mark_within marks j e)))
      | inr other ↦ get_or-set_other marks k j true false other ∙ e
    ]

pub marked_old : (marks : List Bool) (edges : List Edge) (j : ℕ) → get_or marks j false ≡ true → get_or (with_marks marks edges) j false ≡ true
marked_old marks [] j e = e
marked_old marks (x ∷ edges) j e = marked_old (set marks x.node true) edges j (set_keeps marks x.node j e)

-- the nodes of the edges have marks
pub marked_new : (marks : List Bool) (edges : List Edge) → All (λ e. e.node < length marks) edges → (e : Edge) → Contains edges e → get_or (with_marks marks edges) e.node false ≡ true
marked_new marks [] all e c = absurd (Contains_none e c)
marked_new marks (x ∷ edges) all e c =
    let room : x.node < length marks = All-head (λ (y : Edge). y.node < length marks) x edges all in
    let rest : All (λ (y : Edge). y.node < length marks) edges = All-tail (λ (y : Edge). y.node < length marks) x edges all in
    let long : length marks ≡ length (set marks x.node true) = sym (length-set marks x.node true) in
    elim (Contains_cases x e edges c) [
      | inl same ↦ subst (λ (y : Edge). get_or (with_marks (set marks x.node true) edges) y.node false ≡ true) same (marked_old (set marks x.node true) edges x.node (get_or-set_same marks x.node true false room))
      | inr later ↦ marked_new (set marks x.node true) edges (subst (λ (n : ℕ). All (λ (y : Edge). y.node < n) edges) long rest) e later
    ]

-- no others have
pub marked_from : (marks : List Bool) (edges : List Edge) (j : ℕ) → get_or (with_marks marks edges) j false ≡ true → (get_or marks j false ≡ true) ⊎ ((e : Edge) × Contains edges e × (e.node ≡ j))
marked_from marks [] j is = inl is
marked_from marks (x ∷ edges) j is =
    elim (marked_from (set marks x.node true) edges j is) [
      | inl old ↦ elim (cases_eq j x.node) [
        | inl same ↦ inr (x, Contains_first x edges, sym same)
        | inr other ↦ inl (sym (get_or-set_other marks x.node j true false other) ∙ old)
      ]
      | inr found ↦ inr (found.0, Contains_later x found.0 edges found.1, found.2)
    ]

-- the marks are right from the node k on: what has one is reached, the roots have one, and so have the operands
pub record AreMarkedFrom (nodes : List Node) (roots : List Edge) (k : ℕ) (marks : List Bool) : Type 0 where
  pub len : length marks ≡ length nodes
  pub sound : (j : ℕ) → get_or marks j false ≡ true → IsReached nodes roots j
  pub starts : (e : Edge) → Contains roots e → get_or marks e.node false ≡ true
  pub closed : (j : ℕ) (e : Edge) → k ≤ j → get_or marks j false ≡ true → Contains (operands_at nodes j) e → get_or marks e.node false ≡ true

no_marks : (n j : ℕ) → get_or (replicate n false) j false ≡ true → ⊥
no_marks n j e =
    let lt = mark_within (replicate n false) j e in
    false≢true (sym (get_or-replicate n j false false (omega (arith, lt, length-replicate n false))) ∙ e)

-- at first the roots alone are marked
pub marked_roots : (nodes : List Node) (roots : List Edge) → All (IsEdge nodes) roots → AreMarkedFrom nodes roots (length nodes) (with_marks (replicate (length nodes) false) roots)
marked_roots nodes roots edges =
    let none = replicate (length nodes) false in
    let count : length none ≡ length nodes = length-replicate (length nodes) false in
    let len : length (with_marks none roots) ≡ length nodes = length-with_marks none roots ∙ count in
    record {
      len = len;
      sound = λ j is. elim (marked_from none roots j is) [
        | inl old ↦ absurd (no_marks (length nodes) j old)
        | inr found ↦ (found.0, found.1, subst (λ (i : ℕ). Reaches nodes found.0.node i) found.2 itself)
      ];
      starts = marked_new none roots (subst (λ (n : ℕ). All (λ (e : Edge). e.node < n) roots) (sym count) edges);
      closed = λ j e le is c. absurd (let lt = mark_within (with_marks none roots) j is in omega (arith, lt, len, le));
    }

-- one more node
step_marked : (nodes : List Node) (roots : List Edge) (k : ℕ) (marks : List Bool) → IsGraph nodes → get_or marks k false ≡ true → AreMarkedFrom nodes roots (k + 1) marks → AreMarkedFrom nodes roots k (with_marks marks (operands_at nodes k))
step_marked nodes roots k marks graph has are =
    let operands = operands_at nodes k in
    let new = with_marks marks operands in
    let below : All (λ (e : Edge). e.node < length marks) operands = All_from_places (λ (e : Edge). e.node < length marks) operands (λ i e at_i.
    let at = operand_below nodes k e graph (Contains_at operands i e at_i) in
    omega (arith, at.1, at.2, are.len)) in
    record {
      len = length-with_marks marks operands ∙ are.len;
      sound = λ j is. elim (marked_from marks operands j is) [
        | inl old ↦ are.sound j old
        | inr found ↦
            let reached = are.sound k has in (
              reached.0,
              reached.1,
              subst (λ (i : ℕ). Reaches nodes reached.0.node i) found.2 (next k found.0 reached.2 found.1),
            )
      ];
      starts = λ e c. marked_old marks operands e.node (are.starts e c);
      closed = λ j e le is c. elim (cases_eq j k) [
        | inl same ↦ marked_new marks operands below e (subst (λ (i : ℕ). Contains (operands_at nodes i) e) same c)
        | inr other ↦ elim (marked_from marks operands j is) [
          | inl old ↦ marked_old marks operands e.node (are.closed j e (let apart = other in omega arith) old c)
          | inr found ↦ absurd (let at = operand_below nodes k found.0 graph found.1 in omega (arith, at.1, found.2, le))
        ]
      ];
    }

pub marked_before : (nodes : List Node) (roots : List Edge) (k : ℕ) (marks : List Bool) → IsGraph nodes → AreMarkedFrom nodes roots (k + 1) marks → AreMarkedFrom nodes roots k (with_operands nodes k marks)
marked_before nodes roots k marks graph are =
    elim (get_or marks k false) as (λ b. get_or marks k false ≡ b → AreMarkedFrom nodes roots k (cond b (with_marks marks (operands_at nodes k)) marks)) [
      | true ↦ λ has. step_marked nodes roots k marks graph has are
      | false ↦ λ none. record {
        len = are.len;
        sound = are.sound;
        starts = are.starts;
        closed = λ j e le is c. elim (cases_eq j k) [
          | inl same ↦ absurd (false≢true (sym none ∙ sym (ap (λ (i : ℕ). get_or marks i false) same) ∙ is))
          | inr other ↦ are.closed j e (let apart = other in omega arith) is c
        ];
      }
    ] refl

-- what is reached is marked
reach_marked : (nodes : List Node) (marks : List Bool) (start k : ℕ) → ((j : ℕ) (e : Edge) → get_or marks j false ≡ true → Contains (operands_at nodes j) e → get_or marks e.node false ≡ true) → get_or marks start false ≡ true → Reaches nodes start k → get_or marks k false ≡ true
reach_marked nodes marks start k closed is itself = is
reach_marked nodes marks start k closed is (next j e before c) = closed j e (reach_marked nodes marks start j closed is before) c

pub all_marked : (nodes : List Node) (roots : List Edge) (marks : List Bool) → AreMarkedFrom nodes roots 0 marks → AreReached nodes roots marks
all_marked nodes roots marks are = record {
  len = are.len;
  sound = are.sound;
  complete = λ k reached. reach_marked nodes marks reached.0.node k (λ j e. are.closed j e (omega arith)) (are.starts reached.0 reached.1) reached.2;
}
