-- Nodes that are inserted: an equal one is found, or the new one stands behind the others.
use Rattle.std.specs.Bool.{if◌then◌else◌}
use Rattle.std.proofs.Common.{◌≡◌, ℕ, zero, suc, ◌+◌, ◌⊎◌, inl, inr, Bool, true, false, not, ◌||◌, cond, List, [], ◌∷◌, ◌++◌, Some, length, refl, sym, ◌∙◌, ap, arith}
use Rattle.std.specs.List.{slice_get, list_any, prefix_len, position_or_len}
use Rattle.std.proofs.lemmas.Bool.{true≢false}
use Rattle.std.proofs.lemmas.Option.{none-some, same_Some}
use Rattle.indexmap.specs.IndexSet.{insert_key}
use Rattle.eco_aig.specs.declared.node.Node.{Node}
use Rattle.eco_aig.specs.contracts.node.NodePartialEq.TheImpl as node
use Rattle.eco_aig.specs.Graph.{IsGraph}
use Rattle.eco_aig.proofs.NodeEq.{node_same, node_itself}
use Rattle.eco_lists.proofs.Places.{slice_get-push_last}

-- the node stands at the first place that passes the test, or nowhere
found_or_none : (nodes : List Node) (x : Node) → ((k : ℕ) × (slice_get nodes k ≡ Some x) × (position_or_len ((node.ghosts).eq x) nodes ≡ k) × (list_any ((node.ghosts).eq x) nodes ≡ true)) ⊎ (((k : ℕ) → slice_get nodes k ≡ Some x → ⊥) × (position_or_len ((node.ghosts).eq x) nodes ≡ length nodes) × (list_any ((node.ghosts).eq x) nodes ≡ false))
found_or_none [] x = inr (λ k e. none-some x e, refl, refl)
found_or_none (y ∷ ys) x = by ((node.ghosts).eq x y) refl (found_or_none ys x)
  where
    test : Node → Bool
    test = (node.ghosts).eq x

    by : (b : Bool) → test y ≡ b → ((k : ℕ) × (slice_get ys k ≡ Some x) × (position_or_len test ys ≡ k) × (list_any test ys ≡ true)) ⊎ (((k : ℕ) → slice_get ys k ≡ Some x → ⊥) × (position_or_len test ys ≡ length ys) × (list_any test ys ≡ false)) → ((k : ℕ) × (slice_get (y ∷ ys) k ≡ Some x) × (position_or_len test (y ∷ ys) ≡ k) × (list_any test (y ∷ ys) ≡ true)) ⊎ (((k : ℕ) → slice_get (y ∷ ys) k ≡ Some x → ⊥) × (position_or_len test (y ∷ ys) ≡ length (y ∷ ys)) × (list_any test (y ∷ ys) ≡ false))
    by true e rest =
        inl (0, ap Some (sym (node_same x y e)), ap (λ c. cond (not c) (1 + prefix_len (λ z. not (test z)) ys) 0) e, ap (λ c. c || list_any test ys) e)
    by false e (inl at) =
        inl (suc at.0, at.1, ap (λ c. cond (not c) (1 + prefix_len (λ z. not (test z)) ys) 0) e ∙ (let p = at.2 in omega arith), ap (λ c. c || list_any test ys) e ∙ at.3)
    by false e (inr none) =
        inr (λ k here. absent k here, ap (λ c. cond (not c) (1 + prefix_len (λ z. not (test z)) ys) 0) e ∙ (let p = none.1 in omega arith), ap (λ c. c || list_any test ys) e ∙ none.2)
      where
        absent : (k : ℕ) → slice_get (y ∷ ys) k ≡ Some x → ⊥
        absent zero here = true≢false (sym (node_itself x) ∙ ap test (same_Some x y (sym here)) ∙ e)
        absent (suc k) here = none.0 k here

-- a node was found, or added behind the others
pub record IsInserted (old new : List Node) (x : Node) (index : ℕ) : Type 0 where
  pub at : slice_get new index ≡ Some x
  pub cases : ((new ≡ old) × (slice_get old index ≡ Some x)) ⊎ ((new ≡ old ++ x ∷ []) × (index ≡ length old) × ((k : ℕ) → slice_get old k ≡ Some x → ⊥))

pub inserted : (old new : List Node) (x : Node) (index : ℕ) → new ≡ insert_key (node.ghosts).eq old x → index ≡ position_or_len ((node.ghosts).eq x) old → IsInserted old new x index
inserted old new x index keys place = by (found_or_none old x)
  where
    test : Node → Bool
    test = (node.ghosts).eq x

    by : ((k : ℕ) × (slice_get old k ≡ Some x) × (position_or_len test old ≡ k) × (list_any test old ≡ true)) ⊎ (((k : ℕ) → slice_get old k ≡ Some x → ⊥) × (position_or_len test old ≡ length old) × (list_any test old ≡ false)) → IsInserted old new x index
    by (inl found) =
        let same : new ≡ old = keys ∙ ap (λ c. if c then old else old ++ x ∷ []) found.3 in
        let here : slice_get old index ≡ Some x = ap (slice_get old) (place ∙ found.2) ∙ found.1 in
        record { at = ap (λ list. slice_get list index) same ∙ here; cases = inl (same, here) }
    by (inr none) =
        let more : new ≡ old ++ x ∷ [] = keys ∙ ap (λ c. if c then old else old ++ x ∷ []) none.2 in
        let end : index ≡ length old = place ∙ none.1 in
        record {
          at = ap (λ list. slice_get list index) more ∙ ap (slice_get (old ++ x ∷ [])) end ∙ slice_get-push_last old x;
          cases = inr (more, end, none.0);
        }

-- what stood there before is found, and nothing is added
pub inserted_found : (old new : List Node) (x : Node) (index k : ℕ) → IsGraph old → IsInserted old new x index → slice_get old k ≡ Some x → (index ≡ k) × (new ≡ old)
inserted_found old new x index k graph is at = elim is.cases [
  | inl same ↦ (graph.distinct index k x same.1 at, same.0)
  | inr more ↦ absurd (more.2 k at)
]

-- the test finds what stands in the list
pub found_by_test : (nodes : List Node) (x : Node) (k : ℕ) → slice_get nodes k ≡ Some x → list_any ((node.ghosts).eq x) nodes ≡ true
found_by_test nodes x k at = elim (found_or_none nodes x) [ inl found ↦ found.3 | inr none ↦ absurd (none.0 k at) ]

-- a new node stands behind the others
pub inserted_new : (old new : List Node) (x : Node) → new ≡ insert_key (node.ghosts).eq old x → ((k : ℕ) → slice_get old k ≡ Some x → ⊥) → new ≡ old ++ x ∷ []
inserted_new old new x keys absent =
    let is = inserted old new x (position_or_len ((node.ghosts).eq x) old) keys refl in
    elim is.cases [ inl same ↦ absurd (absent (position_or_len ((node.ghosts).eq x) old) same.1) | inr more ↦ more.0 ]
