-- Inputs that rows miss, by the edges of the rows.
use Rattle.std.proofs.Common.{◌≡◌, ◌⊎◌, inl, inr, ℕ, Bool, true, false, List, [], ◌∷◌, length, map, sym, ◌∙◌, subst, arith}
use Rattle.std.specs.List.{All, Contains}
use Rattle.std.proofs.lemmas.List.{length-map}
use Rattle.std.proofs.lemmas.List.Elements.{All-nil, All-cons, All-head, All-tail}
use Rattle.std.proofs.lemmas.Bool.{cases_Bool}
use Rattle.eco_lists.proofs.Members.{Contains_cases, Contains_first, Contains_later}
use Rattle.eco_meaning.specs.Circuit.{Circuit, Values}
use Rattle.eco_meaning.specs.Meaning.{Goal, IsRight, IsWrong}
use Rattle.eco_aig.specs.declared.edge.Edge.{Edge}
use Rattle.eco_aig.specs.declared.node.Node.{Node}
use Rattle.eco_aig.specs.Edges.{value_of, bits_of}
use Rattle.eco_aig.specs.Graph.{IsValuation}
use Rattle.eco_trace.specs.declared.clause.Lit.{Lit}
use Rattle.eco_trace.specs.Clauses.{Valuation, Satisfies, read}
use Rattle.eco_laws.specs.Asked.{IsMissed}
use Rattle.eco_aig.specs.Inputs.{AreInputs}
use Rattle.eco_tseitin.specs.Reading.{Makes}
use Rattle.eco_pose.specs.Boards.{AreRowEdges}
use Rattle.eco_pose.specs.Answers.{AsksFor}

-- a listed row with which the netlist is right is told by an edge that is 0
row_is_told : (n : Circuit) (goal : Goal) (nets : List (List ℕ)) (nodes : List Node) (inputs : List Edge) (rows : List (List Bool)) (edges : List Edge) (w : ℕ → Bool) (v : Values) →
    AreRowEdges n goal nets nodes inputs rows edges → IsValuation nodes w → All (λ e. value_of w e ≡ true) edges → IsRight n goal v → map v n.inputs ≡ bits_of w inputs → Contains rows (map v nets) → ⊥
row_is_told n goal nets nodes inputs [] edges w v are valuation held right input (k, within, at) = absurd (omega (arith, within))
row_is_told n goal nets nodes inputs (row ∷ rows) [] w v are valuation held right input among = absurd are
row_is_told n goal nets nodes inputs (row ∷ rows) (e ∷ edges) w v are valuation held right input among =
    elim (Contains_cases row (map v nets) rows among) [
      | inl here ↦ are.0.wrong w valuation (All-head (λ e. value_of w e ≡ true) e edges held) v (record { input = input; open_bits = sym here }) right
      | inr later ↦ row_is_told n goal nets nodes inputs rows edges w v are.1 valuation (All-tail (λ e. value_of w e ≡ true) e edges held) right input later
    ]

-- where all edges are 1, no listed row helps
pub missed_from_made : (n : Circuit) (goal : Goal) (nets : List (List ℕ)) (nodes : List Node) (inputs : List Edge) (rows : List (List Bool)) (edges : List Edge) (w : ℕ → Bool) →
    length inputs ≡ length n.inputs → AreRowEdges n goal nets nodes inputs rows edges → Makes nodes edges w → IsMissed n goal nets rows (bits_of w inputs)
missed_from_made n goal nets nodes inputs rows edges w count are made = record {
  len = length-map inputs (value_of w) ∙ count;
  never = λ v right input among. row_is_told n goal nets nodes inputs rows edges w v are made.valuation made.held right input among;
}

-- and where none helps, all edges are 1
edges_hold : (n : Circuit) (goal : Goal) (nets : List (List ℕ)) (nodes : List Node) (inputs : List Edge) (rows : List (List Bool)) (edges : List Edge) (w : ℕ → Bool) →
    AreRowEdges n goal nets nodes inputs rows edges → IsValuation nodes w → ((v : Values) → IsRight n goal v → map v n.inputs ≡ bits_of w inputs → Contains rows (map v nets) → ⊥) → All (λ e. value_of w e ≡ true) edges
edges_hold n goal nets nodes inputs [] [] w are valuation never = All-nil (λ e. value_of w e ≡ true)
edges_hold n goal nets nodes inputs [] (e ∷ edges) w are valuation never = absurd are
edges_hold n goal nets nodes inputs (row ∷ rows) [] w are valuation never = absurd are
edges_hold n goal nets nodes inputs (row ∷ rows) (e ∷ edges) w are valuation never =
    All-cons (λ e. value_of w e ≡ true) e edges (held (cases_Bool (value_of w e)))
    (edges_hold n goal nets nodes inputs rows edges w are.1 valuation (λ v right input among. never v right input (Contains_later row (map v nets) rows among)))
  where
    held : (value_of w e ≡ true) ⊎ (value_of w e ≡ false) → value_of w e ≡ true
    held (inl one) = one
    held (inr none) =
        let some = are.0.right w valuation none in
        absurd (never some.0 some.2 some.1.input (subst (λ bits. Contains (row ∷ rows) bits) (sym some.1.open_bits) (Contains_first row rows)))

pub made_from_missed : (n : Circuit) (goal : Goal) (nets : List (List ℕ)) (nodes : List Node) (inputs : List Edge) (rows : List (List Bool)) (edges : List Edge) (w : ℕ → Bool) →
    AreRowEdges n goal nets nodes inputs rows edges → IsValuation nodes w → IsMissed n goal nets rows (bits_of w inputs) → Makes nodes edges w
made_from_missed n goal nets nodes inputs rows edges w are valuation missed = record {
  valuation = valuation;
  held = edges_hold n goal nets nodes inputs rows edges w are valuation missed.never;
}

-- what the clauses of the asserted edges say of the inputs' literals
abbrev pub AreModelsOf : List Node → List Edge → List Edge → List Lit → List (List Lit) → Type 0
AreModelsOf nodes inputs edges lits clauses =
    (v : Valuation) → Satisfies v clauses → (w : ℕ → Bool) × Makes nodes edges w × (read v lits ≡ bits_of w inputs)

abbrev pub AreAnswersOf : List Node → List Edge → List Edge → List Lit → List (List Lit) → Type 0
AreAnswersOf nodes inputs edges lits clauses =
    (w : ℕ → Bool) → Makes nodes edges w → (v : Valuation) × Satisfies v clauses × (read v lits ≡ bits_of w inputs)

-- so they ask for an input that the rows miss
pub asks_missed : (n : Circuit) (goal : Goal) (nets : List (List ℕ)) (nodes : List Node) (inputs : List Edge) (rows : List (List Bool)) (edges : List Edge) (lits : List Lit) (clauses : List (List Lit)) →
    length inputs ≡ length n.inputs → AreInputs nodes inputs → AreRowEdges n goal nets nodes inputs rows edges →
    AreModelsOf nodes inputs edges lits clauses → AreAnswersOf nodes inputs edges lits clauses → AsksFor (IsMissed n goal nets rows) lits clauses
asks_missed n goal nets nodes inputs rows edges lits clauses count are_inputs are models answers = record {
  models = λ v holds.
      let (w, made, reads) = models v holds in
      subst (IsMissed n goal nets rows) (sym reads) (missed_from_made n goal nets nodes inputs rows edges w count are made);
  answers = λ x missed.
      let (w, valuation, at) = are_inputs.free x (missed.len ∙ sym count) in
      let made = made_from_missed n goal nets nodes inputs rows edges w are valuation (subst (IsMissed n goal nets rows) (sym at) missed) in
      let (v, holds, reads) = answers w made in
      (v, holds, reads ∙ at);
}

-- clauses that ask for one thing ask for another that means the same
pub asks_same : (Is Other : List Bool → Type 0) (lits : List Lit) (clauses : List (List Lit)) → ((x : List Bool) → Is x → Other x) → ((x : List Bool) → Other x → Is x) → AsksFor Is lits clauses → AsksFor Other lits clauses
asks_same Is Other lits clauses to from asks = record {
  models = λ v holds. to (read v lits) (asks.models v holds);
  answers = λ x other. asks.answers x (from x other);
}

-- a netlist with no open nets is wrong where the empty row misses the input
pub wrong_from_missed : (n : Circuit) (goal : Goal) (x : List Bool) → IsMissed n goal [] ([] ∷ []) x → IsWrong n goal x
wrong_from_missed n goal x missed = record {
  len = missed.len;
  never = λ v consistent input right. missed.never v right input (Contains_first [] []);
}

pub missed_from_wrong : (n : Circuit) (goal : Goal) (x : List Bool) → IsWrong n goal x → IsMissed n goal [] ([] ∷ []) x
missed_from_wrong n goal x wrong = record {
  len = wrong.len;
  never = λ v right input among. wrong.never v right.consistent input right;
}
