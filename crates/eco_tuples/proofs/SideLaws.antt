-- The edges that tell where a netlist is right at the inputs of a tuple, one by one, and what clauses ask in which all are asserted.
use Rattle.std.proofs.Common.{◌≡◌, inl, inr, ℕ, suc, Bool, true, List, [], ◌∷◌, ◌++◌, Some, slice_get, length, take, sym, ◌∙◌, ap, subst}
use Rattle.std.specs.List.{All, AllZip}
use Rattle.std.proofs.lemmas.List.{length-map}
use Rattle.std.proofs.lemmas.List.Elements.{All-nil, All-cons, All-head, All-tail, All-append}
use Rattle.eco_lists.proofs.Members.{Contains_first, Contains_later, Contains_cases, Contains_none}
use Rattle.eco_lists.proofs.Places.{take_at_more, zip_append}
use Rattle.eco_meaning.specs.Circuit.{Circuit}
use Rattle.eco_meaning.specs.Meaning.{Goal}
use Rattle.eco_aig.specs.declared.edge.Edge.{Edge}
use Rattle.eco_aig.specs.declared.node.Node.{Node}
use Rattle.eco_aig.specs.Edges.{value_of, bits_of}
use Rattle.eco_aig.specs.Graph.{IsEdge, IsValuation}
use Rattle.eco_aig.specs.Inputs.{AreInputs}
use Rattle.eco_compile.specs.Compiled.{AreEdges}
use Rattle.eco_query.specs.Problem.{ProblemValue}
use Rattle.eco_trace.specs.declared.clause.Lit.{Lit}
use Rattle.eco_pose.specs.Answers.{AsksFor}
use Rattle.eco_pose.proofs.MissLaws.{AreModelsOf, AreAnswersOf}
use Rattle.eco_clash.specs.Clashes.{IsRightAt, IsRightThroughout}
use Rattle.eco_clash.specs.Questions.{IsFixedThroughout}
use Rattle.eco_tuples.specs.declared.target_graph.TargetGraph.{TargetGraph}
use Rattle.eco_tuples.specs.Graphs.{Stretches, TellsRight, IsRightEdge, AreRightEdges}
use Rattle.eco_tuples.proofs.GraphLaws.{tells_stay}

-- what holds of the first elements holds of one more
pub all_more : {X : Type 0} (P : X → Type 0) (xs : List X) (k : ℕ) (x : X) → All P (take k xs) → slice_get xs k ≡ Some x → P x → All P (take (suc k) xs)
all_more P xs k x all at is = subst (All P) (sym (take_at_more xs k x at)) (All-append P (take k xs) (x ∷ []) all (All-cons P x [] is (All-nil P)))

-- the edges so far tell the same in a graph that grew
right_edges_stay : (f : Circuit) (goal : Goal) (targets : List (List ℕ)) (old new : TargetGraph) (tuple : List (List Bool)) (edges : List Edge) → Stretches old new →
    AllZip (TellsRight f goal targets old.graph old.opens.items) tuple edges → AllZip (TellsRight f goal targets new.graph new.opens.items) tuple edges
right_edges_stay f goal targets old new [] [] stretches are = are
right_edges_stay f goal targets old new [] (e ∷ edges) stretches are = absurd are
right_edges_stay f goal targets old new (x ∷ tuple) [] stretches are = absurd are
right_edges_stay f goal targets old new (x ∷ tuple) (e ∷ edges) stretches are =
    (tells_stay f goal targets old new x e stretches are.0, right_edges_stay f goal targets old new tuple edges stretches are.1)

-- one input more has its edge
pub right_edges_more : (problem : ProblemValue) (old new : TargetGraph) (tuple : List (List Bool)) (k : ℕ) (x : List Bool) (edges : List Edge) (e : Edge) →
    AreRightEdges problem old (take k tuple) edges → Stretches old new → slice_get tuple k ≡ Some x → IsRightEdge problem new x e → AreRightEdges problem new (take (suc k) tuple) (edges ++ e ∷ [])
right_edges_more problem old new tuple k x edges e before stretches at is targets are =
    let Tells = TellsRight problem.implementation problem.goal targets new.graph new.opens.items in
    subst (λ front. AllZip Tells front (edges ++ e ∷ [])) (sym (take_at_more tuple k x at))
    (zip_append Tells (take k tuple) edges (x ∷ []) (e ∷ []) (right_edges_stay problem.implementation problem.goal targets old new (take k tuple) edges stretches (before targets are)) (is targets are, tt))

module _ (f : Circuit) (goal : Goal) (targets : List (List ℕ)) (nodes : List Node) (opens : List Edge) where
  -- they are edges
  pub edges_are : (tuple : List (List Bool)) (edges : List Edge) → AllZip (TellsRight f goal targets nodes opens) tuple edges → AreEdges nodes edges
  edges_are [] [] are = All-nil (IsEdge nodes)
  edges_are [] (e ∷ edges) are = absurd are
  edges_are (x ∷ tuple) [] are = absurd are
  edges_are (x ∷ tuple) (e ∷ edges) are = All-cons (IsEdge nodes) e edges are.0.within (edges_are tuple edges are.1)

  -- where all are 1, the netlist is right throughout the tuple
  right_throughout : (tuple : List (List Bool)) (edges : List Edge) → AllZip (TellsRight f goal targets nodes opens) tuple edges → (w : ℕ → Bool) → IsValuation nodes w →
      All (λ e. value_of w e ≡ true) edges → IsRightThroughout f goal targets tuple (bits_of w opens)
  right_throughout [] edges are w valuation held x c = absurd (Contains_none x c)
  right_throughout (first ∷ tuple) [] are w valuation held x c = absurd are
  right_throughout (first ∷ tuple) (e ∷ edges) are w valuation held x c =
      elim (Contains_cases first x tuple c) [
        | inl here ↦ subst (λ y. IsRightAt f goal targets y (bits_of w opens)) here (are.0.right w valuation (All-head (λ e. value_of w e ≡ true) e edges held))
        | inr later ↦ right_throughout tuple edges are.1 w valuation (All-tail (λ e. value_of w e ≡ true) e edges held) x later
      ]

  -- and the other way round
  all_hold : (tuple : List (List Bool)) (edges : List Edge) → AllZip (TellsRight f goal targets nodes opens) tuple edges → (w : ℕ → Bool) → IsValuation nodes w →
      IsRightThroughout f goal targets tuple (bits_of w opens) → All (λ e. value_of w e ≡ true) edges
  all_hold [] [] are w valuation right = All-nil (λ e. value_of w e ≡ true)
  all_hold [] (e ∷ edges) are w valuation right = absurd are
  all_hold (x ∷ tuple) [] are w valuation right = absurd are
  all_hold (x ∷ tuple) (e ∷ edges) are w valuation right =
      All-cons (λ e. value_of w e ≡ true) e edges (are.0.only w valuation (right x (Contains_first x tuple)))
      (all_hold tuple edges are.1 w valuation (λ y c. right y (Contains_later x y tuple c)))

  -- so the clauses ask for bits that are right throughout the tuple
  pub asks_throughout : (tuple : List (List Bool)) (edges : List Edge) (lits : List Lit) (clauses : List (List Lit)) → AreInputs nodes opens → length opens ≡ length targets →
      AllZip (TellsRight f goal targets nodes opens) tuple edges → AreModelsOf nodes opens edges lits clauses → AreAnswersOf nodes opens edges lits clauses →
      AsksFor (IsFixedThroughout f goal targets tuple) lits clauses
  asks_throughout tuple edges lits clauses are_inputs count are models answers = record {
    models = λ v holds.
        let (w, made, reads) = models v holds in
        record {
          len = ap length reads ∙ length-map opens (value_of w) ∙ count;
          right = subst (IsRightThroughout f goal targets tuple) (sym reads) (right_throughout tuple edges are w made.valuation made.held);
        };
    answers = λ bits fixed.
        let (w, valuation, at) = are_inputs.free bits (fixed.len ∙ sym count) in
        let held = all_hold tuple edges are w valuation (subst (IsRightThroughout f goal targets tuple) (sym at) fixed.right) in
        let (v, holds, reads) = answers w (record { valuation = valuation; held = held }) in
        (v, holds, reads ∙ at);
  }
