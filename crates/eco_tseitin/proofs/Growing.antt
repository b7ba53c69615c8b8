-- What an encoding becomes where an edge is encoded, and where a literal is asserted.
use Rattle.std.proofs.Common.{◌≡◌, ◌≢◌, ℕ, ◌<◌, ◌≤◌, ◌⊎◌, inl, inr, List, [], ◌∷◌, ◌++◌, Some, length, sym, ◌∙◌, ap, subst, arith, map, append_assoc, length-append}
use Rattle.std.specs.List.{slice_get, Contains, AllPairs, AllZip, flat_map}
use Rattle.std.specs.Option.{option_map, unwrap_or}
use Rattle.std.specs.List.Sorted.{IsPermutation}
use Rattle.std.proofs.lemmas.List.{append-nil, map_push}
use Rattle.std.proofs.lemmas.Grind.{flat_map-append}
use Rattle.std.proofs.lemmas.List.Elements.{Contains-append_left, Contains-append_right, Contains-append_cases, All-nil, All-weaker, All-contains, All-contains_itself}
use Rattle.std.proofs.lemmas.List.Sorted.{IsPermutation-append_left, IsPermutation-append_right, IsPermutation-append_comm, IsPermutation-trans, IsPermutation-refl}
use Rattle.eco_aig.specs.declared.edge.Edge.{Edge}
use Rattle.eco_aig.specs.declared.node.Node.{Node}
use Rattle.eco_aig.specs.Graph.{IsGraph, pair_at}
use Rattle.eco_trace.specs.declared.clause.Lit.{Lit}
use Rattle.eco_trace.specs.Clauses.{IsClauseOf}
use Rattle.eco_aig.proofs.Reaching.{at_root}
use Rattle.eco_tseitin.specs.Encoding.{Encoding, node_clauses, clauses_at, unit, IsEncoding, HasGrown}
use Rattle.eco_tseitin.specs.Steps.{IsOperand}
use Rattle.eco_tseitin.proofs.Clausal.{flat_agree}
use Rattle.eco_tseitin.proofs.Closed.{is_closed, same_operands, reaches_more, all_reached, pair_here}
use Rattle.eco_tseitin.proofs.Progress.{IsProgress, clauses_stay, ended}
use Rattle.std.proofs.lemmas.Option.{slice_get_within}
use Rattle.eco_lists.proofs.Places.{slice_get-front, zip_append}
use Rattle.eco_lists.proofs.Members.{only_one, Contains_none}
use Rattle.eco_aig.proofs.Conjunctions.{pair_at_node}

-- a graph has grown from itself
pub no_growth : (graph : List Node) → HasGrown graph graph
no_growth graph = record { added = []; behind = sym (append-nil graph) }

-- lists whose elements are exchanged behind a part
moved : {X : Type 0} (xs ys zs all : List X) → IsPermutation (xs ++ zs) all → IsPermutation ((xs ++ ys) ++ zs) (all ++ ys)
moved xs ys zs all is =
    let exchanged : IsPermutation ((xs ++ ys) ++ zs) ((xs ++ zs) ++ ys) = subst (λ list. IsPermutation list ((xs ++ zs) ++ ys)) (sym (append_assoc xs ys zs)) (subst (IsPermutation (xs ++ (ys ++ zs))) (sym (append_assoc xs zs ys)) (IsPermutation-append_right xs (ys ++ zs) (zs ++ ys) (IsPermutation-append_comm ys zs))) in
    IsPermutation-trans ((xs ++ ys) ++ zs) ((xs ++ zs) ++ ys) (all ++ ys) exchanged (IsPermutation-append_left ys (xs ++ zs) all is)

module _ (before graph : List Node) (grown : HasGrown before graph) where
  -- older nodes stay
  stays : (k : ℕ) → k < length before → slice_get graph k ≡ slice_get before k
  stays k lt = ap (λ list. slice_get list k) grown.behind ∙ slice_get-front before grown.added k lt

  pairs : (k : ℕ) (a b : Edge) → pair_at before k ≡ Some (a, b) → pair_at graph k ≡ Some (a, b)
  pairs k a b pair =
      let at = pair_at_node before k a b pair in
      pair_here graph k a b (stays k (slice_get_within before k _ at) ∙ at)

  longer : length before ≤ length graph
  longer = omega (arith, ap length grown.behind, length-append before grown.added)

  -- where all that an edge reaches is done, its encoding stands
  pub encoded : (roots : List Edge) (asserted : List Lit) (old now : Encoding) (edge : Edge) (literal : Lit) (place : ℕ) → IsGraph graph → AllPairs (λ i j. i ≢ j) now.nodes → length now.nodes ≤ place → IsProgress graph old now edge literal place → IsEncoding before roots asserted old → IsEncoding graph (roots ++ edge ∷ []) asserted now
  encoded roots asserted old now edge literal place is_graph once le p is =
      let done = p.done in
      let all : now.nodes ≡ old.nodes ++ done = ended graph old now edge literal place p le in
      let closed = is_closed before roots asserted old is in
      let old_below : (k : ℕ) → Contains old.nodes k → k < length before = λ k c. All-contains (λ j. j < length before) old.nodes k is.within c in
      let old_in : (k : ℕ) → Contains old.nodes k → Contains now.nodes k = λ k c. subst (λ list. Contains list k) (sym all) (Contains-append_left old.nodes done k c) in
      let in_both : (k : ℕ) → Contains now.nodes k → Contains old.nodes k ⊎ Contains done k = λ k c. Contains-append_cases old.nodes done k (subst (λ list. Contains list k) all c) in
      let done_in : (k : ℕ) → Contains done k → Contains (done ++ p.waiting) k = λ k c. Contains-append_left done p.waiting k c in
      let old_operands : (k j : ℕ) → Contains old.nodes k → IsOperand graph k j → Contains old.nodes j = λ k j c operand. closed.operands k j c (same_operands graph before k j (stays k (old_below k c)) operand) in
      let operands : (k j : ℕ) → Contains now.nodes k → IsOperand graph k j → Contains now.nodes j = λ k j c operand. elim (in_both k c) [
        | inl old_one ↦ old_in j (old_operands k j old_one operand)
        | inr new_one ↦ p.ready k j new_one operand
      ] in
      let starts : (e : Edge) → Contains (roots ++ edge ∷ []) e → Contains now.nodes e.node = λ e c. elim (Contains-append_cases roots (edge ∷ []) e c) [
        | inl old_one ↦ old_in e.node ((is.reached e.node).1 (at_root before roots e old_one))
        | inr new_one ↦ subst (λ (x : Edge). Contains now.nodes x.node) (only_one edge e new_one) p.root
      ] in
      let both = clauses_at graph (old.nodes ++ done) in
      let old_agree : flat_map both old.nodes ≡ flat_map (clauses_at before old.nodes) old.nodes = flat_agree both (clauses_at before old.nodes) old.nodes (λ k c. clauses_stay graph old.nodes done k c (λ j operand. old_operands k j c operand) ∙ ap (λ o. unwrap_or (option_map (node_clauses old.nodes k) o) []) (stays k (old_below k c))) in
      let zip : AllZip IsClauseOf (flat_map both old.nodes ++ flat_map both done) (is.of_nodes ++ p.made) = zip_append IsClauseOf (flat_map both old.nodes) is.of_nodes (flat_map both done) p.made (subst (λ list. AllZip IsClauseOf list is.of_nodes) (sym old_agree) is.are_of_nodes) (subst (λ list. AllZip IsClauseOf (flat_map (clauses_at graph list) done) p.made) all p.are) in
      let whole : AllZip IsClauseOf (flat_map both (old.nodes ++ done)) (is.of_nodes ++ p.made) = subst (λ list. AllZip IsClauseOf list (is.of_nodes ++ p.made)) (sym (flat_map-append both old.nodes done)) zip in
      record {
        of_graph = is_graph;
        reached = λ k. (
          λ c. elim (in_both k c) [
            | inl old_one ↦ reaches_more before graph roots (roots ++ edge ∷ []) pairs (λ e at. Contains-append_left roots (edge ∷ []) e at) k ((is.reached k).0 old_one)
            | inr new_one ↦ reaches_more graph graph (edge ∷ []) (roots ++ edge ∷ []) (λ i a b pair. pair) (λ e at. Contains-append_right roots (edge ∷ []) e at) k (p.reached k (done_in k new_one))
          ],
          all_reached graph (roots ++ edge ∷ []) now.nodes starts operands k,
        );
        within = All-weaker (Contains now.nodes) (λ k. k < length graph) (λ k c. elim (in_both k c) [
          | inl old_one ↦ (let low = old_below k old_one in omega (arith, low, longer))
          | inr new_one ↦ p.within k (done_in k new_one)
        ]) now.nodes (All-contains_itself now.nodes);
        once = once;
        of_nodes = is.of_nodes ++ p.made;
        are_of_nodes = subst (λ list. AllZip IsClauseOf (flat_map (clauses_at graph list) list) (is.of_nodes ++ p.made)) (sym all) whole;
        are_all = subst (IsPermutation ((is.of_nodes ++ p.made) ++ map unit asserted)) (sym p.behind) (moved is.of_nodes p.made (map unit asserted) old.clauses is.are_all);
      }

-- at first no edge is encoded
pub empty_encoding : (graph : List Node) (e : Encoding) → IsGraph graph → e.nodes ≡ [] → e.clauses ≡ [] → IsEncoding graph [] [] e
empty_encoding graph e is_graph no_nodes no_clauses =
    let same : e ≡ record { nodes = []; clauses = [] } = ap (λ n. record { nodes = n; clauses = e.clauses }) no_nodes ∙ ap (λ c. record { nodes = []; clauses = c }) no_clauses in
    subst (IsEncoding graph [] []) (sym same) (record {
      of_graph = is_graph;
      reached = λ k. (λ c. absurd (Contains_none k c), all_reached graph [] [] (λ x c. absurd (Contains_none x c)) (λ i j c operand. absurd (Contains_none i c)) k);
      within = All-nil (λ k. k < length graph);
      once = λ i j d lt within. absurd (omega (arith, within));
      of_nodes = [];
      are_of_nodes = tt;
      are_all = IsPermutation-refl [];
    })

-- one more asserted literal
pub asserted_more : (graph : List Node) (roots : List Edge) (asserted : List Lit) (old new : Encoding) (l : Lit) → new ≡ record { nodes = old.nodes; clauses = old.clauses ++ (l ∷ []) ∷ [] } → IsEncoding graph roots asserted old → IsEncoding graph roots (asserted ++ l ∷ []) new
asserted_more graph roots asserted old new l e is =
    let units : is.of_nodes ++ map unit (asserted ++ l ∷ []) ≡ (is.of_nodes ++ map unit asserted) ++ unit l ∷ [] = ap (λ list. is.of_nodes ++ list) (map_push unit asserted l) ∙ sym (append_assoc is.of_nodes (map unit asserted) (unit l ∷ [])) in
    let more : IsPermutation (is.of_nodes ++ map unit (asserted ++ l ∷ [])) (old.clauses ++ unit l ∷ []) = subst (λ list. IsPermutation list (old.clauses ++ unit l ∷ [])) (sym units) (IsPermutation-append_left (unit l ∷ []) (is.of_nodes ++ map unit asserted) old.clauses is.are_all) in
    subst (IsEncoding graph roots (asserted ++ l ∷ [])) (sym e) (record {
      of_graph = is.of_graph;
      reached = is.reached;
      within = is.within;
      once = is.once;
      of_nodes = is.of_nodes;
      are_of_nodes = is.are_of_nodes;
      are_all = more;
    })
