-- How far the nodes that an edge reaches are encoded.
use Rattle.std.proofs.Common.{◌≡◌, ℕ, ◌+◌, ◌<◌, ◌≤◌, ◌⊎◌, inl, inr, eqb, List, [], ◌∷◌, ◌++◌, Option, Some, None, length, refl, sym, ◌∙◌, ap, subst, arith, append_assoc, length-append}
use Rattle.std.specs.List.{slice_get, Contains, AllZip, IsDistinct, flat_map}
use Rattle.std.specs.Option.{option_map, unwrap_or}
use Rattle.std.proofs.lemmas.List.{append-nil}
use Rattle.std.proofs.lemmas.Grind.{flat_map-append}
use Rattle.std.proofs.lemmas.List.Elements.{Contains-append_left, Contains-append_right, Contains-append_cases}
use Rattle.std.proofs.lemmas.Map.Steps.{length-le_from_distinct_below}
use Rattle.std.proofs.lemmas.Option.{same_Some}
use Rattle.eco_lists.proofs.Members.{only_one, Contains_none}
use Rattle.eco_lists.proofs.Places.{zip_append}
use Rattle.eco_aig.specs.declared.edge.Edge.{Edge}
use Rattle.eco_aig.specs.declared.node.Node.{Node}
use Rattle.eco_aig.specs.declared.node.Node.TheVariants.{Zero, Input, And}
use Rattle.eco_aig.specs.Edges.{plain}
use Rattle.eco_aig.specs.Graph.{IsGraph}
use Rattle.eco_trace.specs.declared.clause.Lit.{Lit}
use Rattle.eco_trace.specs.Clauses.{IsClauseOf, complement}
use Rattle.eco_aig.specs.Reached.{IsReached}
use Rattle.eco_aig.proofs.Reaching.{at_root}
use Rattle.eco_tseitin.specs.Encoding.{Encoding, literal_of, conjunction_clauses, node_clauses, clauses_at}
use Rattle.eco_tseitin.specs.Steps.{IsNamed, IsOperand, of_first, of_second, AddsNode}
use Rattle.eco_tseitin.proofs.Places.{literal_stays, slice_at_end, distinct_back, contained}
use Rattle.eco_tseitin.proofs.Clausal.{flat_agree}
use Rattle.eco_tseitin.proofs.Closed.{reaches_operand, operand_before, pair_here}

-- a node's clauses stay where more nodes have variables
pub clauses_stay : (graph : List Node) (nodes more : List ℕ) (k : ℕ) → Contains nodes k → ((j : ℕ) → IsOperand graph k j → Contains nodes j) → clauses_at graph (nodes ++ more) k ≡ clauses_at graph nodes k
clauses_stay graph nodes more k c operands = by (slice_get graph k) refl
  where
    by : (o : Option Node) → slice_get graph k ≡ o → unwrap_or (option_map (node_clauses (nodes ++ more) k) o) [] ≡ unwrap_or (option_map (node_clauses nodes k) o) []
    by None e = refl
    by (Some Zero) e = ap (λ l. (complement l ∷ []) ∷ []) (literal_stays nodes more (plain k) c)
    by (Some (Input number)) e = refl
    by (Some (And a b)) e =
        let pair = pair_here graph k a b e in
        let n = literal_stays nodes more (plain k) c in
        let x = literal_stays nodes more a (operands a.node (of_first a b pair)) in
        let y = literal_stays nodes more b (operands b.node (of_second a b pair)) in
        ap (λ l. conjunction_clauses l (literal_of (nodes ++ more) a) (literal_of (nodes ++ more) b)) n ∙ ap (λ l. conjunction_clauses (literal_of nodes (plain k)) l (literal_of (nodes ++ more) b)) x ∙ ap (λ l. conjunction_clauses (literal_of nodes (plain k)) (literal_of nodes a) l) y

-- the nodes `done` have their clauses and the nodes `waiting`, from this place on, not yet
pub record IsProgress (graph : List Node) (old now : Encoding) (edge : Edge) (literal : Lit) (place : ℕ) : Type 0 where
  pub done : List ℕ
  pub waiting : List ℕ
  pub nodes : now.nodes ≡ (old.nodes ++ done) ++ waiting
  pub at : place ≡ length (old.nodes ++ done)
  pub root : Contains now.nodes edge.node
  pub literal_is : literal ≡ literal_of now.nodes edge
  pub reached : (j : ℕ) → Contains (done ++ waiting) j → IsReached graph (edge ∷ []) j
  pub within : (j : ℕ) → Contains (done ++ waiting) j → j < length graph
  pub ready : (k j : ℕ) → Contains done k → IsOperand graph k j → Contains now.nodes j
  pub made : List (List Lit)
  pub behind : now.clauses ≡ old.clauses ++ made
  pub are : AllZip IsClauseOf (flat_map (clauses_at graph now.nodes) done) made

-- at the start the edge's node waits, or nothing
pub begun : (graph : List Node) (old now : Encoding) (edge : Edge) (literal : Lit) → edge.node < length graph → literal ≡ literal_of now.nodes edge → IsNamed old now edge.node → IsProgress graph old now edge literal (length old.nodes)
begun graph old now edge literal within is named = elim named.cases [
  | inl same ↦ record {
    done = [];
    waiting = [];
    nodes = same ∙ sym (append-nil (old.nodes ++ []) ∙ append-nil old.nodes);
    at = ap length (sym (append-nil old.nodes));
    root = named.has;
    literal_is = is;
    reached = λ j c. absurd (Contains_none j c);
    within = λ j c. absurd (Contains_none j c);
    ready = λ k j c operand. absurd (Contains_none k c);
    made = [];
    behind = named.clauses ∙ sym (append-nil old.clauses);
    are = tt;
  }
  | inr more ↦ record {
    done = [];
    waiting = edge.node ∷ [];
    nodes = more ∙ sym (ap (λ front. front ++ edge.node ∷ []) (append-nil old.nodes));
    at = ap length (sym (append-nil old.nodes));
    root = named.has;
    literal_is = is;
    reached = λ j c. subst (IsReached graph (edge ∷ [])) (only_one edge.node j c) (at_root graph (edge ∷ []) edge (0, omega arith, refl));
    within = λ j c. subst (λ i. i < length graph) (only_one edge.node j c) within;
    ready = λ k j c operand. absurd (Contains_none k c);
    made = [];
    behind = named.clauses ∙ sym (append-nil old.clauses);
    are = tt;
  }
]

-- the next node is one that the edge reaches
pub next_within : (graph : List Node) (old now : Encoding) (edge : Edge) (literal : Lit) (place node : ℕ) → slice_get now.nodes place ≡ Some node → place < length now.nodes → IsProgress graph old now edge literal place → node < length graph
next_within graph old now edge literal place node here lt p = by p.waiting refl
  where
    by : (waiting : List ℕ) → p.waiting ≡ waiting → node < length graph
    by [] e = absurd (omega (arith, lt, p.at, ap length (p.nodes ∙ ap (λ w. (old.nodes ++ p.done) ++ w) e ∙ append-nil (old.nodes ++ p.done))))
    by (k ∷ rest) e =
        let front = old.nodes ++ p.done in
        let nodes_now : now.nodes ≡ front ++ k ∷ rest = p.nodes ∙ ap (λ w. front ++ w) e in
        let same : k ≡ node = same_Some k node (sym (slice_at_end front k rest) ∙ ap (λ list. slice_get list (length front)) (sym nodes_now) ∙ ap (slice_get now.nodes) (sym p.at) ∙ here) in
        subst (λ n. n < length graph) same (p.within k (subst (λ w. Contains (p.done ++ w) k) (sym e) (Contains-append_right p.done (k ∷ rest) k (0, omega arith, refl))))

-- the next node is done
pub stepped : (graph : List Node) (old now new : Encoding) (edge : Edge) (literal : Lit) (place node : ℕ) → IsGraph graph → slice_get now.nodes place ≡ Some node → place < length now.nodes → IsProgress graph old now edge literal place → AddsNode graph now new node → IsProgress graph old new edge literal (place + 1)
stepped graph old now new edge literal place node is_graph here lt p adds = by p.waiting refl
  where
    by : (waiting : List ℕ) → p.waiting ≡ waiting → IsProgress graph old new edge literal (place + 1)
    by [] e = absurd (omega (arith, lt, p.at, ap length (p.nodes ∙ ap (λ w. (old.nodes ++ p.done) ++ w) e ∙ append-nil (old.nodes ++ p.done))))
    by (k ∷ rest) e =
        let front = old.nodes ++ p.done in
        let nodes_now : now.nodes ≡ front ++ k ∷ rest = p.nodes ∙ ap (λ w. front ++ w) e in
        let same : k ≡ node = same_Some k node (sym (slice_at_end front k rest) ∙ ap (λ list. slice_get list (length front)) (sym nodes_now) ∙ ap (slice_get now.nodes) (sym p.at) ∙ here) in
        let added : AddsNode graph now new k = subst (AddsNode graph now new) (sym same) adds in
        let kept : (j : ℕ) → Contains now.nodes j → Contains new.nodes j = λ j c. subst (λ list. Contains list j) (sym added.nodes) (Contains-append_left now.nodes added.more j c) in
        let regroup : (p.done ++ k ∷ []) ++ (rest ++ added.more) ≡ (p.done ++ k ∷ rest) ++ added.more = simp append_assoc in
        let cases : (j : ℕ) → Contains ((p.done ++ k ∷ []) ++ (rest ++ added.more)) j → Contains (p.done ++ p.waiting) j ⊎ Contains added.more j = λ j c. elim (Contains-append_cases (p.done ++ k ∷ rest) added.more j (subst (λ list. Contains list j) regroup c)) [
          | inl old_one ↦ inl (subst (λ w. Contains (p.done ++ w) j) (sym e) old_one)
          | inr new_one ↦ inr new_one
        ] in
        let k_in : Contains (p.done ++ p.waiting) k = subst (λ w. Contains (p.done ++ w) k) (sym e) (Contains-append_right p.done (k ∷ rest) k (0, omega arith, refl)) in
        let has : (j : ℕ) → Contains p.done j → Contains now.nodes j = λ j c. subst (λ list. Contains list j) (sym p.nodes) (Contains-append_left front p.waiting j (Contains-append_right old.nodes p.done j c)) in
        let after = clauses_at graph new.nodes in
        let agree : flat_map after p.done ≡ flat_map (clauses_at graph now.nodes) p.done = flat_agree after (clauses_at graph now.nodes) p.done (λ j c. ap (λ list. clauses_at graph list j) added.nodes ∙ clauses_stay graph now.nodes added.more j (has j c) (λ i operand. p.ready j i c operand)) in
        let zip : AllZip IsClauseOf (flat_map after p.done ++ after k) (p.made ++ added.made) = zip_append IsClauseOf (flat_map after p.done) p.made (after k) added.made (subst (λ list. AllZip IsClauseOf list p.made) (sym agree) p.are) added.are in
        let joined : flat_map after (p.done ++ k ∷ []) ≡ flat_map after p.done ++ after k = flat_map-append after p.done (k ∷ []) ∙ ap (λ back. flat_map after p.done ++ back) (append-nil (after k)) in
        record {
          done = p.done ++ k ∷ [];
          waiting = rest ++ added.more;
          nodes = added.nodes ∙ ap (λ list. list ++ added.more) nodes_now ∙ simp append_assoc;
          at = omega (arith, p.at, length-append front (k ∷ []), ap length (append_assoc old.nodes p.done (k ∷ [])));
          root = kept edge.node p.root;
          literal_is = p.literal_is ∙ sym (ap (λ list. literal_of list edge) added.nodes ∙ literal_stays now.nodes added.more edge p.root);
          reached = λ j c. elim (cases j c) [
            | inl old_one ↦ p.reached j old_one
            | inr new_one ↦ reaches_operand graph (edge ∷ []) k j (p.reached k k_in) (added.only j new_one)
          ];
          within = λ j c. elim (cases j c) [
            | inl old_one ↦ p.within j old_one
            | inr new_one ↦ (let before = operand_before graph k j is_graph (added.only j new_one) in let at_k = p.within k k_in in omega (arith, before, at_k))
          ];
          ready = λ i j c operand. elim (Contains-append_cases p.done (k ∷ []) i c) [
            | inl old_one ↦ kept j (p.ready i j old_one operand)
            | inr new_one ↦ added.operands j (subst (λ n. IsOperand graph n j) (sym (only_one k i new_one)) operand)
          ];
          made = p.made ++ added.made;
          behind = added.behind ∙ ap (λ list. list ++ added.made) p.behind ∙ append_assoc old.clauses p.made added.made;
          are = subst (λ list. AllZip IsClauseOf list (p.made ++ added.made)) (sym joined) zip;
        }

-- no more nodes were given variables than the graph has
pub bounded : (graph : List Node) (old now : Encoding) (edge : Edge) (literal : Lit) (place : ℕ) → IsProgress graph old now edge literal place → IsDistinct eqb now.nodes → length now.nodes ≤ length old.nodes + length graph
bounded graph old now edge literal place p distinct =
    let whole : now.nodes ≡ old.nodes ++ (p.done ++ p.waiting) = p.nodes ∙ append_assoc old.nodes p.done p.waiting in
    let apart : IsDistinct eqb (p.done ++ p.waiting) = distinct_back old.nodes (p.done ++ p.waiting) (subst (IsDistinct eqb) whole distinct) in
    let few = length-le_from_distinct_below (p.done ++ p.waiting) (length graph) apart (λ q e. p.within q (contained (p.done ++ p.waiting) q e)) in
    omega (arith, few, ap length whole, length-append old.nodes (p.done ++ p.waiting))

-- at the end nothing waits
pub ended : (graph : List Node) (old now : Encoding) (edge : Edge) (literal : Lit) (place : ℕ) (p : IsProgress graph old now edge literal place) → length now.nodes ≤ place → now.nodes ≡ old.nodes ++ p.done
ended graph old now edge literal place p le = by p.waiting refl
  where
    by : (waiting : List ℕ) → p.waiting ≡ waiting → now.nodes ≡ old.nodes ++ p.done
    by [] e = p.nodes ∙ ap (λ w. (old.nodes ++ p.done) ++ w) e ∙ append-nil (old.nodes ++ p.done)
    by (k ∷ rest) e =
        absurd (omega (arith, le, p.at, ap length (p.nodes ∙ ap (λ w. (old.nodes ++ p.done) ++ w) e), length-append (old.nodes ++ p.done) (k ∷ rest)))
