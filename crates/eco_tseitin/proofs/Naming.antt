-- Nodes that are given variables, and the clauses of one node.
use Rattle.std.proofs.Common.{◌≡◌, ◌≢◌, ℕ, zero, suc, ◌+◌, ◌<◌, ◌⊎◌, inl, inr, Bool, true, false, cond, eqb, ltb, List, [], ◌∷◌, ◌++◌, Some, None, length, get_or, refl, sym, ◌∙◌, ap, subst, arith, append_assoc, eqb-true}
use Rattle.std.specs.List.{slice_get, Contains, All, AllPairs, AllZip, list_any, position, position_or_len}
use Rattle.std.specs.Option.{option_map, option_and_then, unwrap_or}
use Rattle.std.proofs.lemmas.List.{append-nil}
use Rattle.std.proofs.lemmas.Option.{none-some, same_Some, slice_get_within, slice_get-get_or}
use Rattle.std.proofs.lemmas.Bool.{true≢false}
use Rattle.std.proofs.lemmas.List.Quantifiers.{position-Some}
use Rattle.std.proofs.lemmas.List.Elements.{All-nil, All-cons, Contains-append_left, Contains-append_cases, Contains-push}
use Rattle.eco_lists.proofs.Members.{only_one, Contains_none}
use Rattle.eco_aig.proofs.Conjunctions.{pair_at_node}
use Rattle.indexmap.specs.IndexSet.{insert_key}
use Rattle.eco_aig.specs.declared.edge.Edge.{Edge}
use Rattle.eco_aig.specs.declared.node.Node.{Node}
use Rattle.eco_aig.specs.declared.node.Node.TheVariants.{Zero, Input, And}
use Rattle.eco_aig.specs.Edges.{plain}
use Rattle.eco_aig.specs.Graph.{IsGraph, AreOperands, pair_of, pair_at}
use Rattle.eco_trace.specs.declared.clause.Lit.{Lit}
use Rattle.eco_trace.specs.Clauses.{IsClauseOf, IsVarWithin, complement}
use Rattle.eco_tseitin.specs.Encoding.{Encoding, variable_of, literal_of, conjunction_clauses, node_clauses, clauses_at}
use Rattle.eco_tseitin.specs.Steps.{IsNamed, AddsClauses, AddsConjunction, AddsNode, IsOperand, of_first, of_second}
use Rattle.eco_tseitin.proofs.Places.{place_of, place_stands, place_apart, literal_stays, contained, container}
use Rattle.eco_tseitin.proofs.Closed.{pair_here}

-- a node that is inserted has a variable
pub named : (old new : Encoding) (k : ℕ) → new.nodes ≡ insert_key eqb old.nodes k → new.clauses ≡ old.clauses → IsNamed old new k
named old new k keys clauses = by (list_any (eqb k) old.nodes) refl
  where
    by : (b : Bool) → list_any (eqb k) old.nodes ≡ b → IsNamed old new k
    by true e =
        let same : new.nodes ≡ old.nodes = keys ∙ ap (λ c. cond c old.nodes (old.nodes ++ k ∷ [])) e in
        record {
          clauses = clauses;
          has = subst (λ list. Contains list k) (sym same) (contained old.nodes k e);
          cases = inl same;
          had = λ _. same;
        }
    by false e =
        let more : new.nodes ≡ old.nodes ++ k ∷ [] = keys ∙ ap (λ c. cond c old.nodes (old.nodes ++ k ∷ [])) e in
        record {
          clauses = clauses;
          has = subst (λ list. Contains list k) (sym more) (Contains-push old.nodes k);
          cases = inr more;
          had = λ c. absurd (true≢false (sym (container old.nodes k c) ∙ e));
        }

-- what was added: nothing, or the node
pub record IsFollowed (old new : Encoding) (k : ℕ) : Type 0 where
  pub more : List ℕ
  pub nodes : new.nodes ≡ old.nodes ++ more
  pub only : (j : ℕ) → Contains more j → j ≡ k

pub followed : (old new : Encoding) (k : ℕ) → IsNamed old new k → IsFollowed old new k
followed old new k is = elim is.cases [
  | inl same ↦ record { more = []; nodes = same ∙ sym (append-nil old.nodes); only = λ j c. absurd (Contains_none j c) }
  | inr more ↦ record { more = k ∷ []; nodes = more; only = λ j c. sym (only_one k j c) }
]

-- a node that has a variable keeps it
still_has : (old new : Encoding) (more : List ℕ) (j : ℕ) → new.nodes ≡ old.nodes ++ more → Contains old.nodes j → Contains new.nodes j
still_has old new more j e c = subst (λ list. Contains list j) (sym e) (Contains-append_left old.nodes more j c)

still_literal : (old new : Encoding) (more : List ℕ) (e : Edge) → new.nodes ≡ old.nodes ++ more → Contains old.nodes e.node → literal_of new.nodes e ≡ literal_of old.nodes e
still_literal old new more e same c = ap (λ list. literal_of list e) same ∙ literal_stays old.nodes more e c

-- the literal of an edge whose node has a variable is within the variables
pub literal_within : (nodes : List ℕ) (e : Edge) → Contains nodes e.node → IsVarWithin (length nodes) (literal_of nodes e)
literal_within nodes e c =
    let place = slice_get_within nodes (place_of nodes e.node) e.node (place_stands nodes e.node c) in
    record { first = omega arith; last = omega (arith, place) }

-- literals of different nodes have different variables
literals_apart : (nodes : List ℕ) (e f : Edge) → Contains nodes e.node → Contains nodes f.node → e.node ≢ f.node → (literal_of nodes e).var.0 ≢ (literal_of nodes f).var.0
literals_apart nodes e f ce cf ne same = ne (place_apart nodes e.node f.node ce cf (omega (arith, same)))

-- an and-node and its operands have variables, and these are their literals
pub record AreThree (old new : Encoding) (k : ℕ) (first second : Edge) (n a b : Lit) : Type 0 where
  pub clauses : new.clauses ≡ old.clauses
  pub more : List ℕ
  pub nodes : new.nodes ≡ old.nodes ++ more
  pub only : (j : ℕ) → Contains more j → (j ≡ first.node) ⊎ (j ≡ second.node)
  pub has : Contains new.nodes k
  pub has_first : Contains new.nodes first.node
  pub has_second : Contains new.nodes second.node
  pub n_is : n ≡ literal_of new.nodes (plain k)
  pub a_is : a ≡ literal_of new.nodes first
  pub b_is : b ≡ literal_of new.nodes second

pub three_named : (old one two three : Encoding) (k : ℕ) (first second : Edge) (n a b : Lit) → Contains old.nodes k → IsNamed old one k → IsNamed one two first.node → IsNamed two three second.node → n ≡ literal_of one.nodes (plain k) → a ≡ literal_of two.nodes first → b ≡ literal_of three.nodes second → AreThree old three k first second n a b
three_named old one two three k first second n a b c is_one is_two is_three n_is a_is b_is =
    let to_two = followed one two first.node is_two in
    let to_three = followed two three second.node is_three in
    let same : one.nodes ≡ old.nodes = is_one.had c in
    let k_one : Contains one.nodes k = subst (λ list. Contains list k) (sym same) c in
    let k_two = still_has one two to_two.more k to_two.nodes k_one in
    record {
      clauses = is_three.clauses ∙ is_two.clauses ∙ is_one.clauses;
      more = to_two.more ++ to_three.more;
      nodes = to_three.nodes ∙ ap (λ list. list ++ to_three.more) (to_two.nodes ∙ ap (λ list. list ++ to_two.more) same) ∙ append_assoc old.nodes to_two.more to_three.more;
      only = λ j at. elim (Contains-append_cases to_two.more to_three.more j at) [ inl x ↦ inl (to_two.only j x) | inr x ↦ inr (to_three.only j x) ];
      has = still_has two three to_three.more k to_three.nodes k_two;
      has_first = still_has two three to_three.more first.node to_three.nodes is_two.has;
      has_second = is_three.has;
      n_is = n_is ∙ sym (still_literal one two to_two.more (plain k) to_two.nodes k_one) ∙ sym (still_literal two three to_three.more (plain k) to_three.nodes k_two);
      a_is = a_is ∙ sym (still_literal two three to_three.more first to_three.nodes is_two.has);
      b_is = b_is;
    }

pub three_within : (old new : Encoding) (k : ℕ) (first second : Edge) (n a b : Lit) → AreThree old new k first second n a b → All (IsVarWithin (length new.nodes)) (n ∷ a ∷ b ∷ [])
three_within old new k first second n a b are =
    let within = IsVarWithin (length new.nodes) in
    All-cons within n (a ∷ b ∷ []) (subst within (sym are.n_is) (literal_within new.nodes (plain k) are.has))
    (All-cons within a (b ∷ []) (subst within (sym are.a_is) (literal_within new.nodes first are.has_first))
    (All-cons within b [] (subst within (sym are.b_is) (literal_within new.nodes second are.has_second)) (All-nil within)))

-- three literals of which no two have one variable
three_pairs : (R : Lit → Lit → Type 0) (x y z : Lit) → R x y → R x z → R y z → AllPairs R (x ∷ y ∷ z ∷ [])
three_pairs R x y z xy xz yz zero zero d lt within = absurd (omega (arith, lt))
three_pairs R x y z xy xz yz zero (suc zero) d lt within = xy
three_pairs R x y z xy xz yz zero (suc (suc zero)) d lt within = xz
three_pairs R x y z xy xz yz (suc zero) (suc (suc zero)) d lt within = yz
three_pairs R x y z xy xz yz (suc i) zero d lt within = absurd (omega (arith, lt))
three_pairs R x y z xy xz yz (suc i) (suc zero) d lt within = absurd (omega (arith, lt))
three_pairs R x y z xy xz yz (suc (suc i)) (suc (suc zero)) d lt within = absurd (omega (arith, lt))
three_pairs R x y z xy xz yz i (suc (suc (suc j))) d lt within = absurd (omega (arith, within))

pub three_apart : (old new : Encoding) (k : ℕ) (first second : Edge) (n a b : Lit) → AreOperands k first second → AreThree old new k first second n a b → AllPairs (λ l m. l.var.0 ≢ m.var.0) (n ∷ a ∷ b ∷ [])
three_apart old new k first second n a b operands are =
    let var_of : Lit → ℕ = λ l. l.var.0 in
    let n_a : n.var.0 ≢ a.var.0 = λ e. literals_apart new.nodes (plain k) first are.has are.has_first (omega (arith, operands.second, operands.before)) (ap var_of (sym are.n_is) ∙ e ∙ ap var_of are.a_is) in
    let n_b : n.var.0 ≢ b.var.0 = λ e. literals_apart new.nodes (plain k) second are.has are.has_second (omega (arith, operands.before)) (ap var_of (sym are.n_is) ∙ e ∙ ap var_of are.b_is) in
    let a_b : a.var.0 ≢ b.var.0 = λ e. literals_apart new.nodes first second are.has_first are.has_second (omega (arith, operands.second)) (ap var_of (sym are.a_is) ∙ e ∙ ap var_of are.b_is) in
    three_pairs (λ l m. l.var.0 ≢ m.var.0) n a b n_a n_b a_b

-- the literals whose clauses are added have the variables of the three
signs_apart : (n a b : Lit) (i : ℕ) (d : Lit) → i < 3 → (get_or (n ∷ complement a ∷ complement b ∷ []) i d).var.0 ≡ (get_or (n ∷ a ∷ b ∷ []) i d).var.0
signs_apart n a b zero d lt = refl
signs_apart n a b (suc zero) d lt = refl
signs_apart n a b (suc (suc zero)) d lt = refl
signs_apart n a b (suc (suc (suc i))) d lt = absurd (omega (arith, lt))

pub last_apart : (n a b : Lit) (items : List Lit) → items ≡ n ∷ complement a ∷ complement b ∷ [] → AllPairs (λ l m. l.var.0 ≢ m.var.0) (n ∷ a ∷ b ∷ []) → AllPairs (λ l m. l.var.0 ≢ m.var.0) items
last_apart n a b items e apart =
    subst (AllPairs (λ l m. l.var.0 ≢ m.var.0)) (sym e) (λ i j d lt within same. apart i j d lt within (sym (signs_apart n a b i d (omega (arith, lt, within))) ∙ same ∙ signs_apart n a b j d within))

pub conjunction_added : (old mid new : Encoding) (k : ℕ) (first second : Edge) (n a b : Lit) → AreThree old mid k first second n a b → AddsClauses mid new (conjunction_clauses n a b) → AddsConjunction old new k first second
conjunction_added old mid new k first second n a b are adds = record {
  more = are.more;
  nodes = adds.nodes ∙ are.nodes;
  only = are.only;
  first = subst (λ list. Contains list first.node) (sym adds.nodes) are.has_first;
  second = subst (λ list. Contains list second.node) (sym adds.nodes) are.has_second;
  made = adds.made;
  behind = adds.behind ∙ ap (λ list. list ++ adds.made) are.clauses;
  are = subst (λ wanted. AllZip IsClauseOf wanted adds.made) all adds.are;
}
  where
    n_new : n ≡ literal_of new.nodes (plain k)
    n_new = are.n_is ∙ ap (λ list. literal_of list (plain k)) (sym adds.nodes)

    a_new : a ≡ literal_of new.nodes first
    a_new = are.a_is ∙ ap (λ list. literal_of list first) (sym adds.nodes)

    b_new : b ≡ literal_of new.nodes second
    b_new = are.b_is ∙ ap (λ list. literal_of list second) (sym adds.nodes)

    all : conjunction_clauses n a b ≡ conjunction_clauses (literal_of new.nodes (plain k)) (literal_of new.nodes first) (literal_of new.nodes second)
    all = ap (λ l. conjunction_clauses l a b) n_new ∙ ap (λ l. conjunction_clauses (literal_of new.nodes (plain k)) l b) a_new ∙ ap (λ l. conjunction_clauses (literal_of new.nodes (plain k)) (literal_of new.nodes first) l) b_new

-- no operands but at an and-node
no_operand : (graph : List Node) (k j : ℕ) → pair_at graph k ≡ None → IsOperand graph k j → ⊥
no_operand graph k _ e (of_first a b pair) = none-some (a, b) (sym e ∙ pair)
no_operand graph k _ e (of_second a b pair) = none-some (a, b) (sym e ∙ pair)

-- the constant
pub constant_added : (graph : List Node) (old new : Encoding) (k : ℕ) → IsGraph graph → k ≡ 0 → AddsClauses old new ((complement (literal_of old.nodes (plain 0)) ∷ []) ∷ []) → AddsNode graph old new k
constant_added graph old new k is e adds =
    let at : slice_get graph k ≡ Some Zero = ap (slice_get graph) e ∙ is.constant in
    let wanted : clauses_at graph new.nodes k ≡ (complement (literal_of old.nodes (plain 0)) ∷ []) ∷ [] = ap (λ o. unwrap_or (option_map (node_clauses new.nodes k) o) []) at ∙ ap (λ i. (complement (literal_of new.nodes (plain i)) ∷ []) ∷ []) e ∙ ap (λ list. (complement (literal_of list (plain 0)) ∷ []) ∷ []) adds.nodes in
    record {
      more = [];
      nodes = adds.nodes ∙ sym (append-nil old.nodes);
      only = λ j c. absurd (Contains_none j c);
      operands = λ j operand. absurd (no_operand graph k j (ap (option_and_then pair_of) at) operand);
      made = adds.made;
      behind = adds.behind;
      are = subst (λ list. AllZip IsClauseOf list adds.made) (sym wanted) adds.are;
    }

-- an and-node
and_operands : (graph : List Node) (nodes : List ℕ) (k j : ℕ) (a b : Edge) → pair_at graph k ≡ Some (a, b) → Contains nodes a.node → Contains nodes b.node → IsOperand graph k j → Contains nodes j
and_operands graph nodes k _ a b pair ca cb (of_first x y other) =
    let same : (a, b) ≡ (x, y) = same_Some (a, b) (x, y) (sym pair ∙ other) in
    subst (Contains nodes) (ap (λ (p : Edge × Edge). p.0.node) same) ca
and_operands graph nodes k _ a b pair ca cb (of_second x y other) =
    let same : (a, b) ≡ (x, y) = same_Some (a, b) (x, y) (sym pair ∙ other) in
    subst (Contains nodes) (ap (λ (p : Edge × Edge). p.1.node) same) cb

pub and_added : (graph : List Node) (old new : Encoding) (k : ℕ) (a b : Edge) → pair_at graph k ≡ Some (a, b) → AddsConjunction old new k a b → AddsNode graph old new k
and_added graph old new k a b pair adds = record {
  more = adds.more;
  nodes = adds.nodes;
  only = λ j c. elim (adds.only j c) [
    | inl e ↦ subst (IsOperand graph k) (sym e) (of_first a b pair)
    | inr e ↦ subst (IsOperand graph k) (sym e) (of_second a b pair)
  ];
  operands = λ j operand. and_operands graph new.nodes k j a b pair adds.first adds.second operand;
  made = adds.made;
  behind = adds.behind;
  are = subst (λ list. AllZip IsClauseOf list adds.made) (sym (ap (λ o. unwrap_or (option_map (node_clauses new.nodes k) o) []) (pair_at_node graph k a b pair))) adds.are;
}

-- an input
pub input_added : (graph : List Node) (old : Encoding) (k : ℕ) → IsGraph graph → (k ≡ 0 → ⊥) → k < length graph → pair_at graph k ≡ None → AddsNode graph old old k
input_added graph old k is ne lt none = record {
  more = [];
  nodes = sym (append-nil old.nodes);
  only = λ j c. absurd (Contains_none j c);
  operands = λ j operand. absurd (no_operand graph k j none operand);
  made = [];
  behind = sym (append-nil old.clauses);
  are = subst (λ list. AllZip IsClauseOf list []) (sym (by (get_or graph k Zero) (slice_get-get_or graph k Zero lt))) tt;
}
  where
    by : (node : Node) → slice_get graph k ≡ Some node → clauses_at graph old.nodes k ≡ []
    by Zero at = absurd (ne (sym (is.distinct 0 k Zero is.constant at)))
    by (Input number) at = ap (λ o. unwrap_or (option_map (node_clauses old.nodes k) o) []) at
    by (And a b) at = absurd (none-some (a, b) (sym none ∙ pair_here graph k a b at))

-- the variable of a node that was found
pub found_variable : (nodes : List ℕ) (k place : ℕ) → Some place ≡ position (eqb k) nodes → Contains nodes k × (record { 0 = place + 1 } ≡ variable_of nodes k)
found_variable nodes k place e =
    (contained_at, ap (λ p. record { 0 = p + 1 }) (by (ltb (position_or_len (eqb k) nodes) (length nodes)) refl))
  where
    contained_at : Contains nodes k
    contained_at =
        let at = position-Some (eqb k) nodes place k (sym e) in
        (place, at.0, sym (eqb-true k (get_or nodes place k) at.1))

    by : (b : Bool) → ltb (position_or_len (eqb k) nodes) (length nodes) ≡ b → place ≡ position_or_len (eqb k) nodes
    by true t = same_Some place (position_or_len (eqb k) nodes) (e ∙ ap (λ c. cond c (Some (position_or_len (eqb k) nodes)) None) t)
    by false t = absurd (none-some place (sym (e ∙ ap (λ c. cond c (Some (position_or_len (eqb k) nodes)) None) t)))
