-- The clauses of a question, as they are put together.
use Rattle.std.proofs.Common.{◌≡◌, ◌≢◌, ℕ, Bool, true, false, List, [], ◌∷◌, ◌++◌, Option, Some, None, length, refl, sym, ◌∙◌, ap, subst, arith}
use Rattle.std.specs.List.{AllZip, Contains}
use Rattle.std.proofs.lemmas.List.Elements.{Contains-append_left}
use Rattle.eco_aig.specs.declared.edge.Edge.{Edge}
use Rattle.eco_aig.specs.declared.node.Node.{Node}
use Rattle.eco_aig.specs.Edges.{plain}
use Rattle.eco_trace.specs.declared.clause.Lit.{Lit}
use Rattle.eco_trace.specs.Adding.{AddsClausesOf, equality}
use Rattle.eco_trace.specs.Clauses.{Clauses, IsClauseOf, complement}
use Rattle.eco_tseitin.specs.Encoding.{Encoding, IsEncoding, IsLiteralOf, literal_of}
use Rattle.eco_tseitin.proofs.Places.{place_apart, literal_stays}
use Rattle.eco_merge.specs.Questions.{IsQuestion, edges_of, turned_literal, unlike_clauses}

turned_var : (same : Bool) (l : Lit) → (turned_literal same l).var.0 ≡ l.var.0
turned_var true l = refl
turned_var false l = refl

-- the literals of two nodes, in one encoding and in a later one
pub record AreLiterals (nodes : List ℕ) (n m : ℕ) (l k : Lit) : Type 0 where
  pub first_in : Contains nodes n
  pub second_in : Contains nodes m
  pub first_is : l ≡ literal_of nodes (plain n)
  pub second_is : k ≡ literal_of nodes (plain m)

-- their variables are two, whatever the signs
pub literals_apart : (nodes : List ℕ) (n m : ℕ) (same : Bool) (l k : Lit) → AreLiterals nodes n m l k → m ≢ n → (a b : Lit) → a.var.0 ≡ l.var.0 → b.var.0 ≡ (turned_literal same k).var.0 → a.var.0 ≢ b.var.0
literals_apart nodes n m same l k are ne a b a_is b_is e =
    let var_of : Lit → ℕ = λ x. x.var.0 in
    let one = ap var_of are.first_is in
    let two = ap var_of are.second_is in
    ne (sym (place_apart nodes n m are.first_in are.second_in (omega (arith, e, a_is, b_is, one, two, turned_var same k))))

-- what was added to an encoding of the nodes says that they aren't alike
pub posed_with : (nodes : List Node) (n : ℕ) (other : Option ℕ) (same : Bool) (encoding : Encoding) (base whole : Clauses) (wanted : List (List Lit)) → IsEncoding nodes (edges_of n other) [] encoding → base ≡ record { vars = length encoding.nodes; clauses = encoding.clauses } → wanted ≡ unlike_clauses encoding.nodes n other same → AddsClausesOf base whole wanted → IsQuestion nodes n other same whole
posed_with nodes n other same encoding base whole wanted encoded base_is wanted_is adds = record {
  encoding = encoding;
  encoded = encoded;
  vars = adds.vars ∙ ap (λ (c : Clauses). c.vars) base_is;
  added = adds.added;
  behind = adds.behind ∙ ap (λ (c : Clauses). c.clauses ++ adds.added) base_is;
  are_added = subst (λ list. AllZip IsClauseOf list adds.added) wanted_is adds.clauses_of;
}

-- the question of one node, and of two
pub posed_alone : (nodes : List Node) (n : ℕ) (same : Bool) (encoding : Encoding) (l k : Lit) (base whole : Clauses) → IsEncoding nodes (plain n ∷ []) [] encoding → l ≡ literal_of encoding.nodes (plain n) → k ≡ turned_literal same l → base ≡ record { vars = length encoding.nodes; clauses = encoding.clauses } → AddsClausesOf base whole ((k ∷ []) ∷ []) → IsQuestion nodes n None same whole
posed_alone nodes n same encoding l k base whole encoded l_is k_is base_is adds =
    posed_with nodes n None same encoding base whole ((k ∷ []) ∷ []) encoded base_is (ap (λ x. (x ∷ []) ∷ []) (k_is ∙ ap (turned_literal same) l_is)) adds

pub posed_pair : (nodes : List Node) (n m : ℕ) (same : Bool) (encoding : Encoding) (l k a t : Lit) (base whole : Clauses) → IsEncoding nodes (plain n ∷ plain m ∷ []) [] encoding → AreLiterals encoding.nodes n m l k → a ≡ complement l → t ≡ turned_literal same k → base ≡ record { vars = length encoding.nodes; clauses = encoding.clauses } → AddsClausesOf base whole (equality a t) → IsQuestion nodes n (Some m) same whole
posed_pair nodes n m same encoding l k a t base whole encoded are a_is t_is base_is adds =
    let wanted = ap (λ x. equality x t) (a_is ∙ ap complement are.first_is) ∙ ap (equality (complement (literal_of encoding.nodes (plain n)))) (t_is ∙ ap (turned_literal same) are.second_is) in
    posed_with nodes n (Some m) same encoding base whole (equality a t) encoded base_is wanted adds

-- the first node's literal stays where the second one is encoded
pub are_literals : (one two : List ℕ) (n m : ℕ) (e f : Edge) (l k : Lit) → e ≡ plain n → f ≡ plain m → IsLiteralOf one e l → (added : List ℕ) × (two ≡ one ++ added) → IsLiteralOf two f k → AreLiterals two n m l k
are_literals one two n m e f l k e_is f_is first grown second =
    let in_one : Contains one n = subst (λ (x : Edge). Contains one x.node) e_is first.has in
    record {
      first_in = subst (λ list. Contains list n) (sym grown.1) (Contains-append_left one grown.0 n in_one);
      second_in = subst (λ (x : Edge). Contains two x.node) f_is second.has;
      first_is = first.is ∙ ap (literal_of one) e_is ∙ sym (literal_stays one grown.0 (plain n) in_one) ∙ ap (λ list. literal_of list (plain n)) (sym grown.1);
      second_is = second.is ∙ ap (literal_of two) f_is;
    }
