-- What encoding and asserting, one after another, leaves.
use Rattle.std.proofs.Common.{◌≡◌, ℕ, ◌+◌, ◌<◌, List, [], ◌∷◌, ◌++◌, length, get_or, take, map, sym, ◌∙◌, ap, subst, inl, inr, append_assoc}
use Rattle.std.specs.List.{Contains, All}
use Rattle.std.proofs.lemmas.List.{append-nil, map_push, take_more}
use Rattle.std.proofs.lemmas.List.Elements.{All-map, Contains-get_or, Contains-append_left, Contains-push_cases}
use Rattle.eco_lists.proofs.Places.{map_agree, Contains_at}
use Rattle.eco_aig.specs.declared.edge.Edge.{Edge}
use Rattle.eco_aig.specs.declared.node.Node.{Node}
use Rattle.eco_trace.specs.declared.clause.Lit.{Lit}
use Rattle.eco_trace.specs.Clauses.{IsVarWithin}
use Rattle.eco_tseitin.specs.Encoding.{Encoding, IsEncoding, IsLiteralOf, literal_of}
use Rattle.eco_tseitin.proofs.Places.{literal_stays}
use Rattle.eco_tseitin.proofs.Naming.{literal_within}
use Rattle.eco_tseitin.specs.declared.sides.EncodedSide.{EncodedSide}
use Rattle.eco_tseitin.specs.Encoded.{IsEncoded, Encodes, Asserts}

-- the nodes of all these edges have variables
abbrev pub HaveAll : List ℕ → List Edge → Type 0
HaveAll nodes edges = (e : Edge) → Contains edges e → Contains nodes e.node

-- literals stay where more nodes have variables
pub literals_stay : (nodes more : List ℕ) (edges : List Edge) → HaveAll nodes edges → map (literal_of (nodes ++ more)) edges ≡ map (literal_of nodes) edges
literals_stay nodes more edges has =
    map_agree (literal_of (nodes ++ more)) (literal_of nodes) edges (λ k e at. literal_stays nodes more e (has e (Contains_at edges k e at)))

-- the variables of literals of edges are within
pub literals_within : (nodes : List ℕ) (edges : List Edge) → HaveAll nodes edges → All (IsVarWithin (length nodes)) (map (literal_of nodes) edges)
literals_within nodes edges has =
    All-map (IsVarWithin (length nodes)) (literal_of nodes) edges (λ k e lt. literal_within nodes (get_or edges k e) (has (get_or edges k e) (Contains-get_or edges k e lt)))

-- one more edge
encodes_push : (graph : List Node) (front : List Edge) (edge : Edge) (old mid new : Encoding) (lits : List Lit) (l : Lit) → Encodes graph front old mid lits → ((roots : List Edge) (asserted : List Lit) → IsEncoding graph roots asserted mid → IsEncoding graph (roots ++ edge ∷ []) asserted new) → IsLiteralOf new.nodes edge l → (added : List ℕ) × (new.nodes ≡ mid.nodes ++ added) → Encodes graph (front ++ edge ∷ []) old new (lits ++ l ∷ [])
encodes_push graph front edge old mid new lits l before one literal grown =
    let kept : (j : ℕ) → Contains mid.nodes j → Contains new.nodes j = λ j c. subst (λ list. Contains list j) (sym grown.1) (Contains-append_left mid.nodes grown.0 j c) in
    let stay : map (literal_of new.nodes) front ≡ map (literal_of mid.nodes) front = ap (λ nodes. map (literal_of nodes) front) grown.1 ∙ literals_stay mid.nodes grown.0 front before.has in
    record {
      encoding = λ roots asserted is. subst (λ edges. IsEncoding graph edges asserted new) (append_assoc roots front (edge ∷ [])) (one (roots ++ front) asserted (before.encoding roots asserted is));
      more = before.more ++ grown.0;
      nodes = grown.1 ∙ ap (λ nodes. nodes ++ grown.0) before.nodes ∙ append_assoc old.nodes before.more grown.0;
      has = λ e c. elim (Contains-push_cases front edge e c) [
        | inl earlier ↦ kept e.node (before.has e earlier)
        | inr same ↦ subst (λ (x : Edge). Contains new.nodes x.node) same literal.has
      ];
      literals = ap (λ list. list ++ l ∷ []) (before.literals ∙ sym stay) ∙ ap (λ x. map (literal_of new.nodes) front ++ x ∷ []) literal.is ∙ sym (map_push (literal_of new.nodes) front edge);
    }

pub encodes_more : (graph : List Node) (edges : List Edge) (k : ℕ) (d : Edge) (old mid new : Encoding) (lits : List Lit) (l : Lit) → k < length edges → Encodes graph (take k edges) old mid lits → ((roots : List Edge) (asserted : List Lit) → IsEncoding graph roots asserted mid → IsEncoding graph (roots ++ get_or edges k d ∷ []) asserted new) → IsLiteralOf new.nodes (get_or edges k d) l → (added : List ℕ) × (new.nodes ≡ mid.nodes ++ added) → Encodes graph (take (k + 1) edges) old new (lits ++ l ∷ [])
encodes_more graph edges k d old mid new lits l lt before one literal grown =
    subst (λ front. Encodes graph front old new (lits ++ l ∷ [])) (sym (take_more edges k d lt)) (encodes_push graph (take k edges) (get_or edges k d) old mid new lits l before one literal grown)

-- what was encoded first is so at the end
later_literals : (graph : List Node) (edges : List Edge) (old new : Encoding) (lits : List Lit) (more last : List ℕ) → Encodes graph edges old new lits → last ≡ new.nodes ++ more → lits ≡ map (literal_of last) edges
later_literals graph edges old new lits more last is grown =
    is.literals ∙ sym (literals_stay new.nodes more edges is.has) ∙ ap (λ nodes. map (literal_of nodes) edges) (sym grown)

-- inputs, base and asserted edges, one after another
pub encoded_all : (graph : List Node) (inputs base asserted : List Edge) (start one two three last : Encoding) (lits : List Lit) (made : EncodedSide) → IsEncoding graph [] [] start → Encodes graph inputs start one made.inputs.items → Encodes graph base one two made.base.items → Encodes graph asserted two three lits → Asserts lits three last → made.cnf ≡ record { vars = length last.nodes; clauses = last.clauses } → IsEncoded graph inputs base asserted made
encoded_all graph inputs base asserted start one two three last lits made is first second third held cnf =
    let whole : IsEncoding graph ((inputs ++ base) ++ asserted) [] three = third.encoding (inputs ++ base) [] (second.encoding inputs [] (first.encoding [] [] is)) in
    let are : lits ≡ map (literal_of last.nodes) asserted = later_literals graph asserted two three lits [] last.nodes third (held.nodes ∙ sym (append-nil three.nodes)) in
    record {
      side = last;
      encoding = subst (λ list. IsEncoding graph ((inputs ++ base) ++ asserted) list last) are (held.encoding graph ((inputs ++ base) ++ asserted) [] whole);
      cnf = cnf;
      inputs_are = later_literals graph inputs start one made.inputs.items (second.more ++ third.more) last.nodes first (held.nodes ∙ third.nodes ∙ ap (λ nodes. nodes ++ third.more) second.nodes ∙ append_assoc one.nodes second.more third.more);
      base_are = later_literals graph base one two made.base.items third.more last.nodes second (held.nodes ∙ third.nodes);
    }
