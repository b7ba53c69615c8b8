-- What an encoded side's models are, and how many variables it has.
use Rattle.std.proofs.Common.{◌≡◌, ℕ, ◌≤◌, ◌<◌, Bool, eqb, List, ◌++◌, length, get_or, map, sym, ◌∙◌, ap, subst, arith}
use Rattle.std.specs.List.{All, IsDistinct}
use Rattle.std.proofs.lemmas.Bool.{ne_eqb}
use Rattle.std.proofs.lemmas.List.{length-map}
use Rattle.std.proofs.lemmas.List.Elements.{All-map, All-contains, Contains-get_or, Contains-append_left, Contains-append_right}
use Rattle.std.proofs.lemmas.Map.Keys.{IsDistinct-from_apart}
use Rattle.std.proofs.lemmas.Map.Steps.{length-le_from_distinct_below}
use Rattle.eco_lists.proofs.Members.{Contains-map}
use Rattle.eco_aig.specs.declared.edge.Edge.{Edge}
use Rattle.eco_aig.specs.declared.node.Node.{Node}
use Rattle.eco_aig.specs.Edges.{bits_of}
use Rattle.eco_trace.specs.declared.clause.Lit.{Lit}
use Rattle.eco_trace.specs.Clauses.{Clauses, Valuation, IsTrueIn, Satisfies, IsVarWithin, read}
use Rattle.eco_aig.proofs.Reaching.{at_root}
use Rattle.eco_tseitin.specs.Encoding.{Encoding, IsEncoding, literal_of}
use Rattle.eco_tseitin.specs.Models.{HasNodeBits}
use Rattle.eco_tseitin.proofs.Modelled.{modelled_with, values_of, values_are}
use Rattle.eco_tseitin.proofs.Places.{contained}
use Rattle.eco_tseitin.specs.declared.sides.EncodedSide.{EncodedSide}
use Rattle.eco_tseitin.specs.Encoded.{IsEncoded}
use Rattle.eco_tseitin.specs.Reading.{Makes}
use Rattle.eco_tseitin.proofs.EncodeLaws.{HaveAll, literals_within}
use Rattle.eco_trace.proofs.HoldingLaws.{true_read, read_true}
use Rattle.eco_tseitin.proofs.ReadLaws.{HasBits, truth_value, read_edges}

-- the edges, encoded with others that are asserted
abbrev pub IsSide : List Node → List Edge → List Edge → Encoding → Type 0
IsSide graph edges asserted side = IsEncoding graph (edges ++ asserted) (map (literal_of side.nodes) asserted) side

-- the nodes of all of them have variables
pub edges_have : (graph : List Node) (edges asserted : List Edge) (side : Encoding) → IsSide graph edges asserted side → HaveAll side.nodes edges
edges_have graph edges asserted side is e c = (is.reached e.node).1 (at_root graph (edges ++ asserted) e (Contains-append_left edges asserted e c))

asserted_have : (graph : List Node) (edges asserted : List Edge) (side : Encoding) → IsSide graph edges asserted side → HaveAll side.nodes asserted
asserted_have graph edges asserted side is e c = (is.reached e.node).1 (at_root graph (edges ++ asserted) e (Contains-append_right edges asserted e c))

-- each model of the clauses is a valuation that makes the asserted edges 1
pub side_models : (graph : List Node) (edges asserted : List Edge) (side : Encoding) → IsSide graph edges asserted side → (v : Valuation) → Satisfies v side.clauses → (w : ℕ → Bool) × Makes graph asserted w × HasBits side.nodes w v
side_models graph edges asserted side is v holds =
    let lits = map (literal_of side.nodes) asserted in
    let both = (modelled_with graph (edges ++ asserted) lits side is v).0 holds in
    let has : HasNodeBits graph side.nodes v = both.0 in (
      has.bits,
      record {
        valuation = has.valuation;
        held = λ k d lt.
            let e = get_or asserted k d in
            let c = Contains-get_or asserted k d lt in
            sym (truth_value side.nodes has.bits v e has.same (asserted_have graph edges asserted side is e c)) ∙ true_read v (literal_of side.nodes e) (All-contains (IsTrueIn v) lits (literal_of side.nodes e) both.1 (Contains-map (literal_of side.nodes) asserted e c));
      },
      has.same,
    )

-- each such valuation gives the variables the values of a model
pub side_answers : (graph : List Node) (edges asserted : List Edge) (side : Encoding) → IsSide graph edges asserted side → (w : ℕ → Bool) → Makes graph asserted w → Satisfies (values_of side.nodes w) side.clauses
side_answers graph edges asserted side is w makes =
    let v = values_of side.nodes w in
    let has : HasNodeBits graph side.nodes v = record { bits = w; valuation = makes.valuation; same = values_are side.nodes w } in
    let held : All (IsTrueIn v) (map (literal_of side.nodes) asserted) = All-map (IsTrueIn v) (literal_of side.nodes) asserted (λ k d lt.
    let e = get_or asserted k d in
    read_true v (literal_of side.nodes e) (truth_value side.nodes w v e (values_are side.nodes w) (asserted_have graph edges asserted side is e (Contains-get_or asserted k d lt)) ∙ makes.held k d lt)) in
    (modelled_with graph (edges ++ asserted) (map (literal_of side.nodes) asserted) side is v).1 (has, held)

-- no more variables than the graph has nodes
pub side_few : (graph : List Node) (edges asserted : List Edge) (side : Encoding) → IsSide graph edges asserted side → length side.nodes ≤ length graph
side_few graph edges asserted side is =
    let distinct : IsDistinct eqb side.nodes = IsDistinct-from_apart eqb side.nodes (λ i j d before within. ne_eqb (get_or side.nodes i d) (get_or side.nodes j d) (is.once i j d before within)) in
    length-le_from_distinct_below side.nodes (length graph) distinct (λ k found. All-contains (λ n. n < length graph) side.nodes k is.within (contained side.nodes k found))

-- what an encoded side's clauses and literals say
pub record IsRead (graph : List Node) (inputs base asserted : List Edge) (made : EncodedSide) : Type 0 where
  pub models : (v : Valuation) → Satisfies v made.cnf.clauses → (w : ℕ → Bool) × Makes graph asserted w × (read v made.inputs.items ≡ bits_of w inputs) × (read v made.base.items ≡ bits_of w base)
  pub answers : (w : ℕ → Bool) → Makes graph asserted w → (v : Valuation) × Satisfies v made.cnf.clauses × (read v made.inputs.items ≡ bits_of w inputs) × (read v made.base.items ≡ bits_of w base)
  pub inputs_within : All (IsVarWithin made.cnf.vars) made.inputs.items
  pub base_within : All (IsVarWithin made.cnf.vars) made.base.items
  pub few : made.cnf.vars ≤ length graph
  pub count : length made.base.items ≡ length base

pub is_read : (graph : List Node) (inputs base asserted : List Edge) (made : EncodedSide) → IsEncoded graph inputs base asserted made → IsRead graph inputs base asserted made
is_read graph inputs base asserted made is =
    let nodes = is.side.nodes in
    let vars : made.cnf.vars ≡ length nodes = ap (λ (cnf : Clauses). cnf.vars) is.cnf in
    let clauses : made.cnf.clauses ≡ is.side.clauses = ap (λ (cnf : Clauses). cnf.clauses) is.cnf in
    let have = edges_have graph (inputs ++ base) asserted is.side is.encoding in
    let have_inputs : HaveAll nodes inputs = λ e c. have e (Contains-append_left inputs base e c) in
    let have_base : HaveAll nodes base = λ e c. have e (Contains-append_right inputs base e c) in
    let read_inputs : (w : ℕ → Bool) (v : Valuation) → HasBits nodes w v → read v made.inputs.items ≡ bits_of w inputs = λ w v has. ap (read v) is.inputs_are ∙ read_edges nodes w v inputs has have_inputs in
    let read_base : (w : ℕ → Bool) (v : Valuation) → HasBits nodes w v → read v made.base.items ≡ bits_of w base = λ w v has. ap (read v) is.base_are ∙ read_edges nodes w v base has have_base in
    let within : (edges : List Edge) (lits : List Lit) → HaveAll nodes edges → lits ≡ map (literal_of nodes) edges → All (IsVarWithin made.cnf.vars) lits = λ edges lits each are. subst (λ n. All (IsVarWithin n) lits) (sym vars) (subst (All (IsVarWithin (length nodes))) (sym are) (literals_within nodes edges each)) in
    record {
      models = λ v holds.
          let found = side_models graph (inputs ++ base) asserted is.side is.encoding v (subst (Satisfies v) clauses holds) in
          (found.0, found.1, read_inputs found.0 v found.2, read_base found.0 v found.2);
      answers = λ w makes.
          let v = values_of nodes w in
          let has = values_are nodes w in
          (v, subst (Satisfies v) (sym clauses) (side_answers graph (inputs ++ base) asserted is.side is.encoding w makes), read_inputs w v has, read_base w v has);
      inputs_within = within inputs made.inputs.items have_inputs is.inputs_are;
      base_within = within base made.base.items have_base is.base_are;
      few = omega (arith, vars, side_few graph (inputs ++ base) asserted is.side is.encoding);
      count = ap length is.base_are ∙ length-map base (literal_of nodes);
    }
