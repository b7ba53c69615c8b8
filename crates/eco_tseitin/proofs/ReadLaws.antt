-- What literals are read as: at edges, and at pairs that are equal.
use Rattle.std.proofs.Common.{◌≡◌, ℕ, Bool, true, false, not, cond, List, [], ◌∷◌, length, map, refl, ◌∙◌, ap, arith}
use Rattle.std.specs.List.{Contains}
use Rattle.std.proofs.lemmas.List.Elements.{All-nil, All-append}
use Rattle.eco_lists.proofs.Members.{map-map, All-front, All-back}
use Rattle.eco_lists.proofs.Places.{map_agree, Contains_at}
use Rattle.eco_aig.specs.declared.edge.Edge.{Edge}
use Rattle.eco_aig.specs.Edges.{value_of, bits_of}
use Rattle.eco_trace.specs.declared.clause.Lit.{Lit}
use Rattle.eco_trace.specs.declared.clause.Var.{Var}
use Rattle.eco_trace.specs.Adding.{equality}
use Rattle.eco_trace.specs.Clauses.{Valuation, HoldsIn, Satisfies, truth, read}
use Rattle.eco_trace.proofs.HoldingLaws.{equality_read, read_equality}
use Rattle.eco_tseitin.specs.Encoding.{variable_of, literal_of}
use Rattle.eco_tseitin.specs.Reading.{read_vars}
use Rattle.eco_tseitin.specs.Joined.{positive, equalities}

-- the nodes' variables have the bits of the nodes
abbrev pub HasBits : List ℕ → (ℕ → Bool) → Valuation → Type 0
HasBits nodes w v = (k : ℕ) → Contains nodes k → v (variable_of nodes k).0 ≡ w k

-- a bit against the opposite sign
pub sign_of : (c x : Bool) → cond (not c) x (not x) ≡ cond c (not x) x
sign_of true x = refl
sign_of false x = refl

-- an edge's literal is read as the edge's bit
pub truth_value : (nodes : List ℕ) (w : ℕ → Bool) (v : Valuation) (e : Edge) → HasBits nodes w v → Contains nodes e.node → truth v (literal_of nodes e) ≡ value_of w e
truth_value nodes w v e has c =
    sign_of e.complemented (v (variable_of nodes e.node).0) ∙ ap (λ x. cond e.complemented (not x) x) (has e.node c)

pub read_edges : (nodes : List ℕ) (w : ℕ → Bool) (v : Valuation) (edges : List Edge) → HasBits nodes w v → ((e : Edge) → Contains edges e → Contains nodes e.node) → read v (map (literal_of nodes) edges) ≡ bits_of w edges
read_edges nodes w v edges has each =
    map-map (literal_of nodes) (truth v) edges ∙ map_agree (λ e. truth v (literal_of nodes e)) (value_of w) edges (λ k e at. truth_value nodes w v e has (each e (Contains_at edges k e at)))

-- the clauses of equality hold where both lists are read alike
pub equalities_read : (v : Valuation) (xs ys : List Lit) → length xs ≡ length ys → Satisfies v (equalities xs ys) → read v xs ≡ read v ys
equalities_read v [] [] count h = refl
equalities_read v [] (y ∷ ys) count h = absurd (omega (arith, count))
equalities_read v (x ∷ xs) [] count h = absurd (omega (arith, count))
equalities_read v (x ∷ xs) (y ∷ ys) count h =
    let here = equality_read v x y (All-front (HoldsIn v) (equality x y) (equalities xs ys) h) in
    let later = equalities_read v xs ys (omega (arith, count)) (All-back (HoldsIn v) (equality x y) (equalities xs ys) h) in
    ap (λ bit. bit ∷ read v xs) here ∙ ap (λ list. truth v y ∷ list) later

pub read_equalities : (v : Valuation) (xs ys : List Lit) → read v xs ≡ read v ys → Satisfies v (equalities xs ys)
read_equalities v [] ys same = All-nil (HoldsIn v)
read_equalities v (x ∷ xs) [] same = All-nil (HoldsIn v)
read_equalities v (x ∷ xs) (y ∷ ys) same =
    let here : truth v x ≡ truth v y = cc in
    let later : read v xs ≡ read v ys = cc in
    All-append (HoldsIn v) (equality x y) (equalities xs ys) (read_equality v x y here) (read_equalities v xs ys later)

-- variables are read as their literals are
pub positives_read : (v : Valuation) (vars : List Var) → read v (map positive vars) ≡ read_vars v vars
positives_read v vars = map-map positive (truth v) vars
