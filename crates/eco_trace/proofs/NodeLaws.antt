-- Nodes of a proof, their clauses, and the nodes that their chains name.
use Rattle.std.proofs.Common.{◌≡◌, ℕ, zero, suc, ◌+◌, ◌<◌, ◌≤◌, List, [], ◌∷◌, ◌++◌, length, take, drop, map, slice_get, Some, refl, sym, ap, ◌∙◌, arith, All}
use Rattle.std.specs.Option.{option_map}
use Rattle.std.proofs.lemmas.List.{length-append, length-map, length-take, map-append, append_assoc, take-append-drop}
use Rattle.std.proofs.lemmas.List.Elements.{All-nil, All-cons, All-weaker}
use Rattle.std.proofs.lemmas.Option.{slice_get_within, slice_get-map, some_pair_parts}
use Rattle.eco_lists.proofs.Places.{item_at, slice_get-append_left, slice_get-back}
use Rattle.eco_trace.specs.declared.clause.Lit.{Lit}
use Rattle.eco_trace.specs.declared.node.NodeId.{NodeId}
use Rattle.eco_trace.specs.declared.node.Link.{Link}
use Rattle.eco_trace.specs.Resolution.{Proof, Learnt, Derives, IsLegal, clauses_before, clauses_of, chain_at, chain_of}

-- the first clauses of a proof, and the others
clauses_split : (p : Proof) (k : ℕ) → clauses_of p ≡ clauses_before p k ++ map (λ n. n.clause) (drop k p.learnt)
clauses_split p k =
    ap (λ list. p.originals ++ map (λ (n : Learnt). n.clause) list) (sym (take-append-drop k p.learnt)) ∙ ap (λ list. p.originals ++ list) (map-append (λ (n : Learnt). n.clause) (take k p.learnt) (drop k p.learnt)) ∙ sym (append_assoc p.originals (map (λ (n : Learnt). n.clause) (take k p.learnt)) (map (λ (n : Learnt). n.clause) (drop k p.learnt)))

-- an earlier clause of a proof is a clause of it
pub before_at : (p : Proof) (k j : ℕ) (clause : List Lit) → slice_get (clauses_before p k) j ≡ Some clause → slice_get (clauses_of p) j ≡ Some clause
before_at p k j clause at =
    ap (λ list. slice_get list j) (clauses_split p k) ∙ slice_get-append_left (clauses_before p k) (map (λ n. n.clause) (drop k p.learnt)) j clause at

-- the clause of a learnt node
pub clause_of_learnt : (p : Proof) (k : ℕ) (n : Learnt) → slice_get p.learnt k ≡ Some n → slice_get (clauses_of p) (length p.originals + k) ≡ Some n.clause
clause_of_learnt p k n at =
    slice_get-back p.originals (map (λ (n : Learnt). n.clause) p.learnt) (length p.originals + k) k refl ∙ slice_get-map (λ (n : Learnt). n.clause) p.learnt k ∙ ap (option_map (λ (n : Learnt). n.clause)) at

-- how many clauses a proof has, and how many stand before a learnt one
pub length_all : (p : Proof) → length (clauses_of p) ≡ length p.originals + length p.learnt
length_all p = simp (length-append, length-map)

pub length_before : (p : Proof) (k : ℕ) → k ≤ length p.learnt → length (clauses_before p k) ≡ length p.originals + k
length_before p k le =
    let a : length (clauses_before p k) ≡ length p.originals + length (take k p.learnt) = simp (length-append, length-map) in
    omega (arith, length-take k p.learnt)

-- the links of a chain name clauses that stand before
links_before : (before : List (List Lit)) (c : List Lit) (links : List Link) (r : List Lit) → Derives before c links r → All (λ link. link.with.0 < length before) links
links_before before c [] r d = All-nil (λ (link : Link). link.with.0 < length before)
links_before before c (link ∷ links) r (next, linked, more) =
    All-cons (λ (l : Link). l.with.0 < length before) link links
    (slice_get_within before link.with.0 linked.other linked.other_at) (links_before before next links r more)

-- a learnt clause that has a chain is there
chain_within : (ns : List Learnt) (i : ℕ) (chain : NodeId × List Link) → option_map chain_of (slice_get ns i) ≡ Some chain → i < length ns
chain_within [] i chain h = cc
chain_within (n ∷ ns) zero chain h = omega arith
chain_within (n ∷ ns) (suc i) chain h = let less : i < length ns = chain_within ns i chain h in omega arith

-- the learnt clause whose chain is known
pub learnt_at : (p : Proof) (k : ℕ) (start : NodeId) (links : List Link) → chain_at p k ≡ Some (start, links) → (n : Learnt) × (slice_get p.learnt k ≡ Some n) × (n.start ≡ start) × (n.links ≡ links)
learnt_at p k start links e =
    let within : k < length p.learnt = chain_within p.learnt k (start, links) e in
    let item = item_at p.learnt k within in
    let found : Some (chain_of item.0) ≡ Some (start, links) = sym (ap (option_map chain_of) item.1) ∙ e in
    let parts = some_pair_parts item.0.start start item.0.links links found in
    (item.0, item.1, parts.0, parts.1)

-- the nodes that the chain of a learnt clause names stand before it
pub chain_before : (p : Proof) (k : ℕ) (n : Learnt) → IsLegal p → slice_get p.learnt k ≡ Some n → (n.start.0 < length p.originals + k) × All (λ link. link.with.0 < length p.originals + k) n.links
chain_before p k n h at =
    let gives = h.chains k n at in
    let within = slice_get_within p.learnt k n at in
    let count = length_before p k (omega (arith, within)) in
    let start : n.start.0 < length (clauses_before p k) = slice_get_within (clauses_before p k) n.start.0 gives.begin gives.begin_at in
    let links = links_before (clauses_before p k) gives.begin n.links n.clause gives.derives in (
      omega (arith, start, count),
      All-weaker (λ (l : Link). l.with.0 < length (clauses_before p k)) (λ (l : Link). l.with.0 < length p.originals + k) (λ l lt. omega (arith, lt, count)) n.links links,
    )

-- they are nodes of the proof
pub chain_ids : (p : Proof) (k : ℕ) (n : Learnt) → IsLegal p → slice_get p.learnt k ≡ Some n → (n.start.0 < length (clauses_of p)) × All (λ link. link.with.0 < length (clauses_of p)) n.links
chain_ids p k n h at =
    let before = chain_before p k n h at in
    let start = before.0 in
    let within = slice_get_within p.learnt k n at in
    let count = length_all p in (
      omega (arith, start, within, count),
      All-weaker (λ (l : Link). l.with.0 < length p.originals + k) (λ (l : Link). l.with.0 < length (clauses_of p)) (λ l lt. omega (arith, lt, within, count)) n.links before.1,
    )
