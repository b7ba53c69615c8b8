-- Rows of an arena and the proofs that they stand for.
use Rattle.std.proofs.Common.{◌≡◌, ℕ, ◌+◌, ◌-◌, ◌<◌, ◌≤◌, List, [], ◌∷◌, ◌++◌, length, map, get_or, slice_get, Option, Some, sym, ap, ◌∙◌, subst, arith}
use Rattle.std.specs.Option.{option_map}
use Rattle.std.proofs.lemmas.List.{map_push, length-map, length-append}
use Rattle.std.proofs.lemmas.Option.{slice_get-map, slice_get-get_or}
use Rattle.eco_lists.proofs.Places.{slice_get-back}
use Rattle.eco_trace.specs.declared.clause.Lit.{Lit}
use Rattle.eco_trace.specs.declared.node.NodeId.{NodeId}
use Rattle.eco_trace.specs.declared.node.Link.{Link}
use Rattle.eco_trace.specs.declared.trace.Row.{Row}
use Rattle.eco_trace.specs.Rows.{learnt_of}
use Rattle.eco_trace.specs.Resolution.{Learnt, Proof, with_learnt, clauses_of, Gives, IsLegal, Learns}
use Rattle.eco_trace.specs.Stored.{IsStored}
use Rattle.eco_trace.proofs.ProofLaws.{gives_one, legal_push}

-- what is read at a place of the back
back_at : {A B C : Type 0} (g : B → C) (f : A → B) (front : List C) (xs : List A) (k j : ℕ) (x : A) → k ≡ length front + j → j < length xs → x ≡ get_or xs j x → slice_get (front ++ map g (map f xs)) k ≡ Some (g (f x))
back_at {A} {B} {C} g f front xs k j x e lt is =
    let found : slice_get xs j ≡ Some x = slice_get-get_or xs j x lt ∙ ap Some (sym is) in
    slice_get-back front (map g (map f xs)) k j e
    ∙ slice_get-map g (map f xs) j
    ∙ ap (option_map g) (slice_get-map f xs j)
    ∙ ap (λ (o : Option A). option_map g (option_map f o)) found

-- the clause of a row, at its place among all clauses
pub row_at : {O A : Type 0} (g : O → List Lit) (f : A → Learnt) (os : List O) (rows : List A) (p : Proof) (k first : ℕ) (x : A) → ◌≡◌ {A = Proof} (record { originals = map g os; learnt = map f rows }) p → k < length (clauses_of p) → first ≡ length os → first ≤ k → x ≡ get_or rows (k - first) x → slice_get (clauses_of p) k ≡ Some (f x).clause
row_at {O} {A} g f os rows p k first x view lt at le is =
    let clause : Learnt → List Lit = λ n. n.clause in
    let all : List (List Lit) = map g os ++ map clause (map f rows) in
    let lt' : k < length all = subst (λ (q : Proof). k < length (clauses_of q)) (sym view) lt in
    let len : length all ≡ length os + length rows = simp (length-append, length-map) in
    let start : length (map g os) ≡ length os = length-map os g in
    subst (λ (q : Proof). slice_get (clauses_of q) k ≡ Some (f x).clause) view
    (back_at clause f (map g os) rows k (k - first) x (omega arith) (omega arith) is)

-- one row more is one learnt clause more
row_added : (originals : List (List Lit)) (rows rows' : List Row) (row : Row) → rows' ≡ rows ++ row ∷ [] → ◌≡◌ {A = Proof} (record { originals = originals; learnt = map learnt_of rows' }) (with_learnt (record { originals = originals; learnt = map learnt_of rows }) (learnt_of row))
row_added originals rows rows' row e =
    let of : List Learnt → Proof = λ ls. record { originals = originals; learnt = ls } in
    ap of (ap (map learnt_of) e ∙ map_push learnt_of rows row)

-- a row as it was made
same_row : (row : Row) (start : NodeId) (links : List Link) (clause : List Lit) → row.start ≡ start → row.links.now ≡ links → row.clause.now ≡ clause → learnt_of row ≡ record { start = start; links = links; clause = clause }
same_row row start links clause e f g = cc

-- the proof with a row more has learnt what the row's chain gives
learnt_row : (originals : List (List Lit)) (rows rows' : List Row) (row : Row) (start : NodeId) (links : List Link) (clause : List Lit) → rows' ≡ rows ++ row ∷ [] → row.start ≡ start → row.links.now ≡ links → row.clause.now ≡ clause → ◌≡◌ {A = Proof} (record { originals = originals; learnt = map learnt_of rows' }) (with_learnt (record { originals = originals; learnt = map learnt_of rows }) (record { start = start; links = links; clause = clause }))
learnt_row originals rows rows' row start links clause at e f g =
    row_added originals rows rows' row at
    ∙ ap (λ (n : Learnt). with_learnt (record { originals = originals; learnt = map learnt_of rows }) n) (same_row row start links clause e f g)

-- it stays legal
legal_row : (originals : List (List Lit)) (rows rows' : List Row) (row : Row) (start : NodeId) (links : List Link) (clause : List Lit) → rows' ≡ rows ++ row ∷ [] → row.start ≡ start → row.links.now ≡ links → row.clause.now ≡ clause → (p : Proof) → p ≡ record { originals = originals; learnt = map learnt_of rows } → IsLegal (record { originals = originals; learnt = map learnt_of rows }) → Gives (clauses_of p) start links clause → IsLegal (record { originals = originals; learnt = map learnt_of rows' })
legal_row originals rows rows' row start links clause at e f g p same h given =
    let old : Proof = record { originals = originals; learnt = map learnt_of rows } in
    let given' : Gives (clauses_of old) start links clause = subst (λ (q : Proof). Gives (clauses_of q) start links clause) same given in
    let n : Learnt = record { start = start; links = links; clause = clause } in
    subst IsLegal (sym (learnt_row originals rows rows' row start links clause at e f g)) (legal_push old n h given')

-- it has one clause more
count_row : (originals : List (List Lit)) (rows rows' : List Row) (row : Row) (p : Proof) → rows' ≡ rows ++ row ∷ [] → p ≡ record { originals = originals; learnt = map learnt_of rows } → length (originals ++ map (λ (n : Learnt). n.clause) (map learnt_of rows')) ≡ length (clauses_of p) + 1
count_row originals rows rows' row p at same =
    let clause : Learnt → List Lit = λ n. n.clause in
    let old : length (clauses_of p) ≡ length (originals ++ map clause (map learnt_of rows)) = ap (λ (q : Proof). length (clauses_of q)) same in
    let old' : length (originals ++ map clause (map learnt_of rows)) ≡ length originals + length rows = simp (length-append, length-map) in
    let new : length (originals ++ map clause (map learnt_of rows')) ≡ length originals + length rows' = simp (length-append, length-map) in
    let more : length rows' ≡ length rows + 1 = ap length at ∙ length-append rows (row ∷ []) in
    omega arith

-- it stays one that memory has room for, where it had not the most clauses
pub stored_row : (originals : List (List Lit)) (rows rows' : List Row) (row : Row) (start : NodeId) (links : List Link) (clause : List Lit) → rows' ≡ rows ++ row ∷ [] → row.start ≡ start → row.links.now ≡ links → row.clause.now ≡ clause → (p : Proof) → p ≡ record { originals = originals; learnt = map learnt_of rows } → IsStored (record { originals = originals; learnt = map learnt_of rows }) → Gives (clauses_of p) start links clause → length (clauses_of p) < 9223372036854775807 → IsStored (record { originals = originals; learnt = map learnt_of rows' })
stored_row originals rows rows' row start links clause at e f g p same h given room = record {
  legal = legal_row originals rows rows' row start links clause at e f g p same h.legal given;
  few = let count = count_row originals rows rows' row p at same in omega (arith, count, room);
}

-- it has learnt just that
pub learns_row : (originals : List (List Lit)) (rows rows' : List Row) (row : Row) (start : NodeId) (links : List Link) (clause : List Lit) → rows' ≡ rows ++ row ∷ [] → row.start ≡ start → row.links.now ≡ links → row.clause.now ≡ clause → (p : Proof) → p ≡ record { originals = originals; learnt = map learnt_of rows } → Gives (clauses_of p) start links clause → Learns p (record { originals = originals; learnt = map learnt_of rows' }) start links
learns_row originals rows rows' row start links clause at e f g p same given = record {
  clause = clause;
  given = given;
  only = λ other gives. gives_one (clauses_of p) start links other clause gives given;
  added =
      learnt_row originals rows rows' row start links clause at e f g
      ∙ ap (λ (q : Proof). with_learnt q (record { start = start; links = links; clause = clause })) (sym same);
}
