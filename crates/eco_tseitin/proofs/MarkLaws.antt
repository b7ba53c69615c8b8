-- What adding marked clauses, one after another, leaves.
use Rattle.std.proofs.Common.{◌≡◌, ℕ, zero, suc, ◌+◌, ◌<◌, Bool, List, [], ◌∷◌, ◌++◌, length, get_or, take, map, replicate, refl, sym, ◌∙◌, ap, arith, append_assoc, add-one}
use Rattle.std.proofs.lemmas.List.{append-nil, map-append}
use Rattle.eco_trace.specs.declared.clause.Lit.{Lit}
use Rattle.eco_trace.specs.Adding.{AddsClausesOf, equality, with_clauses}
use Rattle.eco_trace.specs.Clauses.{Clauses}
use Rattle.eco_trace.proofs.AddingLaws.{adds_exactly, equality_clauses}
use Rattle.eco_tseitin.specs.declared.marked.Marked.{Marked}
use Rattle.eco_tseitin.specs.Joined.{equalities}
use Rattle.eco_tseitin.specs.Marking.{Adds}

pub adds_both : (old mid new : Marked) (front back : List (List Lit)) (mark : Bool) → Adds old mid front mark → Adds mid new back mark → Adds old new (front ++ back) mark
adds_both old mid new front back mark one two =
    let same : List Lit → Bool = λ clause. mark in
    record {
      vars = two.vars ∙ one.vars;
      clauses = two.clauses ∙ ap (λ list. list ++ back) one.clauses ∙ append_assoc old.cnf.clauses front back;
      marks = two.marks ∙ ap (λ list. list ++ map same back) one.marks ∙ append_assoc old.marks.items (map same front) (map same back) ∙ ap (λ list. old.marks.items ++ list) (sym (map-append same front back));
    }

-- the clauses of the next pair of literals
equalities_next : (lefts rights : List Lit) (k : ℕ) (a b : Lit) → k < length lefts → k < length rights → a ≡ get_or lefts k a → b ≡ get_or rights k b → equalities (take (suc k) lefts) (take (suc k) rights) ≡ equalities (take k lefts) (take k rights) ++ equality a b
equalities_next [] rights k a b l r at bt = absurd (omega arith)
equalities_next (x ∷ xs) [] k a b l r at bt = absurd (omega arith)
equalities_next (x ∷ xs) (y ∷ ys) zero a b l r at bt = append-nil (equality x y) ∙ ap (λ m. equality m y) (sym at) ∙ ap (equality a) (sym bt)
equalities_next (x ∷ xs) (y ∷ ys) (suc k) a b l r at bt =
    ap (λ list. equality x y ++ list) (equalities_next xs ys k a b (omega arith) (omega arith) at bt) ∙ sym (append_assoc (equality x y) (equalities (take k xs) (take k ys)) (equality a b))

pub equalities_more : (lefts rights : List Lit) (k : ℕ) (a b : Lit) → k < length lefts → k < length rights → a ≡ get_or lefts k a → b ≡ get_or rights k b → equalities (take (k + 1) lefts) (take (k + 1) rights) ≡ equalities (take k lefts) (take k rights) ++ equality a b
equalities_more lefts rights k a b l r at bt = rw add-one (equalities_next lefts rights k a b l r at bt)

-- a mark for each clause
pub marks_same : (mark : Bool) (clauses : List (List Lit)) → replicate (length clauses) mark ≡ map (λ clause. mark) clauses
marks_same mark [] = refl
marks_same mark (c ∷ cs) = ap (λ list. mark ∷ list) (marks_same mark cs)

-- the clauses of an equality with two marks
pub adds_equality : (old new : Marked) (a b : Lit) (mark : Bool) → a.var.0 < b.var.0 → AddsClausesOf old.cnf new.cnf (equality a b) → new.marks.items ≡ (old.marks.items ++ mark ∷ []) ++ mark ∷ [] → Adds old new (equality a b) mark
adds_equality old new a b mark lt adds marks = record {
  vars = adds.vars;
  clauses = adds_exactly old.cnf new.cnf (equality a b) (equality_clauses a b lt) adds;
  marks = marks ∙ append_assoc old.marks.items (mark ∷ []) (mark ∷ []);
}

-- any clauses, with as many marks
pub adds_replicated : (old new : Marked) (more : List (List Lit)) (count : ℕ) (mark : Bool) → new.cnf ≡ with_clauses old.cnf more → new.marks.items ≡ old.marks.items ++ replicate count mark → count ≡ length more → Adds old new more mark
adds_replicated old new more count mark is marks same = record {
  vars = ap (λ (c : Clauses). c.vars) is;
  clauses = ap (λ (c : Clauses). c.clauses) is;
  marks = marks ∙ ap (λ n. old.marks.items ++ replicate n mark) same ∙ ap (λ list. old.marks.items ++ list) (marks_same mark more);
}
