-- How the reading of clauses goes on, piece by piece.
use Rattle.std.proofs.Common.{◌≡◌, ◌↔◌, Bool, true, false, cond, ℕ, ◌≤◌, List, [], ◌∷◌, ◌++◌, get_or, All, MatchBool, IsTrue, inl, inr, refl, sym, ap, ◌∙◌, subst, arith, codes, decimal}
use Rattle.std.proofs.lemmas.List.{append_assoc}
use Rattle.std.proofs.lemmas.Bool.{false≢true}
use Rattle.std.proofs.lemmas.Fmt.{first_decimal, decimal_injective}
use Rattle.eco_trace.specs.declared.clause.Lit.{Lit}
use Rattle.eco_trace.specs.Clauses.{Clauses, IsClauseOf, with_clause}
use Rattle.eco_trace.specs.Clauses.{HasBothSigns, IsVarWithin}
use Rattle.eco_trace.proofs.ClauseLaws.{clause_same}
use Rattle.eco_trace.proofs.SortLaws.{clause_not_both}
use Rattle.eco_prooftext.proofs.WordReadLaws.{no_sign, rest_of}
use Rattle.eco_prooftext.specs.declared.reader.Body.{Body}
use Rattle.eco_prooftext.specs.CnfFile.{Piece, Word, IsLiteral, IsNext, Falls}
use Rattle.eco_prooftext.specs.Reading.{Continues, Leads, IsStuck, Closes, Opens}

-- signs and numbers are told by their texts
sign_parts : (p q : Bool) (m n : ℕ) → 1 ≤ m → m ≤ 9223372036854775807 → 1 ≤ n → n ≤ 9223372036854775807 → cond p [] (codes "-") ++ decimal m ≡ cond q [] (codes "-") ++ decimal n → (p ≡ q) × (m ≡ n)
sign_parts true true m n a b c d e = (refl, decimal_injective m n (omega arith) (omega arith) e)
sign_parts true false m n a b c d e = absurd (no_sign m (decimal n) a b e)
sign_parts false true m n a b c d e = absurd (no_sign n (decimal m) c d (sym e))
sign_parts false false m n a b c d e =
    (refl, decimal_injective m n (omega arith) (omega arith) (ap rest_of e))

-- a word is one literal
pub lit_once : (vars : ℕ) (word : List ℕ) (a b : Lit) → IsLiteral vars word a → IsLiteral vars word b → a ≡ b
lit_once vars word a b h i =
    let parts = sign_parts a.positive b.positive a.var.0 b.var.0 h.within.first h.limit i.within.first i.limit (sym h.text ∙ i.text) in
    let of : Bool → ℕ → Lit = λ p n. record { var = record { 0 = n }; positive = p } in
    ap (λ (p : Bool). of p a.var.0) parts.0 ∙ ap (of b.positive) parts.1

zero_apart : (p : Bool) (n : ℕ) → 1 ≤ n → n ≤ 9223372036854775807 → cond p [] (codes "-") ++ decimal n ≡ codes "0" → ⊥
zero_apart true n a b e =
    let first = first_decimal n (omega arith) (omega arith) in
    let same : get_or (decimal n) 0 0 ≡ 48 = ap (λ (l : List ℕ). get_or l 0 0) e in
    omega (arith, first, same)
zero_apart false n a b e =
    let same : 45 ≡ 48 = ap (λ (l : List ℕ). get_or l 0 0) e in
    omega (arith, same)

-- the word that ends a clause is no literal
pub end_no_lit : (vars : ℕ) (lit : Lit) → IsLiteral vars (codes "0") lit → ⊥
end_no_lit vars lit h = zero_apart lit.positive lit.var.0 h.within.first h.limit (sym h.text)

-- literals make one clause
pub next_once : (vars : ℕ) (lits c d : List Lit) → IsNext vars lits c → IsNext vars lits d → c ≡ d
next_once vars lits c d h i =
    clause_same c d h.clause_of.clause_itself i.clause_of.clause_itself
    (λ l m. (i.clause_of.members l).1 ((h.clause_of.members l).0 m))
    (λ l m. (h.clause_of.members l).1 ((i.clause_of.members l).0 m))

pub falls_same : (v w : ℕ) (a b : List Lit) (ps : List Piece) (cs : List (List Lit)) → v ≡ w → a ≡ b → Falls v a ps cs → Falls w b ps cs
falls_same v w a b ps cs e f h = subst (λ (n : ℕ). Falls n b ps cs) e (subst (λ (l : List Lit). Falls v l ps cs) f h)

open_onward : (word : List ℕ) (old new : Body) (rest : List Piece) (c : Clauses) → (word ≡ codes "0" → ⊥) → Opens word old new → (k : Continues old (Word word ∷ rest) c) → Falls old.cnf.vars old.lits.items (Word word ∷ rest) k.more → Continues new rest c
open_onward word old new rest c apart o k (inl ended) = absurd (apart ended.0)
open_onward word old new rest c apart o k (inr (lit, is, falls)) =
    let same : lit ≡ o.lit = lit_once old.cnf.vars word lit o.lit is o.is in
    let vars : old.cnf.vars ≡ new.cnf.vars = ap (λ (d : Clauses). d.vars) (sym o.cnf_kept) in
    let lits : old.lits.items ++ lit ∷ [] ≡ new.lits.items = ap (λ (x : Lit). old.lits.items ++ x ∷ []) same ∙ sym o.lits_more in
    record {
      vars_same = k.vars_same ∙ vars;
      count_same = k.count_same ∙ sym o.count_kept;
      more = k.more;
      clauses_all = k.clauses_all ∙ ap (λ (d : Clauses). d.clauses ++ k.more) (sym o.cnf_kept);
      falls = falls_same _ _ _ _ rest k.more vars lits falls;
    }

open_back : (word : List ℕ) (old new : Body) (rest : List Piece) (c : Clauses) → Opens word old new → Continues new rest c → Continues old (Word word ∷ rest) c
open_back word old new rest c o k =
    let vars : new.cnf.vars ≡ old.cnf.vars = ap (λ (d : Clauses). d.vars) o.cnf_kept in
    record {
      vars_same = k.vars_same ∙ vars;
      count_same = k.count_same ∙ o.count_kept;
      more = k.more;
      clauses_all = k.clauses_all ∙ ap (λ (d : Clauses). d.clauses ++ k.more) o.cnf_kept;
      falls = inr (o.lit, o.is, falls_same _ _ _ _ rest k.more vars o.lits_more k.falls);
    }

-- a literal's word
open_leads : (word : List ℕ) (old new : Body) → (word ≡ codes "0" → ⊥) → Opens word old new → Leads Continues old (Word word ∷ []) new
open_leads word old new apart o = λ rest c. (λ k. open_onward word old new rest c apart o k k.falls, λ k. open_back word old new rest c o k)

open_refused : (word : List ℕ) (vars : ℕ) (lits : List Lit) (rest : List Piece) (more : List (List Lit)) → (word ≡ codes "0" → ⊥) → ((lit : Lit) → IsLiteral vars word lit → ⊥) → Falls vars lits (Word word ∷ rest) more → ⊥
open_refused word vars lits rest more apart none (inl ended) = apart ended.0
open_refused word vars lits rest more apart none (inr (lit, is, falls)) = none lit is

-- a word that is no literal
open_stuck : (word : List ℕ) (old : Body) → (word ≡ codes "0" → ⊥) → ((lit : Lit) → IsLiteral old.cnf.vars word lit → ⊥) → IsStuck Continues old (Word word ∷ [])
open_stuck word old apart none = λ rest c k. open_refused word old.cnf.vars old.lits.items rest k.more apart none k.falls

close_onward : (old new : Body) (rest : List Piece) (c : Clauses) → Closes old new → (k : Continues old (Word (codes "0") ∷ rest) c) → Falls old.cnf.vars old.lits.items (Word (codes "0") ∷ rest) k.more → Continues new rest c
close_onward old new rest c o k (inr (lit, is, falls)) = absurd (end_no_lit old.cnf.vars lit is)
close_onward old new rest c o k (inl (zero', (clause, more, cut, next, falls))) =
    let same : clause ≡ o.clause = next_once old.cnf.vars old.lits.items clause o.clause next o.next in
    let vars : old.cnf.vars ≡ new.cnf.vars = ap (λ (d : Clauses). d.vars) (sym o.cnf_more) in
    let all : c.clauses ≡ (old.cnf.clauses ++ o.clause ∷ []) ++ more =
    k.clauses_all
    ∙ ap (λ (l : List (List Lit)). old.cnf.clauses ++ l) (cut ∙ ap (λ (x : List Lit). x ∷ more) same)
    ∙ sym (append_assoc old.cnf.clauses (o.clause ∷ []) more) in
    record {
      vars_same = k.vars_same ∙ vars;
      count_same = k.count_same ∙ sym o.count_kept;
      more = more;
      clauses_all = all ∙ ap (λ (d : Clauses). d.clauses ++ more) (sym o.cnf_more);
      falls = falls_same _ _ _ _ rest more vars (sym o.lits_none) falls;
    }

close_back : (old new : Body) (rest : List Piece) (c : Clauses) → Closes old new → Continues new rest c → Continues old (Word (codes "0") ∷ rest) c
close_back old new rest c o k =
    let vars : new.cnf.vars ≡ old.cnf.vars = ap (λ (d : Clauses). d.vars) o.cnf_more in
    record {
      vars_same = k.vars_same ∙ vars;
      count_same = k.count_same ∙ o.count_kept;
      more = o.clause ∷ k.more;
      clauses_all = k.clauses_all ∙ ap (λ (d : Clauses). d.clauses ++ k.more) o.cnf_more ∙ append_assoc old.cnf.clauses (o.clause ∷ []) k.more;
      falls = inl (refl, (o.clause, k.more, refl, o.next, falls_same _ _ _ _ rest k.more vars o.lits_none k.falls));
    }

-- the end of a clause
close_leads : (word : List ℕ) (old new : Body) → word ≡ codes "0" → Closes old new → Leads Continues old (Word word ∷ []) new
close_leads word old new e o =
    subst (λ (w : List ℕ). Leads Continues old (Word w ∷ []) new) (sym e)
    (λ rest c. (λ k. close_onward old new rest c o k k.falls, λ k. close_back old new rest c o k))

close_refused : (vars : ℕ) (lits : List Lit) (rest : List Piece) (more : List (List Lit)) → ((clause : List Lit) → IsNext vars lits clause → ⊥) → Falls vars lits (Word (codes "0") ∷ rest) more → ⊥
close_refused vars lits rest more none (inl (zero', (clause, others, cut, next, falls))) = none clause next
close_refused vars lits rest more none (inr (lit, is, falls)) = end_no_lit vars lit is

-- the end of what is no clause
close_stuck : (word : List ℕ) (old : Body) → word ≡ codes "0" → ((clause : List Lit) → IsNext old.cnf.vars old.lits.items clause → ⊥) → IsStuck Continues old (Word word ∷ [])
close_stuck word old e none =
    subst (λ (w : List ℕ). IsStuck Continues old (Word w ∷ [])) (sym e)
    (λ rest c k. close_refused old.cnf.vars old.lits.items rest k.more none k.falls)

-- some items, then others with which there is no outcome, and more
pub stuck_more : {S X : Type 0} (P : S → List X → Clauses → Type 0) (s t : S) (xs ys zs all : List X) → all ≡ xs ++ (ys ++ zs) → Leads P s xs t → IsStuck P t ys → IsStuck P s all
stuck_more P s t xs ys zs all e f g = λ rest c k.
    let joined : all ++ rest ≡ xs ++ (ys ++ (zs ++ rest)) =
    ap (λ l. l ++ rest) e ∙ append_assoc xs (ys ++ zs) rest ∙ ap (λ l. xs ++ l) (append_assoc ys zs rest) in
    g (zs ++ rest) c ((f (ys ++ (zs ++ rest)) c).0 (subst (λ l. P s l c) joined k))

-- literals that hold a variable with both signs make no clause
pub no_next : (vars : ℕ) (lits kept : List Lit) → HasBothSigns kept → kept ≡ lits → (clause : List Lit) → IsNext vars lits clause → ⊥
no_next vars lits kept both e clause next = clause_not_both lits clause next.clause_of (subst HasBothSigns e both)

-- the clause that was made, and whether it was added
pub closes_by : (old new : Body) (kept clause : List Lit) (added : Bool) → kept ≡ old.lits.items → IsClauseOf kept clause → (IsTrue added ↔ All (IsVarWithin old.cnf.vars) clause) → new.cnf ≡ cond added (with_clause old.cnf clause) old.cnf → new.lits.items ≡ [] → new.count ≡ old.count → MatchBool added (Closes old new) ((d : List Lit) → IsNext old.cnf.vars old.lits.items d → ⊥)
closes_by old new kept clause true e of within cnf lits count = record {
  clause = clause;
  next = record { clause_of = subst (λ (l : List Lit). IsClauseOf l clause) e of; within = within.0 refl };
  cnf_more = cnf;
  lits_none = lits;
  count_kept = count;
}
closes_by old new kept clause false e of within cnf lits count = λ d next.
    let mine : IsClauseOf old.lits.items clause = subst (λ (l : List Lit). IsClauseOf l clause) e of in
    let same : d ≡ clause =
    clause_same d clause next.clause_of.clause_itself mine.clause_itself
    (λ l m. (mine.members l).1 ((next.clause_of.members l).0 m))
    (λ l m. (next.clause_of.members l).1 ((mine.members l).0 m)) in
    false≢true (within.1 (subst (λ (l : List Lit). All (IsVarWithin old.cnf.vars) l) same next.within))

-- what became of a word
pub word_closed : (word : List ℕ) (old new : Body) (fits : Bool) → word ≡ codes "0" → MatchBool fits (Closes old new) ((clause : List Lit) → IsNext old.cnf.vars old.lits.items clause → ⊥) → MatchBool fits (Leads Continues old (Word word ∷ []) new) (IsStuck Continues old (Word word ∷ []))
word_closed word old new true e h = close_leads word old new e h
word_closed word old new false e h = close_stuck word old e h

pub word_opened : (word : List ℕ) (old new : Body) (fits : Bool) → (word ≡ codes "0" → ⊥) → MatchBool fits (Opens word old new) ((lit : Lit) → IsLiteral old.cnf.vars word lit → ⊥) → MatchBool fits (Leads Continues old (Word word ∷ []) new) (IsStuck Continues old (Word word ∷ []))
word_opened word old new true apart h = open_leads word old new apart h
word_opened word old new false apart h = open_stuck word old apart h
