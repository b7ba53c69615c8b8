-- Clauses put together, step by step.
use Rattle.std.proofs.Common.{◌≡◌, ◌≢◌, Bool, true, false, ℕ, ◌+◌, ◌-◌, ◌<◌, ◌≤◌, List, [], ◌∷◌, ◌++◌, length, get_or, take, drop, inl, inr, sym, ap, ◌∙◌, subst, arith, Contains, MatchBool, Some}
use Rattle.std.specs.List.{slice_get}
use Rattle.std.proofs.lemmas.Bool.{cases_lt}
use Rattle.std.proofs.lemmas.List.{get_or_default, get_or-take, length-take, take_more, take_all, take-append-drop}
use Rattle.std.proofs.lemmas.Option.{slice_get-get_or}
use Rattle.std.proofs.lemmas.List.Quantifiers.{all_pairs_push}
use Rattle.std.proofs.lemmas.List.Elements.{Contains-append_left, Contains-push, Contains-push_cases, Contains-get_or}
use Rattle.eco_lists.proofs.Members.{Contains_cases, Contains_first, Contains_later, Contains_none}
use Rattle.eco_trace.specs.declared.clause.Lit.{Lit}
use Rattle.eco_trace.specs.declared.clause.Var.{Var}
use Rattle.eco_trace.specs.Clauses.{IsClause, IsClauseOf, HasBothSigns, complement}
use Rattle.eco_trace.specs.Merging.{Either, IsUpTo, IsNonFalling, HasTaken, Takes, TakesUnless, Clashes, TakesLeast, IsUnion, IsMerging}
use Rattle.eco_trace.proofs.ClauseLaws.{clause_one_sided, clause_from, clause_rest, clause_none}

-- the first literal of the left clause is the least
least_left : (x : Lit) (xs ys : List Lit) → IsClause (x ∷ xs) → IsClause ys → ((b : Lit) → Contains ys b → x.var.0 ≤ b.var.0) → TakesLeast (x ∷ xs) ys x xs ys
least_left x xs ys h hs le = record {
  left_clause = clause_rest x xs h;
  right_clause = hs;
  here = inl (Contains_first x xs);
  later = λ l m. elim m [ inl a ↦ inl (Contains_later x l xs a) | inr b ↦ inr b ];
  split = λ l m. elim m [ inl a ↦ elim (Contains_cases x l xs a) [ inl e ↦ inl (sym e) | inr more ↦ inr (inl more) ] | inr b ↦ inr (inr b) ];
  least = λ l m. elim m [ inl a ↦ clause_from x xs h x.var.0 (omega arith) l (Contains_later x l xs a) | inr b ↦ le l b ];
  shorter = omega arith;
}

-- the first literal of the right clause is the least
least_right : (y : Lit) (xs ys : List Lit) → IsClause xs → IsClause (y ∷ ys) → ((a : Lit) → Contains xs a → y.var.0 ≤ a.var.0) → TakesLeast xs (y ∷ ys) y xs ys
least_right y xs ys hs h le = record {
  left_clause = hs;
  right_clause = clause_rest y ys h;
  here = inr (Contains_first y ys);
  later = λ l m. elim m [ inl a ↦ inl a | inr b ↦ inr (Contains_later y l ys b) ];
  split = λ l m. elim m [ inl a ↦ inr (inl a) | inr b ↦ elim (Contains_cases y l ys b) [ inl e ↦ inl (sym e) | inr more ↦ inr (inr more) ] ];
  least = λ l m. elim m [ inl a ↦ le l a | inr b ↦ clause_from y ys h y.var.0 (omega arith) l (Contains_later y l ys b) ];
  shorter = omega arith;
}

-- no literal of an empty list is below a number
pub none_below : (ds : List Lit) (n : ℕ) → length ds ≡ 0 → (b : Lit) → Contains ds b → n ≤ b.var.0
none_below ds n e b m = absurd (omega (arith, m.1))

-- no literal of a clause is below a number that the first one isn't below
pub from_first : (ds : List Lit) (y : Lit) (ys : List Lit) (n : ℕ) → ds ≡ y ∷ ys → IsClause ds → n ≤ y.var.0 → (b : Lit) → Contains ds b → n ≤ b.var.0
from_first ds y ys n e h le b m =
    clause_from y ys (subst (λ (ks : List Lit). IsClause ks) e h) n le b (subst (λ (ks : List Lit). Contains ks b) e m)

-- the first literal of the left clause is the least where the other has no lesser one
pub least_left_at : (cs ds : List Lit) (x : Lit) (xs : List Lit) → cs ≡ x ∷ xs → IsClause cs → IsClause ds → ((b : Lit) → Contains ds b → x.var.0 ≤ b.var.0) → TakesLeast cs ds x xs ds
least_left_at cs ds x xs e h hs le =
    let Q : List Lit → Type 0 = λ ks. IsClause ks → TakesLeast ks ds x xs ds in
    subst Q (sym e) (λ h'. least_left x xs ds h' hs le) h

-- the same on the right
pub least_right_at : (cs ds : List Lit) (y : Lit) (ys : List Lit) → ds ≡ y ∷ ys → IsClause cs → IsClause ds → ((a : Lit) → Contains cs a → y.var.0 ≤ a.var.0) → TakesLeast cs ds y cs ys
least_right_at cs ds y ys e hs h le =
    let Q : List Lit → Type 0 = λ ks. IsClause ks → TakesLeast cs ks y cs ys in
    subst Q (sym e) (λ h'. least_right y cs ys hs h' le) h

-- where the last literal's variable is another, all variables are below
last_below : (c : List Lit) (n : ℕ) → IsClause c → IsUpTo c n → ((l : Lit) → slice_get c (length c - 1) ≡ Some l → l.var.0 ≡ n → ⊥) → (k : ℕ) (d : Lit) → k < length c → (get_or c k d).var.0 < n
last_below c n h up other k d lt =
    let last : Lit = get_or c (length c - 1) d in
    let ne : last.var.0 ≡ n → ⊥ = other last (slice_get-get_or c (length c - 1) d (omega arith)) in
    let le : last.var.0 ≤ n = up last (Contains-get_or c (length c - 1) d (omega arith)) in
    elim (cases_lt k (length c - 1)) [
      | inl before ↦ let rises : (get_or c k d).var.0 < last.var.0 = h k (length c - 1) d before (omega arith) in omega arith
      | inr behind ↦
          let same : k ≡ length c - 1 = omega arith in
          let lt' : last.var.0 < n = omega arith in
          subst (λ (i : ℕ). (get_or c i d).var.0 < n) (sym same) lt'
    ]

-- a literal of a variable above all others is put behind them
pub takes_push : (c : List Lit) (x : Lit) → IsClause c → IsUpTo c x.var.0 → ((l : Lit) → slice_get c (length c - 1) ≡ Some l → l.var.0 ≡ x.var.0 → ⊥) → Takes c x (c ++ x ∷ [])
takes_push c x h up other = record {
  clause_itself = all_pairs_push (λ (a b : Lit). a.var.0 < b.var.0) c x h (last_below c x.var.0 h up other);
  up_to = λ l m. elim (Contains-push_cases c x l m) [ inl a ↦ up l a | inr e ↦ let same : x.var.0 ≡ l.var.0 = ap (λ (k : Lit). k.var.0) e in omega arith ];
  keeps = λ l m. Contains-append_left c (x ∷ []) l m;
  adds = Contains-push c x;
  only = λ l m. elim (Contains-push_cases c x l m) [ inl a ↦ inl a | inr e ↦ inr (sym e) ];
}

-- a literal of another variable than the pivot's is taken
takes_other : (pivot : Var) (old : List Lit) (x : Lit) (new : List Lit) → x.var ≢ pivot → Takes old x new → TakesUnless pivot old x new
takes_other pivot old x new ne t = record {
  clause_itself = t.clause_itself;
  up_to = t.up_to;
  keeps = t.keeps;
  adds = λ _. t.adds;
  only = λ l m. elim (t.only l m) [ inl a ↦ inl a | inr e ↦ inr (e, ne) ];
}

-- what putting a literal behind the others says, where the pivot's literals are left out
pub unless_from : (pivot : Var) (old : List Lit) (x : Lit) (new : List Lit) (fits : Bool) → x.var ≢ pivot → MatchBool fits (Takes old x new) (Contains old (complement x)) → MatchBool fits (TakesUnless pivot old x new) (Clashes pivot old x)
unless_from pivot old x new true ne t = takes_other pivot old x new ne t
unless_from pivot old x new false ne clash = record { variable = ne; clash = clash }

-- nothing is made yet
pub merging_start : (pivot : Var) (left right : List Lit) → IsClause left → IsClause right → IsMerging pivot left right [] left right
merging_start pivot left right hl hr = record {
  made_clause = clause_none;
  left_clause = hl;
  right_clause = hr;
  behind = λ a b m n. absurd (Contains_none a m);
  sound = λ l m. absurd (Contains_none l m);
  rest = λ l m. m;
  complete = λ l m ne. inr m;
}

-- what is made so far is no larger than the least of what is left
pub merging_up_to : (pivot : Var) (left right made xs ys : List Lit) (x : Lit) (xs' ys' : List Lit) → IsMerging pivot left right made xs ys → TakesLeast xs ys x xs' ys' → IsUpTo made x.var.0
merging_up_to pivot left right made xs ys x xs' ys' m t l in' = m.behind l x in' t.here

-- one literal more
pub merging_step : (pivot : Var) (left right made xs ys : List Lit) (x : Lit) (xs' ys' made' : List Lit) → IsMerging pivot left right made xs ys → TakesLeast xs ys x xs' ys' → TakesUnless pivot made x made' → IsMerging pivot left right made' xs' ys'
merging_step pivot left right made xs ys x xs' ys' made' m t u = record {
  made_clause = u.clause_itself;
  left_clause = t.left_clause;
  right_clause = t.right_clause;
  behind = λ a b in' out. let up : a.var.0 ≤ x.var.0 = u.up_to a in' in let least : x.var.0 ≤ b.var.0 = t.least b out in omega arith;
  sound = λ l in'. elim (u.only l in') [
    | inl old ↦ m.sound l old
    | inr new ↦ (
      subst (λ (k : Lit). Either left right k) (sym new.0) (m.rest x t.here),
      subst (λ (k : Lit). k.var ≢ pivot) (sym new.0) new.1,
    )
  ];
  rest = λ l out. m.rest l (t.later l out);
  complete = λ l in' ne. elim (m.complete l in' ne) [
    | inl old ↦ inl (u.keeps l old)
    | inr out ↦ elim (t.split l out) [
      | inl e ↦ inl (subst (λ (k : Lit). Contains made' k) (sym e) (u.adds (subst (λ (k : Lit). k.var ≢ pivot) e ne)))
      | inr more ↦ inr more
    ]
  ];
}

-- where a literal meets its complement there is no union
pub merging_clash : (pivot : Var) (left right made xs ys : List Lit) (x : Lit) (xs' ys' clause : List Lit) → IsMerging pivot left right made xs ys → TakesLeast xs ys x xs' ys' → Clashes pivot made x → IsUnion pivot left right clause → ⊥
merging_clash pivot left right made xs ys x xs' ys' clause m t c u =
    let there : Contains clause (complement x) = (u.members (complement x)).1 (m.sound (complement x) c.clash) in
    let here : Contains clause x = (u.members x).1 (m.rest x t.here, c.variable) in
    clause_one_sided clause u.clause_itself x here there

-- where nothing is left the union is made
pub merging_end : (pivot : Var) (left right made xs ys : List Lit) → IsMerging pivot left right made xs ys → xs ≡ [] → ys ≡ [] → IsUnion pivot left right made
merging_end pivot left right made xs ys m e f = record {
  clause_itself = m.made_clause;
  members = λ l. (
    λ in'. m.sound l in',
    λ out. elim (m.complete l out.0 out.1) [
      | inl there ↦ there
      | inr more ↦ elim more [
        | inl a ↦ absurd (Contains_none l (subst (λ (ks : List Lit). Contains ks l) e a))
        | inr b ↦ absurd (Contains_none l (subst (λ (ks : List Lit). Contains ks l) f b))
      ]
    ],
  );
}

-- a member of the front is a member
Contains-take : (xs : List Lit) (n : ℕ) (l : Lit) → Contains (take n xs) l → Contains xs l
Contains-take xs n l m = subst (λ (ks : List Lit). Contains ks l) (take-append-drop n xs) (Contains-append_left (take n xs) (drop n xs) l m)

-- no literal is taken yet
pub taken_start : (sorted : List Lit) → HasTaken sorted 0 []
taken_start sorted = record { clause_itself = clause_none; sound = λ l m. m; complete = λ l m. m }

-- what is taken is no larger than the next literal
pub taken_up_to : (sorted : List Lit) (i : ℕ) (d : Lit) (made : List Lit) → IsNonFalling sorted → i < length sorted → HasTaken sorted i made → IsUpTo made (get_or sorted i d).var.0
taken_up_to sorted i d made h lt t l m =
    let front = t.sound l m in
    let before : front.0 < i = omega (arith, front.1, length-take i sorted) in
    let e : get_or sorted front.0 l ≡ l = sym (get_or-take i sorted front.0 l before) ∙ front.2 in
    let le : (get_or sorted front.0 l).var.0 ≤ (get_or sorted i l).var.0 = h front.0 i l before lt in
    let same : get_or sorted i l ≡ get_or sorted i d = get_or_default sorted i l d lt in
    subst (λ (k : Lit). k.var.0 ≤ (get_or sorted i d).var.0) e (subst (λ (k : Lit). (get_or sorted front.0 l).var.0 ≤ k.var.0) same le)

-- one literal more is taken
pub taken_step : (sorted : List Lit) (i : ℕ) (d : Lit) (made new : List Lit) → i < length sorted → HasTaken sorted i made → Takes made (get_or sorted i d) new → HasTaken sorted (i + 1) new
taken_step sorted i d made new lt t u =
    let x : Lit = get_or sorted i d in
    let e : take (i + 1) sorted ≡ take i sorted ++ x ∷ [] = take_more sorted i d lt in
    record {
      clause_itself = u.clause_itself;
      sound =
          λ l m. subst (λ (ks : List Lit). Contains ks l) (sym e) (elim (u.only l m) [
            | inl old ↦ Contains-append_left (take i sorted) (x ∷ []) l (t.sound l old)
            | inr same ↦ subst (λ (k : Lit). Contains (take i sorted ++ x ∷ []) k) (sym same) (Contains-push (take i sorted) x)
          ]);
      complete =
          λ l m. elim (Contains-push_cases (take i sorted) x l (subst (λ (ks : List Lit). Contains ks l) e m)) [
            | inl old ↦ u.keeps l (t.complete l old)
            | inr same ↦ subst (λ (k : Lit). Contains new k) same u.adds
          ];
    }

-- a literal that meets its complement: both stand in the list
pub taken_clash : (sorted : List Lit) (i : ℕ) (d : Lit) (made : List Lit) → i < length sorted → HasTaken sorted i made → Contains made (complement (get_or sorted i d)) → HasBothSigns sorted
taken_clash sorted i d made lt t clash =
    let x : Lit = get_or sorted i d in
    (x, Contains-get_or sorted i d lt, Contains-take sorted i (complement x) (t.sound (complement x) clash))

-- all literals are taken
pub taken_end : (sorted : List Lit) (i : ℕ) (made : List Lit) → length sorted ≤ i → HasTaken sorted i made → IsClauseOf sorted made
taken_end sorted i made le t =
    let e : take i sorted ≡ sorted = take_all i sorted le in
    record {
      clause_itself = t.clause_itself;
      members = λ l. (
        λ m. subst (λ (ks : List Lit). Contains ks l) e (t.sound l m),
        λ m. t.complete l (subst (λ (ks : List Lit). Contains ks l) (sym e) m),
      );
    }
