-- Repetitions: that the bound on the number of steps never tells, and how a list is read element by element.
use Rattle.std.proofs.lemmas.List.{map-append, append-nil}
use Rattle.std.proofs.Common.{◌≡◌, ℕ, zero, suc, map, ◌<◌, ◌≤◌, Bool, true, false, List, [], ◌∷◌, ◌++◌, length, refl, ap, sym, ◌∙◌, arith, append_assoc, Option, Some, None}
use Rattle.std.specs.Prelude.{option_map, codes, ◌&&◌, if◌then◌else◌}
use Rattle.std.specs.Str.{bytes_eq}
use Rattle.eco_tokens.specs.Said.{Said}
use Rattle.eco_tokens.specs.Cells.{is_mark_kind}
use Rattle.eco_vread.specs.Fronts.{Found, Step, step_from, next_steps, steps_at, repeated, element_at, list_at, separator_at, end_with, name_at, name_from, term_at, term_from, mark_at, ◌>>=◌}
use Rattle.eco_vread.specs.Syntax.{Identifier, Term}
use Rattle.eco_vread.specs.Fronts.Step.{more, last}

-- what is found has at least one token
pub record Shrinks {X : Type 0} (read : List Said → Found X) : Type 0 where
  pub less : (ts us : List Said) (x : X) → read ts ≡ Some (x, us) → length us < length ts

-- a value that is there or not, with an equation
by_option : {A : Type 0} {P : Type 0} (o : Option A) → (o ≡ None → P) → ((x : A) → o ≡ Some x → P) → P
by_option None f g = f refl
by_option (Some x) f g = g x refl

-- only the rest behind the step that is found counts
next_same : {X Y : Type 0} (one two : List Said → Found (List X × Y)) (o : Found (Step X Y)) → ((us : List Said) (s : Step X Y) → o ≡ Some (s, us) → one us ≡ two us) → next_steps one o ≡ next_steps two o
next_same one two None h = refl
next_same one two (Some found) h = ap (λ r. step_from found.0 r found.1) (h found.1 found.0 refl)

-- nothing is found at the end
none_at_end : {X : Type 0} (read : List Said → Found X) → Shrinks read → read [] ≡ None
none_at_end read s = by_option (read []) (λ e. e) (λ x e. absurd (omega (arith, s.less [] x.1 x.0 e)))

pub enough : {X Y : Type 0} (step : List Said → Found (Step X Y)) → Shrinks step → (n m : ℕ) (ts : List Said) → length ts ≤ n → length ts ≤ m → steps_at step n ts ≡ steps_at step m ts
unfolding steps_at
enough step s zero zero ts h k = refl
enough step s zero (suc m) [] h k = rw (none_at_end step s) refl
enough step s zero (suc m) (t ∷ ts) h k = absurd (omega arith)
enough step s (suc n) zero [] h k = rw (none_at_end step s) refl
enough step s (suc n) zero (t ∷ ts) h k = absurd (omega arith)
enough step s (suc n) (suc m) ts h k =
    next_same (λ us. steps_at step n us) (λ us. steps_at step m us) (step ts) (λ us x e. let l : length us < length ts = s.less ts us x e in enough step s n m us (omega arith) (omega arith))

-- a repetition is a step and a repetition behind it
pub unrolled : {X Y : Type 0} (step : List Said → Found (Step X Y)) → Shrinks step → (ts : List Said) → repeated step ts ≡ next_steps (λ us. repeated step us) (step ts)
unfolding steps_at
unrolled step s [] = rw (none_at_end step s) refl
unrolled step s (t ∷ ts) =
    next_same (λ us. steps_at step (length ts) us) (λ us. repeated step us) (step (t ∷ ts)) (λ us x e. let l : length us < length (t ∷ ts) = s.less (t ∷ ts) us x e in enough step s (length ts) (length us) us (omega arith) (omega arith))

-- the tokens behind what is found
abbrev pub rest_of : {X : Type 0} → Found X → List Said
rest_of None = []
rest_of (Some found) = found.1

-- one token is left out where a test holds of it
some_less : (b : Bool) (t : Said) (ts us : List Said) → (if b then Some ts else None) ≡ Some us → length us < length (t ∷ ts)
some_less true t ts us h = let e : ts ≡ us = cc in omega (arith, ap length e)
some_less false t ts us h = absurd (cc)

mark_less : (text : List ℕ) (ts us : List Said) → mark_at text ts ≡ Some us → length us < length ts
unfolding mark_at
mark_less text [] us h = absurd (cc)
mark_less text (t ∷ ts) us h = some_less (is_mark_kind t.kind && bytes_eq t.text text) t ts us h

end_less : (mark : List ℕ) (ts us : List Said) (b : Bool) (comma : Option (List Said)) → ((vs : List Said) → comma ≡ Some vs → length vs < length ts) → ((vs : List Said) → mark_at mark ts ≡ Some vs → length vs < length ts) → (o : Option (List Said)) → mark_at mark ts ≡ o → end_with comma o ≡ Some (b, us) → length us < length ts
end_less mark ts us b (Some vs) h k o e f = let g : vs ≡ us = ap rest_of f in omega (arith, ap length g, h vs refl)
end_less mark ts us b None h k None e f = absurd (cc)
end_less mark ts us b None h k (Some vs) e f = let g : vs ≡ us = ap rest_of f in omega (arith, ap length g, k vs e)

separator_less : (mark : List ℕ) (ts us : List Said) (b : Bool) → separator_at mark ts ≡ Some (b, us) → length us < length ts
unfolding separator_at
separator_less mark ts us b h =
    end_less mark ts us b (mark_at (codes ",") ts) (mark_less (codes ",") ts) (mark_less mark ts) (mark_at mark ts) refl h

-- what a chain of two readers finds is what the second finds behind what the first finds
pub by_chain : {A B P : Type 0} (o : Option A) (f : A → Option B) (y : B) → (o >>= f) ≡ Some y → ((x : A) → o ≡ Some x → f x ≡ Some y → P) → P
by_chain None f y h k = absurd (cc)
by_chain (Some x) f y h k = k x refl h

-- an element with its mark has at least one token where the element has
pub elements_shrink : {X : Type 0} (read : List Said → Found X) (mark : List ℕ) → Shrinks read → Shrinks (element_at read mark)
unfolding element_at
elements_shrink read mark s = record {
  less = λ ts us x h.
      by_chain (read ts) _ _ h (λ found e f.
      by_chain (separator_at mark found.1) _ _ f (λ separator g k.
      let a : length found.1 < length ts = s.less ts found.1 found.0 e in
      let b : length separator.1 < length found.1 = separator_less mark found.1 separator.1 separator.0 g in
      omega (arith, ap (λ o. length (rest_of o)) k)));
}

-- the list with these elements in front
abbrev pub ahead : {X : Type 0} → List X → Found (List X) → Found (List X)
ahead front found = option_map (λ r. (front ++ r.0, r.1)) found

-- the repetition with these steps in front
abbrev pub behind : {X Y : Type 0} → List X → Found (List X × Y) → Found (List X × Y)
behind front found = option_map (λ r. ((front ++ r.0.0, r.0.1), r.1)) found

repeat_none : {X Y : Type 0} (step : List Said → Found (Step X Y)) → Shrinks step → (ts : List Said) → step ts ≡ None → repeated step ts ≡ None
repeat_none step s ts h = unrolled step s ts ∙ ap (next_steps (λ us. repeated step us)) h

repeat_last : {X Y : Type 0} (step : List Said → Found (Step X Y)) → Shrinks step → (ts us : List Said) (y : Y) → step ts ≡ Some (last y, us) → repeated step ts ≡ Some (([], y), us)
repeat_last step s ts us y h = unrolled step s ts ∙ ap (next_steps (λ us. repeated step us)) h

-- elements in front of one, and of what is found
behind_one : {X Y : Type 0} (front : List X) (x : X) (found : Found (List X × Y)) → behind front (option_map (λ r. ((x ∷ r.0.0, r.0.1), r.1)) found) ≡ behind (front ++ x ∷ []) found
behind_one front x None = refl
behind_one front x (Some found) = ap (λ l. Some ((l, found.0.1), found.1)) (sym (append_assoc front (x ∷ []) found.0.0))

repeat_more : {X Y : Type 0} (step : List Said → Found (Step X Y)) → Shrinks step → (ts us : List Said) (x : X) (front : List X) → step ts ≡ Some (more x, us) → behind front (repeated step ts) ≡ behind (front ++ x ∷ []) (repeated step us)
repeat_more step s ts us x front h =
    ap (behind front) (unrolled step s ts ∙ ap (next_steps (λ us. repeated step us)) h) ∙ behind_one front x (repeated step us)

-- a list of a repetition
list_of : {X : Type 0} → Found (List X × X) → Found (List X)
list_of found = option_map (λ r. (r.0.0 ++ r.0.1 ∷ [], r.1)) found

ahead_behind : {X : Type 0} (front : List X) (found : Found (List X × X)) → ahead front (list_of found) ≡ list_of (behind front found)
unfolding list_of
ahead_behind front None = refl
ahead_behind front (Some found) = ap (λ l. Some (l, found.1)) (sym (append_assoc front found.0.0 (found.0.1 ∷ [])))

is_list_of : {X : Type 0} (read : List Said → Found X) (mark : List ℕ) (ts : List Said) → list_at read mark ts ≡ list_of (repeated (element_at read mark) ts)
unfolding list_at list_of
is_list_of read mark ts = refl

list_none : {X : Type 0} (read : List Said → Found X) (mark : List ℕ) → Shrinks read → (ts : List Said) → element_at read mark ts ≡ None → list_at read mark ts ≡ None
unfolding list_at
list_none read mark s ts h = rw (repeat_none (element_at read mark) (elements_shrink read mark s) ts h) refl

list_last : {X : Type 0} (read : List Said → Found X) (mark : List ℕ) → Shrinks read → (ts us : List Said) (x : X) (front : List X) → element_at read mark ts ≡ Some (last x, us) → ahead front (list_at read mark ts) ≡ Some (front ++ x ∷ [], us)
unfolding list_at
list_last read mark s ts us x front h = rw (repeat_last (element_at read mark) (elements_shrink read mark s) ts us x h) refl

list_more : {X : Type 0} (read : List Said → Found X) (mark : List ℕ) → Shrinks read → (ts us : List Said) (x : X) (front : List X) → element_at read mark ts ≡ Some (more x, us) → ahead front (list_at read mark ts) ≡ ahead (front ++ x ∷ []) (list_at read mark us)
list_more read mark s ts us x front h =
    ap (ahead front) (is_list_of read mark ts) ∙ ahead_behind front (repeated (element_at read mark) ts)
    ∙ ap list_of (repeat_more (element_at read mark) (elements_shrink read mark s) ts us x front h)
    ∙ sym (ahead_behind (front ++ x ∷ []) (repeated (element_at read mark) us)) ∙ ap (ahead (front ++ x ∷ [])) (sym (is_list_of read mark us))

-- a value that is found in the first token
from_less : {X : Type 0} (o : Option X) (t : Said) (ts us : List Said) (x : X) → option_map {U = X × List Said} (λ i. (i, ts)) o ≡ Some (x, us) → length us < length (t ∷ ts)
from_less None t ts us x h = absurd (cc)
from_less (Some i) t ts us x h = let e : ts ≡ us = ap rest_of h in omega (arith, ap length e)

name_shrinks : (ts us : List Said) (x : Identifier) → name_at ts ≡ Some (x, us) → length us < length ts
unfolding name_at
name_shrinks [] us x h = absurd (cc)
name_shrinks (t ∷ ts) us x h = from_less (name_from t.kind t.text) t ts us x h

pub name_less : Shrinks name_at
name_less = record { less = name_shrinks }

term_shrinks : (ts us : List Said) (x : Term) → term_at ts ≡ Some (x, us) → length us < length ts
unfolding term_at
term_shrinks [] us x h = absurd (cc)
term_shrinks (t ∷ ts) us x h = from_less (term_from t.kind t.text) t ts us x h

pub term_less : Shrinks term_at
term_less = record { less = term_shrinks }

-- The same for a loop's step, where `all` is the list that is read.
pub fault_in_list : {X : Type 0} (read : List Said → Found X) (mark : List ℕ) → Shrinks read → (front : List X) (ts : List Said) (all : Found (List X)) → ahead front (list_at read mark ts) ≡ all → element_at read mark ts ≡ None → all ≡ None
fault_in_list read mark s front ts all invariant h = sym invariant ∙ ap (ahead front) (list_none read mark s ts h)

abbrev pub stepped : {X : Type 0} → Bool → X → Step X X
stepped is_more x = if is_more then more x else last x

pub end_of_list : {X Y : Type 0} (read : List Said → Found X) (mark : List ℕ) → Shrinks read → (view : Y → X) (names new : List Y) (x : Y) (is_more : Bool) (ts us : List Said) (all : Found (List X)) → ahead (map view names) (list_at read mark ts) ≡ all → element_at read mark ts ≡ Some (stepped is_more (view x), us) → is_more ≡ false → new ≡ names ++ x ∷ [] → all ≡ Some (map view new, us)
end_of_list read mark s view names new x is_more ts us all invariant h e n =
    let k : element_at read mark ts ≡ Some (last (view x), us) = h ∙ ap (λ b. Some (stepped b (view x), us)) e in
    sym invariant ∙ list_last read mark s ts us (view x) (map view names) k ∙ ap (λ l. Some (l, us)) (sym (ap (map view) n ∙ map-append view names (x ∷ [])))

pub step_of_list : {X Y : Type 0} (read : List Said → Found X) (mark : List ℕ) → Shrinks read → (view : Y → X) (names new : List Y) (x : Y) (is_more : Bool) (ts us : List Said) (all : Found (List X)) → ahead (map view names) (list_at read mark ts) ≡ all → element_at read mark ts ≡ Some (stepped is_more (view x), us) → is_more ≡ true → new ≡ names ++ x ∷ [] → ahead (map view new) (list_at read mark us) ≡ all
step_of_list read mark s view names new x is_more ts us all invariant h e n =
    let k : element_at read mark ts ≡ Some (more (view x), us) = h ∙ ap (λ b. Some (stepped b (view x), us)) e in
    ap (λ l. ahead l (list_at read mark us)) (ap (map view) n ∙ map-append view names (x ∷ [])) ∙ sym (list_more read mark s ts us (view x) (map view names) k) ∙ invariant

-- The same for a repetition, where `all` is what is read.
pub fault_in_steps : {X Y : Type 0} (step : List Said → Found (Step X Y)) → Shrinks step → (front : List X) (ts : List Said) (all : Found (List X × Y)) → behind front (repeated step ts) ≡ all → step ts ≡ None → all ≡ None
fault_in_steps step s front ts all invariant h = sym invariant ∙ ap (behind front) (repeat_none step s ts h)

pub end_of_steps : {X Y Z : Type 0} (step : List Said → Found (Step X Y)) → Shrinks step → (view : Z → Step X Y) (front : List X) (ts us : List Said) (z : Z) (y : Y) (all : Found (List X × Y)) → behind front (repeated step ts) ≡ all → step ts ≡ Some (view z, us) → view z ≡ last y → all ≡ Some ((front, y), us)
end_of_steps step s view front ts us z y all invariant h e =
    sym invariant ∙ ap (behind front) (repeat_last step s ts us y (h ∙ ap (λ q. Some (q, us)) e)) ∙ ap (λ l. Some ((l, y), us)) (append-nil front)

pub step_of_steps : {X Y Z : Type 0} (step : List Said → Found (Step X Y)) → Shrinks step → (view : Z → Step X Y) (front new : List X) (ts us : List Said) (z : Z) (x : X) (all : Found (List X × Y)) → behind front (repeated step ts) ≡ all → step ts ≡ Some (view z, us) → view z ≡ more x → new ≡ front ++ x ∷ [] → behind new (repeated step us) ≡ all
step_of_steps step s view front new ts us z x all invariant h e n =
    ap (λ l. behind l (repeated step us)) n ∙ sym (repeat_more step s ts us x front (h ∙ ap (λ q. Some (q, us)) e)) ∙ invariant

pub less_behind_step : {X Y Z : Type 0} (step : List Said → Found (Step X Y)) → Shrinks step → (view : Z → Step X Y) (ts us : List Said) (z : Z) → step ts ≡ Some (view z, us) → length us < length ts
less_behind_step step s view ts us z h = s.less ts us (view z) h

-- a list that is seen through a view, with one more
pub pushed : {X Y : Type 0} (view : Y → X) (old new : List Y) (y : Y) → new ≡ old ++ y ∷ [] → map view new ≡ map view old ++ view y ∷ []
pushed view old new y n = ap (map view) n ∙ map-append view old (y ∷ [])
