-- The smallest of names that have an error.
use Rattle.std.proofs.Common.{◌≡◌, ℕ, zero, suc, ◌+◌, ◌<◌, Bool, true, false, List, [], ◌∷◌, ◌++◌, length, get_or, take, cond, Option, Some, None, refl, sym, ◌∙◌, ap, arith, Ordering}
use Rattle.std.specs.declared.cmp.Ordering.TheVariants.{Less, Equal, Greater}
use Rattle.std.specs.Cmp.Lexicographic.{slice_cmp}
use Rattle.std.specs.List.{All, Contains}
use Rattle.std.specs.Option.{option_copied, MatchOption}
use Rattle.std.specs.Ordering.{nat_cmp, ordering_reverse, is_lt}
use denote.Ref.{Bor}
use Rattle.std.proofs.lemmas.Bool.{false_from_ne_true, false≢true}
use Rattle.std.proofs.lemmas.Cmp.{nat_list_cmp_total, tied_itself}
use Rattle.std.proofs.lemmas.List.{take_more}
use Rattle.std.proofs.lemmas.List.Elements.{All-append, All-contains, All-weaker}
use Rattle.eco_netlist.proofs.CircleLemmas.{no_later_through}
use Rattle.eco_netlist.specs.Refusals.{IsFirst, IsNoLater, NeverComes}
use Rattle.eco_query.specs.Ports.{IsLeastOf, earlier_of}

abbrev cmp : List ℕ → List ℕ → Ordering
cmp = slice_cmp nat_cmp

-- the smallest of one name that has the error
pub least-one : (fault : List ℕ → Bool) (name : List ℕ) → fault name ≡ true → IsLeastOf fault (name ∷ []) (Some name)
least-one fault name e = (e, only)
  where
    only : All (λ other. fault other ≡ true → IsNoLater name other) (name ∷ [])
    only zero d within has less = cc (less, tied_itself nat_list_cmp_total name)
    only (suc k) d within has less = absurd (omega arith)

-- one name has no error
pub none-one : (fault : List ℕ → Bool) (name : List ℕ) → fault name ≡ false → IsLeastOf fault (name ∷ []) None
none-one fault name e zero d within = e
none-one fault name e (suc k) d within = absurd (omega arith)

-- none of these has the error, so that any name goes before those that do
none-after : (fault : List ℕ → Bool) (least : List ℕ) (list : List (List ℕ)) → All (λ name. fault name ≡ false) list → All (λ other. fault other ≡ true → IsNoLater least other) list
none-after fault least list none =
    All-weaker (λ name. fault name ≡ false) (λ other. fault other ≡ true → IsNoLater least other)
    (λ other no yes. absurd (false≢true (sym no ∙ yes))) list none

-- what goes behind a name goes behind an earlier one
further : (fault : List ℕ → Bool) (a b : List ℕ) (list : List (List ℕ)) → IsNoLater a b → All (λ other. fault other ≡ true → IsNoLater b other) list → All (λ other. fault other ≡ true → IsNoLater a other) list
further fault a b list first all =
    All-weaker (λ other. fault other ≡ true → IsNoLater b other) (λ other. fault other ≡ true → IsNoLater a other)
    (λ other h yes. no_later_through a b other first (h yes)) list all

earlier-two : (fault : List ℕ → Bool) (xs ys : List (List ℕ)) (a b : List ℕ) → IsLeastOf fault xs (Some a) → IsLeastOf fault ys (Some b) → (o : Ordering) → cmp b a ≡ o → IsLeastOf fault (xs ++ ys) (cond (is_lt o) (Some b) (Some a))
earlier-two fault xs ys a b h k Less e =
    let first : IsNoLater b a = λ less. cc (less, nat_list_cmp_total.antisymm a b ∙ ap ordering_reverse e) in
    (k.0, All-append (λ other. fault other ≡ true → IsNoLater b other) xs ys (further fault b a xs first h.1) k.1)
earlier-two fault xs ys a b h k Equal e =
    let first : IsNoLater a b = λ less. cc (less, e) in
    (h.0, All-append (λ other. fault other ≡ true → IsNoLater a other) xs ys h.1 (further fault a b ys first k.1))
earlier-two fault xs ys a b h k Greater e =
    let first : IsNoLater a b = λ less. cc (less, e) in
    (h.0, All-append (λ other. fault other ≡ true → IsNoLater a other) xs ys h.1 (further fault a b ys first k.1))

-- the smallest of two lists is the earlier of the smallest of each
pub least-append : (fault : List ℕ → Bool) (xs ys : List (List ℕ)) (a b : Option (List ℕ)) → IsLeastOf fault xs a → IsLeastOf fault ys b → IsLeastOf fault (xs ++ ys) (earlier_of a b)
least-append fault xs ys None None h k = All-append (λ name. fault name ≡ false) xs ys h k
least-append fault xs ys None (Some b) h k =
    (k.0, All-append (λ other. fault other ≡ true → IsNoLater b other) xs ys (none-after fault b xs h) k.1)
least-append fault xs ys (Some a) None h k =
    (h.0, All-append (λ other. fault other ≡ true → IsNoLater a other) xs ys h.1 (none-after fault a ys k))
least-append fault xs ys (Some a) (Some b) h k = earlier-two fault xs ys a b h k (cmp b a) refl

-- the same with one more name at the end of a front
pub least-more : (fault : List ℕ → Bool) (list : List (List ℕ)) (k : ℕ) (name : List ℕ) (a b r : Option (List ℕ)) → k < length list → get_or list k [] ≡ name → IsLeastOf fault (take k list) a → IsLeastOf fault (name ∷ []) b → r ≡ earlier_of a b → IsLeastOf fault (take (k + 1) list) r
least-more fault list k name a b r within at h one is =
    let longer : take (k + 1) list ≡ take k list ++ name ∷ [] =
    take_more list k [] within ∙ ap (λ x. take k list ++ x ∷ []) at in
    rw (is, longer) (least-append fault (take k list) (name ∷ []) a b h one)

-- what is the smallest for one error is so for the same one written otherwise
pub least-same : (fault other : List ℕ → Bool) (list : List (List ℕ)) (r : Option (List ℕ)) → ((name : List ℕ) → fault name ≡ other name) → IsLeastOf fault list r → IsLeastOf other list r
least-same fault other list None same h =
    All-weaker (λ name. fault name ≡ false) (λ name. other name ≡ false) (λ name e. sym (same name) ∙ e) list h
least-same fault other list (Some least) same h =
    (sym (same least) ∙ h.0, λ k d within yes. h.1 k d within (same (get_or list k d) ∙ yes))

-- the smallest of names among which all stand that have the error is the first name that has it
pub first-among : (fault : List ℕ → Bool) (list : List (List ℕ)) (r : Option (Bor (List ℕ))) → ((name : List ℕ) → fault name ≡ true → Contains list name) → IsLeastOf fault list (option_copied r) → MatchOption r (NeverComes fault) (λ name. IsFirst fault name.now)
first-among fault list None among none = λ name.
    false_from_ne_true (fault name) (λ e.
    false≢true (sym (All-contains (λ n. fault n ≡ false) list name none (among name e)) ∙ e))
first-among fault list (Some least) among h = (
  h.0,
  λ other e. All-contains (λ n. fault n ≡ true → IsNoLater least.now n) list other h.1 (among other e) e,
)
