-- Pairs, gathered one after another.
use Rattle.std.proofs.Common.{◌≡◌, ◌≢◌, ◌⊎◌, ℕ, ◌+◌, Bool, true, false, cond, ◌||◌, List, [], ◌∷◌, ◌++◌, count_by, Option, Some, None, refl, ap, sym, subst, ◌∙◌, arith, inl, inr}
use Rattle.std.specs.Cmp.Lexicographic.{slice_cmp}
use Rattle.std.specs.List.{IsDistinct}
use Rattle.std.specs.Ordering.{nat_cmp, is_lt}
use Rattle.std.specs.Str.{bytes_eq}
use Rattle.std.specs.declared.cmp.Ordering.TheVariants.{Less}
use Rattle.std.proofs.lemmas.Bool.{false≢true, cases_Bool}
use Rattle.std.proofs.lemmas.Cmp.{nat_list_cmp_total}
use Rattle.std.proofs.lemmas.List.{map-append}
use Rattle.std.proofs.lemmas.List.Folds.{list_any-append}
use Rattle.eco_lists.proofs.Names.{bytes_eq-same, less_from, same_name}
use Rattle.eco_meaning.specs.Cost.{Weights}
use Rattle.eco_meaning.specs.Names.{has}
use Rattle.eco_weight.specs.Files.{names_in, OccursTwice}
use Rattle.eco_weight.specs.Gathering.{smaller, IsLeast, Gathers}
use Rattle.eco_weight.proofs.NameLemmas.{no_earlier_itself, count_more, count_none, count_some, one_if, none_if}

-- the least name of which one test holds is that of which another does that holds of the same names
least_same : (P Q : List ℕ → Type 0) (least : Option (List ℕ)) → ((name : List ℕ) → P name → Q name) → ((name : List ℕ) → Q name → P name) → IsLeast P least → IsLeast Q least
least_same P Q None f g is = λ name q. is name (g name q)
least_same P Q (Some least) f g is = (f least is.0, λ other q. is.1 other (g other q))

least_by : (P Q : List ℕ → Type 0) (least name : List ℕ) (before : Bool) → is_lt (slice_cmp nat_cmp name least) ≡ before → ((other : List ℕ) → P other → Q other) → Q name → ((other : List ℕ) → Q other → P other ⊎ (other ≡ name)) → IsLeast P (Some least) → IsLeast Q (cond before (Some name) (Some least))
least_by P Q least name true order f here back is = (
  here,
  λ other q. elim (back other q) [
    | inl p ↦ λ earlier. is.1 other p (nat_list_cmp_total.trans other name least earlier (less_from (slice_cmp nat_cmp name least) order))
    | inr same ↦ subst (λ n. slice_cmp nat_cmp n name ≢ Less) (sym same) (no_earlier_itself name)
  ],
)
least_by P Q least name false order f here back is = (
  f least is.0,
  λ other q. elim (back other q) [
    | inl p ↦ is.1 other p
    | inr same ↦ subst (λ n. slice_cmp nat_cmp n least ≢ Less) (sym same) (λ e. false≢true (sym order ∙ ap is_lt e))
  ],
)

-- the least name, where one name more counts
pub least_more : (P Q : List ℕ → Type 0) (least : Option (List ℕ)) (name : List ℕ) → ((other : List ℕ) → P other → Q other) → Q name → ((other : List ℕ) → Q other → P other ⊎ (other ≡ name)) → IsLeast P least → IsLeast Q (smaller least name)
least_more P Q None name f here back is = (
  here,
  λ other q. elim (back other q) [
    | inl p ↦ absurd (is other p)
    | inr same ↦ subst (λ n. slice_cmp nat_cmp n name ≢ Less) (sym same) (no_earlier_itself name)
  ],
)
least_more P Q (Some least) name f here back is =
    least_by P Q least name (is_lt (slice_cmp nat_cmp name least)) refl f here back is

-- the names of pairs and one more
names-push : (told : Weights) (name : List ℕ) (weight : ℕ) → names_in (told ++ (name, weight) ∷ []) ≡ names_in told ++ name ∷ []
names-push told name weight = map-append (λ (pair : List ℕ × ℕ). pair.0) told ((name, weight) ∷ [])

has-push : (told : Weights) (name : List ℕ) (weight : ℕ) (other : List ℕ) → has (names_in (told ++ (name, weight) ∷ [])) other ≡ (has (names_in told) other || (bytes_eq other name || false))
has-push told name weight other = ap (λ list. has list other) (names-push told name weight) ∙ list_any-append (bytes_eq other) (names_in told) (name ∷ [])

count-push : (told : Weights) (name : List ℕ) (weight : ℕ) (other : List ℕ) → count_by (bytes_eq other) (names_in (told ++ (name, weight) ∷ [])) ≡ count_by (bytes_eq other) (names_in told) + cond (bytes_eq other name) 1 0
count-push told name weight other = ap (count_by (bytes_eq other)) (names-push told name weight) ∙ count_more other (names_in told) name

-- a name that is there already adds none
or_there : (b c : Bool) → (c ≡ true → b ≡ true) → b ≡ (b || (c || false))
or_there true c h = refl
or_there false true h = h refl
or_there false false h = refl

smaller_some : (least : Option (List ℕ)) (name : List ℕ) → smaller least name ≡ None → ⊥
smaller_some None name e = absurd (cc)
smaller_some (Some least) name e = by (is_lt (slice_cmp nat_cmp name least)) e
  where
    by : (before : Bool) → cond before (Some name) (Some least) ≡ None → ⊥
    by true e = absurd (cc)
    by false e = absurd (cc)

-- what stood twice still does
still_twice : (told : Weights) (name : List ℕ) (weight : ℕ) (other : List ℕ) → OccursTwice told other → OccursTwice (told ++ (name, weight) ∷ []) other
still_twice told name weight other h =
    let e = count-push told name weight other in
    omega (arith, e)

-- another name stands twice only if it did
twice_before : (told : Weights) (name : List ℕ) (weight : ℕ) (other : List ℕ) → bytes_eq other name ≡ false → OccursTwice (told ++ (name, weight) ∷ []) other → OccursTwice told other
twice_before told name weight other apart h =
    let e = count-push told name weight other in
    let none = none_if (bytes_eq other name) apart in
    omega (arith, e)

-- one more pair, whose name was there
pub gathers_there : (told entries : Weights) (twice : Option (List ℕ)) (name : List ℕ) (weight : ℕ) → has (names_in entries) name ≡ true → Gathers told entries twice → Gathers (told ++ (name, weight) ∷ []) entries (smaller twice name)
gathers_there told entries twice name weight there g =
    let in_told : has (names_in told) name ≡ true = sym (g.names name) ∙ there in
    let once = count_some name (names_in told) in_told in
    let e = count-push told name weight name in
    let one = one_if (bytes_eq name name) (bytes_eq-same name) in
    record {
      names = λ other.
          g.names other
          ∙ or_there (has (names_in told) other) (bytes_eq other name) (λ same. ap (has (names_in told)) (same_name other name same) ∙ in_told)
          ∙ sym (has-push told name weight other);
      distinct = g.distinct;
      least = least_more (OccursTwice told) (OccursTwice (told ++ (name, weight) ∷ [])) twice name
          (still_twice told name weight)
          (omega (arith, e))
          (λ other h. elim (cases_Bool (bytes_eq other name)) [
            | inl same ↦ inr (same_name other name same)
            | inr apart ↦ inl (twice_before told name weight other apart h)
          ])
          g.least;
      whole = λ none. absurd (smaller_some twice name none);
    }

-- one more pair, whose name wasn't
pub gathers_new : (told entries after : Weights) (twice : Option (List ℕ)) (name : List ℕ) (weight : ℕ) → has (names_in entries) name ≡ false → after ≡ entries ++ (name, weight) ∷ [] → IsDistinct bytes_eq (names_in after) → Gathers told entries twice → Gathers (told ++ (name, weight) ∷ []) after twice
gathers_new told entries after twice name weight absent more distinct g =
    let not_told : has (names_in told) name ≡ false = sym (g.names name) ∙ absent in
    record {
      names = λ other.
          ap (λ list. has (names_in list) other) more
          ∙ has-push entries name weight other
          ∙ ap (λ b. b || (bytes_eq other name || false)) (g.names other)
          ∙ sym (has-push told name weight other);
      distinct = distinct;
      least = least_same (OccursTwice told) (OccursTwice (told ++ (name, weight) ∷ [])) twice
          (still_twice told name weight)
          (λ other h. elim (cases_Bool (bytes_eq other name)) [
            | inl same ↦
                let e = count-push told name weight other in
                let one = one_if (bytes_eq other name) same in
                let never = count_none other (names_in told) (ap (has (names_in told)) (same_name other name same) ∙ not_told) in
                absurd (omega (arith, e))
            | inr apart ↦ twice_before told name weight other apart h
          ])
          g.least;
      whole = λ none. more ∙ ap (λ list. list ++ (name, weight) ∷ []) (g.whole none);
    }
