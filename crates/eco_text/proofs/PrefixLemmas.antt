-- The shortest prefix with which no name begins.
use Rattle.std.proofs.Common.{◌≡◌, ◌↔◌, ℕ, zero, suc, ◌+◌, ◌≤◌, ◌⊎◌, inl, inr, true, false, ◌&&◌, cond, List, [], ◌∷◌, ◌++◌, length, drop, refl, sym, ◌∙◌, ap, subst, arith}
use Rattle.std.specs.Prelude.{replicate, nat_eq, nat_le, fold, ◌==◌}
use Rattle.std.specs.List.{starts_with, prefix_len, list_all, Contains}
use Rattle.std.specs.Ordering.{nat_cmp, ord_max, is_lt}
use Rattle.std.specs.declared.cmp.Ordering.TheVariants.{Less, Equal, Greater}
use Rattle.std.specs.Cmp.{nat_cmp_is}
use Rattle.std.proofs.lemmas.Bool.{cases_eq, cases_order, cases_lt, eq-eqb, ne_eqb, le-leb, lt-leb, leb-true, false≢true, and_from}
use Rattle.std.proofs.lemmas.List.Folds.{list_all-append}
use Rattle.eco_lists.proofs.Members.{Contains_cases, Contains_first, Contains_later, Contains_none}
use Rattle.eco_meaning.specs.Names.{is_printing}
use Rattle.eco_text.specs.Prefix.{prefix_of, IsFreshPrefix, underscores_of, most_underscores, fresh_prefix_of}

-- beginning with two lists end to end
starts_append : (name p q : List ℕ) → starts_with nat_eq name (p ++ q) ≡ (starts_with nat_eq name p && starts_with nat_eq (drop (length p) name) q)
starts_append name [] q = refl
starts_append [] (x ∷ p) q = refl
starts_append (y ∷ ys) (x ∷ p) q =
    elim (nat_eq x y) as (λ b. (b && starts_with nat_eq ys (p ++ q)) ≡ ((b && starts_with nat_eq ys p) && starts_with nat_eq (drop (length p) ys) q)) [
      | true ↦ starts_append ys p q
      | false ↦ refl
    ]

-- both numbers one greater
le_more : (k n : ℕ) → nat_le k n ≡ nat_le (suc k) (1 + n)
le_more k n =
    elim (cases_lt n k) [
      | inl lt ↦ lt-leb k n lt ∙ sym (lt-leb (suc k) (1 + n) (omega arith))
      | inr le ↦ le-leb k n le ∙ sym (le-leb (suc k) (1 + n) (omega arith))
    ]

-- beginning with underscores
starts_underscores : (s : List ℕ) (k : ℕ) → starts_with nat_eq s (replicate k 95) ≡ nat_le k (prefix_len (λ byte. byte == 95) s)
starts_underscores s zero = sym (le-leb 0 (prefix_len (λ byte. byte == 95) s) (omega arith))
starts_underscores [] (suc k) = sym (lt-leb (suc k) 0 (omega arith))
starts_underscores (y ∷ ys) (suc k) =
    elim (cases_eq y 95) [
      | inl e ↦ rw (eq-eqb 95 y (sym e), eq-eqb y 95 e) (starts_underscores ys k ∙ le_more k (prefix_len (λ byte. byte == 95) ys))
      | inr ne ↦ rw (ne_eqb 95 y (λ e. ne (sym e)), ne_eqb y 95 ne) (sym (lt-leb (suc k) 0 (omega arith)))
    ]

-- a name begins with a prefix exactly where it has enough underscores behind the stem
begins : (stem name : List ℕ) (k : ℕ) → 1 ≤ k → (starts_with nat_eq name (prefix_of stem k) ≡ true) ↔ (k ≤ underscores_of stem name)
begins stem name k some =
    let split = starts_append name stem (replicate k 95) in
    let count = starts_underscores (drop (length stem) name) k in
    let n = prefix_len (λ byte. byte == 95) (drop (length stem) name) in
    elim (starts_with nat_eq name stem) as (λ b. (starts_with nat_eq name (prefix_of stem k) ≡ (b && starts_with nat_eq (drop (length stem) name) (replicate k 95))) → (starts_with nat_eq name (prefix_of stem k) ≡ true) ↔ (k ≤ cond b n 0)) [
      | true ↦ λ e. (λ h. leb-true k n (sym count ∙ sym e ∙ h), λ h. e ∙ count ∙ le-leb k n h)
      | false ↦ λ e. (λ h. absurd (false≢true (sym e ∙ h)), λ h. absurd (omega arith))
    ] split

-- the greater of two numbers
max_cases : (a b : ℕ) → ((ord_max nat_cmp a b ≡ a) × (b ≤ a)) ⊎ ((ord_max nat_cmp a b ≡ b) × (a ≤ b))
max_cases a b =
    elim (cases_order b a) [
      | inl e ↦ inr (ap (λ o. cond (is_lt o) a b) (sym (nat_cmp_is b a Equal e)), omega arith)
      | inr o ↦ elim o [
        | inl lt ↦ inl (ap (λ o. cond (is_lt o) a b) (sym (nat_cmp_is b a Less lt)), omega arith)
        | inr gt ↦ inr (ap (λ o. cond (is_lt o) a b) (sym (nat_cmp_is b a Greater gt)), omega arith)
      ]
    ]

-- the greatest number over names, from a start on
abbrev most_from : List ℕ → ℕ → List (List ℕ) → ℕ
most_from stem start names = fold (λ most name. ord_max nat_cmp most (underscores_of stem name)) start names

-- it is no less than the start and any name's number
most_bounds : (stem : List ℕ) (start : ℕ) (names : List (List ℕ)) → (start ≤ most_from stem start names) × ((name : List ℕ) → Contains names name → underscores_of stem name ≤ most_from stem start names)
most_bounds stem start [] = (omega arith, λ name c. absurd (Contains_none name c))
most_bounds stem start (first ∷ names) =
    let here = underscores_of stem first in
    let next = ord_max nat_cmp start here in
    let rest = most_bounds stem next names in
    let above = rest.0 in
    let both : (start ≤ next) × (here ≤ next) = elim (max_cases start here) [
      | inl c ↦ let e = c.0 in let le = c.1 in (omega arith, omega arith)
      | inr c ↦ let e = c.0 in let le = c.1 in (omega arith, omega arith)
    ] in
    let low = both.0 in
    let high = both.1 in (
      omega arith,
      λ name c. elim (Contains_cases first name names c) [
        | inl e ↦ subst (λ x. underscores_of stem x ≤ most_from stem next names) e (omega arith)
        | inr later ↦ rest.1 name later
      ],
    )

-- it is the start or some name's number
most_reached : (stem : List ℕ) (start : ℕ) (names : List (List ℕ)) → (most_from stem start names ≡ start) ⊎ ((name : List ℕ) × Contains names name × (underscores_of stem name ≡ most_from stem start names))
most_reached stem start [] = inl refl
most_reached stem start (first ∷ names) =
    let here = underscores_of stem first in
    let next = ord_max nat_cmp start here in
    elim (most_reached stem next names) [
      | inl e ↦ elim (max_cases start here) [
        | inl c ↦ inl (e ∙ c.0)
        | inr c ↦ inr (first, Contains_first first names, sym (e ∙ c.0))
      ]
      | inr found ↦ inr (found.0, Contains_later first found.0 names found.1, found.2)
    ]

-- one underscore more than any name has
pub IsFreshPrefix-most : (stem : List ℕ) (names : List (List ℕ)) → IsFreshPrefix stem names (fresh_prefix_of stem names)
IsFreshPrefix-most stem names =
    let most = most_underscores stem names in
    record {
      underscores = most + 1;
      form = refl;
      least = omega arith;
      fresh = λ begun.
          let enough = (begins stem begun.1 (most + 1) (omega arith)).0 begun.4 in
          let bound = (most_bounds stem 0 names).1 begun.1 (begun.0, begun.2, begun.3) in
          omega arith;
      shortest = λ fewer some lt. elim (most_reached stem 0 names) [
        | inl none ↦ absurd (omega arith)
        | inr found ↦
            let count = found.2 in
            (found.1.0, found.0, found.1.1, found.1.2, (begins stem found.0 fewer some).1 (omega arith))
      ];
    }

-- the prefix prints where the stem does
printing-replicate : (n : ℕ) → list_all is_printing (replicate n 95) ≡ true
printing-replicate zero = refl
printing-replicate (suc n) = printing-replicate n

pub printing-fresh : (stem : List ℕ) (names : List (List ℕ)) (prefix : List ℕ) → list_all is_printing stem ≡ true → IsFreshPrefix stem names prefix → list_all is_printing prefix ≡ true
printing-fresh stem names prefix printing is =
    rw is.form
    (list_all-append is_printing stem (replicate is.underscores 95) ∙ and_from _ _ printing (printing-replicate is.underscores))

pub printing-prefix : (stem : List ℕ) (names : List (List ℕ)) → list_all is_printing stem ≡ true → list_all is_printing (fresh_prefix_of stem names) ≡ true
printing-prefix stem names printing =
    printing-fresh stem names (fresh_prefix_of stem names) printing (IsFreshPrefix-most stem names)
