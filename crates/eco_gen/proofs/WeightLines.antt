-- The text of weights is read as them.
use Rattle.std.proofs.Common.{◌≡◌, ◌≢◌, ℕ, ◌+◌, ◌-◌, ◌%◌, ◌^◌, ◌<◌, ◌≤◌, inl, inr, Bool, true, false, not, cond, List, [], ◌∷◌, ◌++◌, length, get_or, take, map, refl, sym, ◌∙◌, ap, subst, arith, mod-lt, append_assoc}
use Rattle.std.specs.Prelude.{codes, ◌==◌, nat_le}
use Rattle.std.specs.Fmt.{decimal}
use Rattle.std.specs.List.{list_all, All}
use Rattle.std.specs.Str.Lines.{strip_carriage_return}
use Rattle.std.proofs.lemmas.Bool.{and_from, false≢true, le-leb, leb-true, ne_eqb}
use Rattle.std.proofs.lemmas.Fmt.{decimal_by_steps, decimal_nonempty}
use Rattle.std.proofs.lemmas.List.{append-nil}
use Rattle.std.proofs.lemmas.List.Folds.{list_all-append}
use Rattle.std.proofs.lemmas.List.Splits.{slice_split_at}
use Rattle.std.proofs.lemmas.List.Elements.{All-nil, All-cons, All-head, All-tail, All-append}
use Rattle.eco_lists.proofs.Lines.{IsNoFeed}
use Rattle.eco_text.proofs.NumberedNames.{number_of-decimal}
use Rattle.eco_lists.specs.Lines.{lines_of}
use Rattle.eco_lists.proofs.Tests.{both}
use Rattle.eco_lists.proofs.Places.{last_of}
use Rattle.eco_meaning.specs.Cost.{Weights}
use Rattle.eco_meaning.specs.Names.{is_digit, is_name, is_printing}
use Rattle.eco_weight.specs.Files.{Give}
use Rattle.eco_weight.specs.Lines.{Says, Names}
use Rattle.eco_gen.specs.Lines.{weight_line, weight_text}

-- they are digits
digits-decimal : (n : ℕ) → n < 2 ^ 64 → list_all is_digit (decimal n) ≡ true
digits-decimal n lt =
    decimal_by_steps (λ m ds. list_all is_digit ds ≡ true)
    (λ m one. and_from _ _ (digit m one) refl)
    (λ m ds big rest. list_all-append is_digit ds ((48 + m % 10) ∷ []) ∙ and_from _ _ rest (and_from _ _ (digit (m % 10) (omega arith)) refl))
    n lt
  where
    digit : (d : ℕ) → d < 10 → is_digit (48 + d) ≡ true
    digit d few = and_from _ _ (le-leb 48 (48 + d) (omega arith)) (le-leb (48 + d) 57 (omega arith))

-- what a pair must be so that its line says it
pub record IsSayable (pair : List ℕ × ℕ) : Type 0 where
  pub name : is_name pair.0 ≡ true
  pub plain : get_or pair.0 0 0 ≢ 92
  pub limit : pair.1 ≤ 4294967295

-- the line without its feed
abbrev body : List ℕ × ℕ → List ℕ
body pair = pair.0 ++ (32 ∷ decimal pair.1)

names_itself : (name : List ℕ) → is_name name ≡ true → get_or name 0 0 ≢ 92 → Names name name
names_itself [] is plain = absurd (false≢true is)
names_itself (b ∷ more) is plain = record {
  printing = is;
  named = ap (λ (test : Bool). cond test more (b ∷ more)) (ne_eqb b 92 plain);
  some = omega arith;
}

says : (pair : List ℕ × ℕ) → IsSayable pair → Says (body pair) pair.0 pair.1
says pair is =
    let limit = is.limit in
    let small : pair.1 < 2 ^ 64 = omega arith in
    record {
      before = [];
      word = pair.0;
      between = 32 ∷ [];
      digits = decimal pair.1;
      after = [];
      row = ap (λ (d : List ℕ). pair.0 ++ (32 ∷ d)) (append-nil (decimal pair.1));
      blank_before = refl;
      names = names_itself pair.0 is.name is.plain;
      parted = omega arith;
      blank_between = refl;
      weighs = record {
        some = decimal_nonempty pair.1 small;
        decimal = digits-decimal pair.1 small;
        value = number_of-decimal pair.1 small;
        limit = limit;
      };
      blank_after = refl;
    }

all_from_test : (test : ℕ → Bool) → ((b : ℕ) → test b ≡ true → IsNoFeed b) → (bytes : List ℕ) → list_all test bytes ≡ true → All IsNoFeed bytes
all_from_test test h [] e = All-nil IsNoFeed
all_from_test test h (b ∷ bytes) e =
    let parts = both (test b) (list_all test bytes) e in
    All-cons IsNoFeed b bytes (h b parts.0) (all_from_test test h bytes parts.1)

printing_no_feed : (b : ℕ) → is_printing b ≡ true → IsNoFeed b
printing_no_feed b e = let low = leb-true 33 b (both (nat_le 33 b) (nat_le b 126) e).0 in ne_eqb b 10 (λ same. omega (arith, low, same))

digit_no_feed : (b : ℕ) → is_digit b ≡ true → IsNoFeed b
digit_no_feed b e = let low = leb-true 48 b (both (nat_le 48 b) (nat_le b 57) e).0 in ne_eqb b 10 (λ same. omega (arith, low, same))

body_no_feed : (pair : List ℕ × ℕ) → IsSayable pair → All IsNoFeed (body pair)
body_no_feed pair is =
    let limit = is.limit in
    All-append IsNoFeed pair.0 (32 ∷ decimal pair.1)
    (all_from_test is_printing printing_no_feed pair.0 (both (not (length pair.0 == 0)) (list_all is_printing pair.0) is.name).1)
    (All-cons IsNoFeed 32 (decimal pair.1) refl (all_from_test is_digit digit_no_feed (decimal pair.1) (digits-decimal pair.1 (omega arith))))

-- the last byte of a number is a digit
last_digit : (n : ℕ) → n < 2 ^ 64 → (front : List ℕ) × (d : ℕ) × (d < 10) × (decimal n ≡ front ++ (48 + d) ∷ [])
last_digit n lt =
    decimal_by_steps (λ m ds. (front : List ℕ) × (d : ℕ) × (d < 10) × (ds ≡ front ++ (48 + d) ∷ []))
    (λ m one. ([], m, one, refl))
    (λ m ds big rest. (ds, m % 10, mod-lt m (omega arith), refl))
    n lt

no_return : (xs : List ℕ) (d : ℕ) → strip_carriage_return (xs ++ (48 + d) ∷ []) ≡ xs ++ (48 + d) ∷ []
no_return xs d =
    let line : List ℕ = xs ++ (48 + d) ∷ [] in
    let other : (48 + d == 13) ≡ false = ne_eqb (48 + d) 13 (λ same. omega (arith, same)) in
    ap (λ b. cond (b == 13) (take (length line - 1) line) line) (last_of xs (48 + d)) ∙ ap (λ (test : Bool). cond test (take (length line - 1) line) line) other

body_stays : (pair : List ℕ × ℕ) → IsSayable pair → strip_carriage_return (body pair) ≡ body pair
body_stays pair is =
    let limit = is.limit in
    let end = last_digit pair.1 (omega arith) in
    let cut : body pair ≡ (pair.0 ++ (32 ∷ end.0)) ++ (48 + end.1) ∷ [] =
    ap (λ (ds : List ℕ). pair.0 ++ (32 ∷ ds)) end.3 ∙ sym (append_assoc pair.0 (32 ∷ end.0) ((48 + end.1) ∷ [])) in
    ap strip_carriage_return cut ∙ no_return (pair.0 ++ (32 ∷ end.0)) end.1 ∙ sym cut

line_cut : (pair : List ℕ × ℕ) (rest : List ℕ) → weight_line pair ++ rest ≡ body pair ++ 10 ∷ rest
line_cut pair rest =
    ap (λ (t : List ℕ). t ++ rest) (append_assoc (pair.0 ++ codes " ") (decimal pair.1) (codes "\n") ∙ append_assoc pair.0 (codes " ") (decimal pair.1 ++ codes "\n"))
    ∙ append_assoc pair.0 (32 ∷ (decimal pair.1 ++ 10 ∷ [])) rest
    ∙ ap (λ (t : List ℕ). pair.0 ++ (32 ∷ t)) (append_assoc (decimal pair.1) (10 ∷ []) rest)
    ∙ sym (append_assoc pair.0 (32 ∷ decimal pair.1) (10 ∷ rest))

-- the lines of the text say the pairs
pub told : (weights : Weights) → All IsSayable weights → Give (lines_of (weight_text weights)) weights
unfolding weight_text
told [] all = inl (refl, refl)
told (pair ∷ weights) all =
    let is = All-head IsSayable pair weights all in
    let rest : List ℕ = weight_text weights in
    let cut : lines_of (weight_line pair ++ rest) ≡ body pair ∷ lines_of rest =
    ap lines_of (line_cut pair rest)
    ∙ ap (map strip_carriage_return) (slice_split_at (λ b. b == 10) (body pair) 10 rest (body_no_feed pair is) refl)
    ∙ ap (λ (line : List ℕ). line ∷ lines_of rest) (body_stays pair is) in
    subst (λ (lines : List (List ℕ)). Give lines (pair ∷ weights)) (sym cut)
    (inr (says pair is, told weights (All-tail IsSayable pair weights all)))
