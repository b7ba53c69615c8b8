-- How classes are split by bits: proofs.
use Rattle.std.proofs.Common.{◌≡◌, ◌≢◌, inl, inr, ℕ, ◌+◌, ◌<◌, Bool, true, false, List, [], ◌∷◌, ◌++◌, Option, None, Some, length, get_or, set, refl, sym, ◌∙◌, ap, subst, arith}
use Rattle.std.specs.List.{slice_get}
use Rattle.std.proofs.lemmas.Bool.{cases_lt, false≢true}
use Rattle.std.proofs.lemmas.List.{length-append, length-set}
use Rattle.std.proofs.lemmas.Option.{slice_get-get_or, slice_get_within, none-some, same_Some}
use Rattle.eco_lists.proofs.Places.{item_at, set_cases, push_cases}
use mathlib.Core.Bool.{beq}
use Rattle.eco_lists.proofs.Tests.{beq_same, beq_own}
use Rattle.eco_cover.specs.Classes.{AreFirstOthers, AreNamed, AreTogether, IsFirst, IsFirstOther}

-- two bits other than a third one are equal
other_bit : (a b r : Bool) → a ≢ r → b ≢ r → a ≡ b
other_bit true true r first second = refl
other_bit false false r first second = refl
other_bit true false true first second = absurd (first refl)
other_bit true false false first second = absurd (second refl)
other_bit false true false first second = absurd (first refl)
other_bit false true true first second = absurd (second refl)

-- so are two bits of a list
other_bits : (bits : List Bool) (j k r : ℕ) → j < length bits → k < length bits → r < length bits → slice_get bits j ≢ slice_get bits r → slice_get bits k ≢ slice_get bits r → slice_get bits j ≡ slice_get bits k
other_bits bits j k r j_in k_in r_in first second =
    let (a, a_at) = item_at bits j j_in in
    let (b, b_at) = item_at bits k k_in in
    let (c, c_at) = item_at bits r r_in in
    a_at ∙ ap Some (other_bit a b c (λ same. first (a_at ∙ ap Some same ∙ sym c_at)) (λ same. second (b_at ∙ ap Some same ∙ sym c_at))) ∙ sym b_at

-- what a test of two bits says of their places
pub equal_bits : (bits : List Bool) (j k : ℕ) → j < length bits → k < length bits → beq (get_or bits j false) (get_or bits k false) ≡ true → slice_get bits j ≡ slice_get bits k
equal_bits bits j k j_in k_in equal =
    slice_get-get_or bits j false j_in ∙ ap Some (beq_same (get_or bits j false) (get_or bits k false) equal) ∙ sym (slice_get-get_or bits k false k_in)

pub unlike_bits : (bits : List Bool) (j k : ℕ) → j < length bits → k < length bits → beq (get_or bits j false) (get_or bits k false) ≡ false → slice_get bits j ≢ slice_get bits k
unlike_bits bits j k j_in k_in unlike same =
    let equal : get_or bits j false ≡ get_or bits k false = same_Some (get_or bits j false) (get_or bits k false) (sym (slice_get-get_or bits j false j_in) ∙ same ∙ slice_get-get_or bits k false k_in) in
    false≢true (sym unlike ∙ ap (beq (get_or bits j false)) (sym equal) ∙ beq_own (get_or bits j false))

-- a row that has the bit of the class's first row stays with it
pub first_stays : (classes : List ℕ) (bits : List Bool) (row first : ℕ) → AreNamed classes → slice_get classes row ≡ Some first → slice_get bits row ≡ slice_get bits first → IsFirst (length classes) (AreTogether classes bits) row first
first_stays classes bits row first named at same =
    let (itself, below) = named row first at in
    record {
      within = slice_get_within classes first first itself;
      related = (itself ∙ sym at, sym same);
      least = λ j j_in together. (named j first (together.0 ∙ at)).1;
    }

-- one that hasn't comes to the first such row
pub other_takes : (classes : List ℕ) (bits : List Bool) (row first other : ℕ) → length bits ≡ length classes → AreNamed classes → slice_get classes row ≡ Some first → slice_get bits row ≢ slice_get bits first → IsFirstOther classes bits first other → IsFirst (length classes) (AreTogether classes bits) row other
other_takes classes bits row first other count named at unlike is =
    let (itself, below) = named row first at in
    let other_in = slice_get_within classes other first is.member in
    let row_in = slice_get_within classes row first at in
    record {
      within = other_in;
      related = (
        is.member ∙ sym at,
        other_bits bits other row first (omega (arith, count, other_in)) (omega (arith, count, row_in)) (omega (arith, count, below, row_in)) is.unlike unlike,
      );
      least = λ j j_in together. is.least j (together.0 ∙ at) (λ same. unlike (sym together.1 ∙ same));
    }

-- or begins a class, where there is none so far
pub row_begins : (classes : List ℕ) (bits : List Bool) (row first : ℕ) (others : List (Option ℕ)) → slice_get classes row ≡ Some first → slice_get bits row ≢ slice_get bits first → AreFirstOthers classes bits row others → slice_get others first ≡ Some None → IsFirst (length classes) (AreTogether classes bits) row row
row_begins classes bits row first others at unlike are vacant = record {
  within = slice_get_within classes row first at;
  related = (refl, refl);
  least = λ j j_in together. elim (cases_lt j row) [
    | inl before ↦ absurd (unlike (sym together.1 ∙ are.none first vacant j before (together.0 ∙ at)))
    | inr behind ↦ behind
  ];
}

-- the other first rows stay as they are where the class of the row has one or needs none
others_stay : (classes : List ℕ) (bits : List Bool) (row : ℕ) (others : List (Option ℕ)) → AreFirstOthers classes bits row others → ((first : ℕ) → slice_get others first ≡ Some None → slice_get classes row ≡ Some first → slice_get bits row ≡ slice_get bits first) → AreFirstOthers classes bits (row + 1) others
others_stay classes bits row others are here = record {
  count = are.count;
  some = are.some;
  none = λ first vacant j before at. elim (cases_lt j row) [
    | inl earlier ↦ are.none first vacant j earlier at
    | inr behind ↦
        let same : j ≡ row = omega arith in
        subst (λ k. slice_get bits k ≡ slice_get bits first) (sym same) (here first vacant (subst (λ k. slice_get classes k ≡ Some first) same at))
  ];
}

pub others_stay_with_first : (classes : List ℕ) (bits : List Bool) (row first : ℕ) (others : List (Option ℕ)) → slice_get classes row ≡ Some first → slice_get bits row ≡ slice_get bits first → AreFirstOthers classes bits row others → AreFirstOthers classes bits (row + 1) others
others_stay_with_first classes bits row first others at same are =
    others_stay classes bits row others are (λ f vacant at_f. same ∙ ap (slice_get bits) (same_Some first f (sym at ∙ at_f)))

pub others_stay_with_other : (classes : List ℕ) (bits : List Bool) (row first other : ℕ) (others : List (Option ℕ)) → slice_get classes row ≡ Some first → slice_get others first ≡ Some (Some other) → AreFirstOthers classes bits row others → AreFirstOthers classes bits (row + 1) others
others_stay_with_other classes bits row first other others at is are =
    others_stay classes bits row others are (λ f vacant at_f.
    let same : f ≡ first = same_Some f first (sym at_f ∙ at) in
    absurd (none-some other (same_Some None (Some other) (sym vacant ∙ ap (slice_get others) same ∙ is))))

-- and one more comes where the row begins a class
pub others_grow : (classes : List ℕ) (bits : List Bool) (row first : ℕ) (others : List (Option ℕ)) → slice_get classes row ≡ Some first → slice_get bits row ≢ slice_get bits first → AreFirstOthers classes bits row others → slice_get others first ≡ Some None → AreFirstOthers classes bits (row + 1) (set others first (Some row))
others_grow classes bits row first others at unlike are vacant = record {
  count = length-set others first (Some row) ∙ are.count;
  some = λ f other is. elim (set_cases others first (Some row) f (Some other) is) [
    | inl (same, this) ↦
        subst (λ n. IsFirstOther classes bits n other) (sym same) (subst (IsFirstOther classes bits first) (sym (same_Some other row this)) new)
    | inr (apart, old) ↦ are.some f other old
  ];
  none = λ f is j before at_j. elim (set_cases others first (Some row) f None is) [
    | inl (same, this) ↦ absurd (none-some row this)
    | inr (apart, old) ↦
        elim (cases_lt j row) [
          | inl earlier ↦ are.none f old j earlier at_j
          | inr behind ↦
              let same : j ≡ row = omega arith in
              absurd (apart (same_Some f first (sym at_j ∙ ap (slice_get classes) same ∙ at)))
        ]
  ];
}
  where
    new : IsFirstOther classes bits first row
    new = record {
      member = at;
      unlike = unlike;
      least = λ j at_j unlike_j. elim (cases_lt j row) [ inl before ↦ absurd (unlike_j (are.none first vacant j before at_j)) | inr behind ↦ behind ];
    }

-- one more row has its class
pub classes_more : (n : ℕ) (R : ℕ → ℕ → Type 0) (classes : List ℕ) (row first : ℕ) → length classes ≡ row → ((k f : ℕ) → slice_get classes k ≡ Some f → IsFirst n R k f) → IsFirst n R row first → (k f : ℕ) → slice_get (classes ++ first ∷ []) k ≡ Some f → IsFirst n R k f
classes_more n R classes row first count are new k f at =
    elim (push_cases classes first k f at) [
      | inl old ↦ are k f old
      | inr (last, same) ↦
          subst (λ m. IsFirst n R m f) (sym (last ∙ count)) (subst (IsFirst n R row) (sym same) new)
    ]

pub count_more : (classes : List ℕ) (first row : ℕ) → length classes ≡ row → length (classes ++ first ∷ []) ≡ row + 1
count_more classes first row count = omega (arith, count, length-append classes (first ∷ []))
