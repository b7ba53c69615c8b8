-- Classes of rows that agree on columns: proofs.
use Rattle.std.proofs.Common.{◌≡◌, ◌⊎◌, inl, inr, ℕ, suc, ◌+◌, ◌<◌, ◌≤◌, Bool, false, List, [], ◌∷◌, ◌++◌, None, Some, option_map, length, take, refl, sym, ◌∙◌, ap, subst, arith}
use Rattle.std.specs.List.{slice_get, All, Contains}
use Rattle.std.proofs.lemmas.Bool.{cases_lt}
use Rattle.std.proofs.lemmas.List.{length-append}
use Rattle.std.proofs.lemmas.List.Elements.{Contains-append_left, Contains-append_right, Contains-append_cases}
use Rattle.std.proofs.lemmas.Option.{slice_get-get_or, slice_get_within, slice_get_past, slice_get-map, get_or_from_slice_get}
use Rattle.eco_lists.proofs.Places.{place_of, item_at, Contains_at, All_at, All_from_places, take_at_more, slice_get-append_left, slice_get-back}
use Rattle.eco_lists.proofs.Members.{Contains_first, only_one}
use Rattle.eco_lists.specs.Bits.{bit_at}
use Rattle.eco_laws.specs.Columns.{IsInPlay}
use Rattle.eco_cover.specs.declared.classes.Alike.{Alike}
use Rattle.eco_cover.specs.Rows.{row_of}
use Rattle.eco_cover.specs.InPlay.{TellInPlay}
use Rattle.eco_cover.specs.Classes.{AreAlike, AreClasses, AreNamed, AreTogether, AreUnmixed, IsMixed, ShowsAlike, bits_at}

-- classes by a relation are classes by any that relates the same
classes_as : (n : ℕ) (R S : ℕ → ℕ → Type 0) (classes : List ℕ) → ((j k : ℕ) → j < n → k < n → R j k → S j k) → ((j k : ℕ) → j < n → k < n → S j k → R j k) → AreClasses n R classes → AreClasses n S classes
classes_as n R S classes to back are = record {
  count = are.count;
  firsts = λ k first at.
      let is = are.firsts k first at in
      let k_in : k < n = omega (arith, slice_get_within classes k first at, are.count) in
      record { within = is.within; related = to first k is.within k_in is.related; least = λ j j_in s. is.least j j_in (back j k j_in k_in s) };
}

-- rows of one class agree, and rows that agree have one class
alike_in_class : (Columns : ℕ → Type 0) (rows : List (List Bool)) (classes : List ℕ) (j k : ℕ) → AreClasses (length rows) (AreAlike Columns rows) classes → k < length rows → slice_get classes j ≡ slice_get classes k → AreAlike Columns rows j k
alike_in_class Columns rows classes j k are k_in same column is =
    let (first, at) = item_at classes k (omega (arith, k_in, are.count)) in
    sym ((are.firsts j first (same ∙ at)).related column is) ∙ (are.firsts k first at).related column is

class_of_alike : (Columns : ℕ → Type 0) (rows : List (List Bool)) (classes : List ℕ) (j k : ℕ) → AreClasses (length rows) (AreAlike Columns rows) classes → j < length rows → k < length rows → AreAlike Columns rows j k → slice_get classes j ≡ slice_get classes k
class_of_alike Columns rows classes j k are j_in k_in alike =
    let (first, first_at) = item_at classes j (omega (arith, j_in, are.count)) in
    let (other, other_at) = item_at classes k (omega (arith, k_in, are.count)) in
    let is_first = are.firsts j first first_at in
    let is_other = are.firsts k other other_at in
    let up = is_first.least other is_other.within (λ column is. is_other.related column is ∙ sym (alike column is)) in
    let down = is_other.least first is_first.within (λ column is. is_first.related column is ∙ alike column is) in
    let same : first ≡ other = omega (arith, up, down) in
    first_at ∙ ap Some same ∙ sym other_at

-- each class has the number of its first row
pub classes_named : (Columns : ℕ → Type 0) (rows : List (List Bool)) (classes : List ℕ) → AreClasses (length rows) (AreAlike Columns rows) classes → AreNamed classes
classes_named Columns rows classes are k first at =
    let is = are.firsts k first at in
    let k_in : k < length rows = omega (arith, slice_get_within classes k first at, are.count) in (
      class_of_alike Columns rows classes first k are is.within k_in is.related ∙ at,
      is.least k k_in (λ column is. refl),
    )

-- the bit of a row in the column
bit_here : (rows : List (List Bool)) (column j : ℕ) → All (λ (row : List Bool). column < length row) rows → j < length rows → slice_get (bits_at rows column) j ≡ slice_get (row_of rows j) column
bit_here rows column j within j_in =
    slice_get-map (λ (row : List Bool). bit_at row column) rows j ∙ ap (option_map (λ (row : List Bool). bit_at row column)) (slice_get-get_or rows j [] j_in)
    ∙ sym (slice_get-get_or (row_of rows j) column false (within j [] j_in))

-- one more column
pub record IsOneMore (Columns Others : ℕ → Type 0) (column : ℕ) : Type 0 where
  pub added : Others column
  pub kept : (c : ℕ) → Columns c → Others c
  pub only : (c : ℕ) → Others c → Columns c ⊎ (c ≡ column)

-- split by its bits, the classes are those of the rows that agree there too
pub split_alike : (Columns Others : ℕ → Type 0) (rows : List (List Bool)) (column : ℕ) (classes split : List ℕ) → All (λ (row : List Bool). column < length row) rows → IsOneMore Columns Others column → AreClasses (length rows) (AreAlike Columns rows) classes → AreClasses (length classes) (AreTogether classes (bits_at rows column)) split → AreClasses (length rows) (AreAlike Others rows) split
split_alike Columns Others rows column classes split within more are parts =
    classes_as (length rows) (AreTogether classes (bits_at rows column)) (AreAlike Others rows) split to back
    (subst (λ n. AreClasses n (AreTogether classes (bits_at rows column)) split) are.count parts)
  where
    to : (j k : ℕ) → j < length rows → k < length rows → AreTogether classes (bits_at rows column) j k → AreAlike Others rows j k
    to j k j_in k_in (same, equal) c is =
        elim (more.only c is) [
          | inl old ↦ alike_in_class Columns rows classes j k are k_in same c old
          | inr this ↦
              subst (λ n. slice_get (row_of rows j) n ≡ slice_get (row_of rows k) n) (sym this)
              (sym (bit_here rows column j within j_in) ∙ equal ∙ bit_here rows column k within k_in)
        ]

    back : (j k : ℕ) → j < length rows → k < length rows → AreAlike Others rows j k → AreTogether classes (bits_at rows column) j k
    back j k j_in k_in alike = (
      class_of_alike Columns rows classes j k are j_in k_in (λ c is. alike c (more.kept c is)),
      bit_here rows column j within j_in ∙ alike column more.added ∙ sym (bit_here rows column k within k_in),
    )

-- beyond the width there is nothing to agree on
pub fixed_in_play : (fixed : List ℕ) (width : ℕ) (rows : List (List Bool)) (classes : List ℕ) → All (λ (row : List Bool). length row ≡ width) rows → AreClasses (length rows) (AreAlike (Contains fixed) rows) classes → AreClasses (length rows) (AreAlike (IsInPlay fixed width) rows) classes
fixed_in_play fixed width rows classes wide are =
    classes_as (length rows) (AreAlike (Contains fixed) rows) (AreAlike (IsInPlay fixed width) rows) classes to (λ j k j_in k_in alike column is. alike column (inl is)) are
  where
    past : (j column : ℕ) → j < length rows → width ≤ column → slice_get (row_of rows j) column ≡ None
    past j column j_in behind = slice_get_past (row_of rows j) column (omega (arith, wide j [] j_in, behind))

    to : (j k : ℕ) → j < length rows → k < length rows → AreAlike (Contains fixed) rows j k → AreAlike (IsInPlay fixed width) rows j k
    to j k j_in k_in alike column (inl is) = alike column is
    to j k j_in k_in alike column (inr behind) = past j column j_in behind ∙ sym (past k column k_in behind)

-- a column before those in play is one more
before_in_play : (fixed : List ℕ) (column : ℕ) → IsOneMore (IsInPlay fixed (column + 1)) (IsInPlay fixed column) column
before_in_play fixed column = record {
  added = inr (omega arith);
  kept = λ c is. elim is [ inl among ↦ inl among | inr behind ↦ inr (omega (arith, behind)) ];
  only = λ c is. elim is [
    | inl among ↦ inl (inl among)
    | inr behind ↦ elim (cases_lt column c) [ inl less ↦ inl (inr (omega (arith, less))) | inr most ↦ inr (omega (arith, behind, most)) ]
  ];
}

-- split by the last column that is not yet in play, the classes are those of the rows that agree there too
pub play_goes_on : (fixed : List ℕ) (width column from : ℕ) (rows : List (List Bool)) (classes split : List ℕ) → All (λ (row : List Bool). length row ≡ width) rows → column < width → column + 1 ≡ from → AreClasses (length rows) (AreAlike (IsInPlay fixed from) rows) classes → AreClasses (length classes) (AreTogether classes (bits_at rows column)) split → AreClasses (length rows) (AreAlike (IsInPlay fixed column) rows) split
play_goes_on fixed width column from rows classes split wide below next are parts =
    split_alike (IsInPlay fixed from) (IsInPlay fixed column) rows column classes split (λ k d k_in. omega (arith, wide k d k_in, below))
    (subst (λ n. IsOneMore (IsInPlay fixed n) (IsInPlay fixed column) column) next (before_in_play fixed column)) are parts

-- the next of listed columns is one more
pub next_listed : (columns : List ℕ) (k column : ℕ) → slice_get columns k ≡ Some column → IsOneMore (Contains (take k columns)) (Contains (take (k + 1) columns)) column
next_listed columns k column at =
    let next : suc k ≡ k + 1 = omega arith in
    let more : take (k + 1) columns ≡ take k columns ++ column ∷ [] = ap (λ n. take n columns) (sym next) ∙ take_at_more columns k column at in
    record {
      added = subst (λ list. Contains list column) (sym more) (Contains-append_right (take k columns) (column ∷ []) column (Contains_first column []));
      kept = λ c is. subst (λ list. Contains list c) (sym more) (Contains-append_left (take k columns) (column ∷ []) c is);
      only = λ c is. elim (Contains-append_cases (take k columns) (column ∷ []) c (subst (λ list. Contains list c) more is)) [
        | inl old ↦ inl old
        | inr last ↦ inr (sym (only_one column c last))
      ];
    }

-- a row among all rows
one_row : (ones zeros : List (List Bool)) (i : ℕ) → i < length ones → row_of (ones ++ zeros) i ≡ row_of ones i
one_row ones zeros i i_in =
    get_or_from_slice_get (ones ++ zeros) i (row_of ones i) [] (slice_get-append_left ones zeros i (row_of ones i) (slice_get-get_or ones i [] i_in))

zero_row : (ones zeros : List (List Bool)) (j : ℕ) → j < length zeros → row_of (ones ++ zeros) (length ones + j) ≡ row_of zeros j
zero_row ones zeros j j_in =
    get_or_from_slice_get (ones ++ zeros) (length ones + j) (row_of zeros j) [] (slice_get-back ones zeros (length ones + j) j refl ∙ slice_get-get_or zeros j [] j_in)

-- where no class has rows of both kinds, the columns tell the ones from the zeros
pub unmixed_tell : (fixed : List ℕ) (from : ℕ) (ones zeros : List (List Bool)) (classes : List ℕ) → AreClasses (length (ones ++ zeros)) (AreAlike (IsInPlay fixed from) (ones ++ zeros)) classes → AreUnmixed (length ones) classes → TellInPlay fixed from ones zeros
unmixed_tell fixed from ones zeros classes are unmixed one other among_ones among_zeros agree =
    let rows = ones ++ zeros in
    let (i, i_at) = place_of ones one among_ones in
    let (j, j_at) = place_of zeros other among_zeros in
    let i_in = slice_get_within ones i one i_at in
    let j_in = slice_get_within zeros j other j_at in
    let all = length-append ones zeros in
    let k = length ones + j in
    let (first, at) = item_at classes k (omega (arith, are.count, all, j_in)) in
    let is_one_row : row_of rows i ≡ one = one_row ones zeros i i_in ∙ get_or_from_slice_get ones i one [] i_at in
    let is_other_row : row_of rows k ≡ other = zero_row ones zeros j j_in ∙ get_or_from_slice_get zeros j other [] j_at in
    let least = (are.firsts k first at).least i (omega (arith, all, i_in)) (λ column is.
    ap (λ row. slice_get row column) is_one_row ∙ agree column is ∙ ap (λ row. slice_get row column) (sym is_other_row)) in
    omega (arith, least, i_in, unmixed k first (omega arith) at)

-- and where one has, two rows of it show that they don't
pub mixed_show : (fixed : List ℕ) (from : ℕ) (ones zeros : List (List Bool)) (classes : List ℕ) (pair : Alike) → AreClasses (length (ones ++ zeros)) (AreAlike (IsInPlay fixed from) (ones ++ zeros)) classes → IsMixed (length ones) classes pair → ShowsAlike fixed from ones zeros pair
mixed_show fixed from ones zeros classes pair are mixed =
    let k = length ones + pair.zero in
    let zero_in : pair.zero < length zeros = omega (arith, slice_get_within classes k pair.one mixed.named, are.count, length-append ones zeros) in
    record {
      one_in = mixed.one_in;
      zero_in = zero_in;
      alike = λ column is.
          ap (λ row. slice_get row column) (sym (one_row ones zeros pair.one mixed.one_in)) ∙ (are.firsts k pair.one mixed.named).related column is
          ∙ ap (λ row. slice_get row column) (zero_row ones zeros pair.zero zero_in);
    }

-- which contradicts that columns among those in play tell them apart
pub shown_not_told : (fixed : List ℕ) (from to : ℕ) (ones zeros : List (List Bool)) (pair : Alike) → from ≤ to → ShowsAlike fixed from ones zeros pair → TellInPlay fixed to ones zeros → ⊥
shown_not_told fixed from to ones zeros pair before shown tell =
    let one = row_of ones pair.one in
    let other = row_of zeros pair.zero in
    tell one other (Contains_at ones pair.one one (slice_get-get_or ones pair.one [] shown.one_in)) (Contains_at zeros pair.zero other (slice_get-get_or zeros pair.zero [] shown.zero_in))
    (λ column is. shown.alike column (elim is [ inl among ↦ inl among | inr behind ↦ inr (omega (arith, before, behind)) ]))

-- what holds of all rows holds of the zeros
pub zeros_have : (P : List Bool → Type 0) (ones zeros : List (List Bool)) → All P (ones ++ zeros) → All P zeros
zeros_have P ones zeros all =
    All_from_places P zeros (λ k row at. All_at P (ones ++ zeros) (length ones + k) row all (slice_get-back ones zeros (length ones + k) k refl ∙ at))
