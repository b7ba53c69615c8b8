-- What rows of signals' values tell of two inputs, column by column: proofs.
use Rattle.std.proofs.Common.{◌≡◌, inl, inr, ℕ, ◌+◌, ◌-◌, List, ◌++◌, Some, option_map, length, map, refl, sym, ◌∙◌, ap, subst, arith}
use Rattle.std.specs.List.{slice_get, Contains}
use Rattle.std.proofs.lemmas.List.{length-map}
use Rattle.std.proofs.lemmas.Option.{same_Some, slice_get_past, slice_get-map}
use Rattle.std.proofs.lemmas.Bool.{cases_lt}
use Rattle.eco_lists.proofs.Places.{item_at, slice_get-back}
use Rattle.eco_lists.proofs.Members.{Contains-map, map-Contains}
use Rattle.eco_meaning.specs.Circuit.{Values}
use Rattle.eco_meaning.specs.Choice.{AgreeAt}
use Rattle.eco_laws.specs.Front.{Working}
use Rattle.eco_laws.specs.Columns.{HasColumnInPlay, AgreeInPlay, RowsTell, WorkingIsInPlay}

-- the bit in a column is the value of the signal there
bit_at : (v : Values) (signals : List (List ℕ)) (column : ℕ) (name : List ℕ) → slice_get signals column ≡ Some name → slice_get (map v signals) column ≡ Some (v name)
bit_at v signals column name at = slice_get-map v signals column ∙ ap (option_map v) at

pub rows_tell : RowsTell
rows_tell f p earlier signals fixed from x y at_x at_y are_x are_y = (to_rows, from_rows)
  where
    to_rows : AgreeAt f p earlier (HasColumnInPlay signals fixed from) x y → AgreeInPlay fixed from at_x at_y
    to_rows agree column in_play =
        let (v, reached_x) = are_x.some in
        let (u, reached_y) = are_y.some in
        let is_x : map v signals ≡ at_x = are_x.only v reached_x in
        let is_y : map u signals ≡ at_y = are_y.only u reached_y in
        elim (cases_lt column (length signals)) [
          | inl within ↦
              let (name, at) = item_at signals column within in
              let same = agree v u reached_x reached_y name (column, in_play, at) in
              ap (λ row. slice_get row column) (sym is_x) ∙ bit_at v signals column name at ∙ ap Some same ∙ sym (bit_at u signals column name at) ∙ ap (λ row. slice_get row column) is_y
          | inr past ↦
              let none_x = slice_get_past at_x column (omega (arith, ap length is_x, length-map signals v)) in
              let none_y = slice_get_past at_y column (omega (arith, ap length is_y, length-map signals u)) in
              none_x ∙ sym none_y
        ]

    from_rows : AgreeInPlay fixed from at_x at_y → AgreeAt f p earlier (HasColumnInPlay signals fixed from) x y
    from_rows agree v u reached_x reached_y name (column, in_play, at) =
        same_Some (v name) (u name)
        (sym (bit_at v signals column name at) ∙ ap (λ row. slice_get row column) (are_x.only v reached_x) ∙ agree column in_play
        ∙ ap (λ row. slice_get row column) (sym (are_y.only u reached_y)) ∙ bit_at u signals column name at)

pub working_is_in_play : WorkingIsInPlay
working_is_in_play paid turns kept fixed place columns name = (to_columns, from_columns)
  where
    to_columns : Working (paid ++ kept) turns place name → HasColumnInPlay (paid ++ turns) fixed (length paid + place) name
    to_columns (inl among) =
        let (column, is_fixed, at) = map-Contains (slice_get (paid ++ turns)) fixed (Some name) (subst (λ list. Contains list (Some name)) (sym columns) (Contains-map Some (paid ++ kept) name among)) in
        (column, inl is_fixed, at)
    to_columns (inr (j, from, at)) = (length paid + j, inr (omega arith), slice_get-back paid turns (length paid + j) j refl ∙ at)

    from_columns : HasColumnInPlay (paid ++ turns) fixed (length paid + place) name → Working (paid ++ kept) turns place name
    from_columns (column, inr from, at) =
        inr (column - length paid, omega arith, sym (slice_get-back paid turns column (column - length paid) (omega arith)) ∙ at)
    from_columns (column, inl is_fixed, at) =
        let listed : Contains (map Some (paid ++ kept)) (Some name) =
        subst (λ list. Contains list (Some name)) columns (subst (Contains (map (slice_get (paid ++ turns)) fixed)) at (Contains-map (slice_get (paid ++ turns)) fixed column is_fixed)) in
        let (other, among, same) = map-Contains Some (paid ++ kept) (Some name) listed in
        inl (subst (Contains (paid ++ kept)) (same_Some other name same) among)
