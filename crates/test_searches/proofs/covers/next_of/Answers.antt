-- Rows of ones and rows of zeros differ at the last column.
use Rattle.std.proofs.Common.{◌≡◌, ◌<◌, inr, ℕ, Bool, true, false, List, Some, length, All, sym, ◌∙◌, ap, subst, arith}
use Rattle.std.specs.Prelude.{replicate}
use Rattle.std.specs.List.{slice_get}
use Rattle.std.proofs.lemmas.List.{length-replicate}
use Rattle.std.proofs.lemmas.List.Elements.{All-contains, All-weaker}
use Rattle.eco_cover.specs.InPlay.{TellInPlay}
use Rattle.test_searches.proofs.covers.next_of.Goals as goal

widths : (bit : Bool) (rows given : List (List Bool)) → given ≡ rows → All (λ row. row ≡ replicate 3 bit) rows → All (λ row. length row ≡ 3) given
widths bit rows given same all =
    subst (All (λ row. length row ≡ 3)) (sym same)
    (All-weaker (λ row. row ≡ replicate 3 bit) (λ row. length row ≡ 3) (λ row e. ap length e ∙ length-replicate 3 bit) rows all)

apart : (fixed : List ℕ) (from : ℕ) (ones zeros : List (List Bool)) → from < 3 → All (λ row. row ≡ replicate 3 true) ones → All (λ row. row ≡ replicate 3 false) zeros → TellInPlay fixed from ones zeros
apart fixed from ones zeros before all_ones all_zeros x y in_ones in_zeros agree =
    let first : x ≡ replicate 3 true = All-contains (λ row. row ≡ replicate 3 true) ones x all_ones in_ones in
    let second : y ≡ replicate 3 false = All-contains (λ row. row ≡ replicate 3 false) zeros y all_zeros in_zeros in
    let same : Some true ≡ Some false = sym (ap (λ (row : List Bool). slice_get row 2) first) ∙ agree 2 (inr (omega (arith, before))) ∙ ap (λ (row : List Bool). slice_get row 2) second in
    cc

pub next-requires-clause-ones : goal.next-requires-clause-ones
next-requires-clause-ones c = widths true c.in_ok-ones.ones.items _ c.as_slice.ensures.value c.in_ok-ones.ensures

pub next-requires-clause-zeros : goal.next-requires-clause-zeros
next-requires-clause-zeros c = widths false c.in_ok-zeros.zeros.items _ c.as_slice-2.ensures.value c.in_ok-zeros.ensures

pub next-requires-clause-apart : goal.next-requires-clause-apart
next-requires-clause-apart c =
    let both : (first second : List (List Bool)) → first ≡ c.in_ok-ones.ones.items → second ≡ c.in_ok-zeros.zeros.items → TellInPlay c.args.fixed.now c.args.from first second =
    λ first second one_is zero_is. apart c.args.fixed.now c.args.from first second c.requires.from
    (subst (All (λ row. row ≡ replicate 3 true)) (sym one_is) c.in_ok-ones.ensures)
    (subst (All (λ row. row ≡ replicate 3 false)) (sym zero_is) c.in_ok-zeros.ensures) in
    both _ _ c.as_slice.ensures.value c.as_slice-2.ensures.value
