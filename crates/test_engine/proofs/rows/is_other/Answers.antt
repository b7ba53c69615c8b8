-- Slices that are the same are equal.
use Rattle.std.proofs.Common.{◌≡◌, true, false, refl, sym, ◌∙◌, ap}
use Rattle.std.specs.Prelude.{not}
use Rattle.std.specs.Cmp.{booleans_Decides}
use Rattle.std.proofs.lemmas.Slice.Eq.{slice_eq-Decides}
use Rattle.test_engine.proofs.rows.is_other.Goals as goal

apart : true ≡ false → ⊥
apart same = cc

pub returns : goal.returns
returns c differ same =
    let equal = (slice_eq-Decides booleans_Decides c.as_slice.result.now c.as_slice-2.result.now _ refl).1 (c.as_slice.ensures ∙ same ∙ sym c.as_slice-2.ensures) in
    apart (sym differ ∙ c.ne.ensures ∙ ap not equal)
