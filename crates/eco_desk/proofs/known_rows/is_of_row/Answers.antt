-- Equal slices.
use Rattle.std.proofs.Common.{sym, ◌∙◌}
use Rattle.std.specs.Cmp.{booleans_Decides}
use Rattle.std.proofs.lemmas.Slice.Eq.{slice_eq-Decides}
use Rattle.eco_desk.proofs.known_rows.is_of_row.Goals as goal

pub returns : goal.returns
returns c same = sym c.as_slice.ensures ∙ (slice_eq-Decides booleans_Decides c.as_slice.result.now c.args.row.now c.eq.result c.eq.ensures).0 same
