use Rattle.eco_references.proofs.ReferenceLaws.{kept_by_forced, references_keep, references_rectify}
use Rattle.eco_references.proofs.following.references_show_kept.Goals as goal

pub returns : goal.returns
returns c = record { forced = kept_by_forced; keep = references_keep; rectify = references_rectify }
