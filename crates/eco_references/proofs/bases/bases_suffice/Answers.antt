use Rattle.eco_references.proofs.BaseLaws.{kept_suffices, determined_suffices, prefixes_keep}
use Rattle.eco_references.proofs.bases.bases_suffice.Goals as goal

pub returns : goal.returns
returns c = record { kept = kept_suffices; determined = determined_suffices; prefixes = prefixes_keep }
