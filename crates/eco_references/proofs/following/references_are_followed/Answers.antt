use Rattle.eco_references.proofs.ReferenceLaws.{references_go_on, later_stay, followers_are_right}
use Rattle.eco_references.proofs.following.references_are_followed.Goals as goal

pub returns : goal.returns
returns c = record { go_on = references_go_on; stay = later_stay; right = followers_are_right }
