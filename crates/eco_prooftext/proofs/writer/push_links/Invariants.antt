use Rattle.std.proofs.Common.{◌≡◌, ◌++◌, take}
use Rattle.std.specs.List.{flat_map}
use Rattle.eco_prooftext.specs.Texts.{link_text}
use Rattle.eco_prooftext.proofs.writer.push_links.Given as goal

abbrev pub invariant-loop-link : goal.invariant-loop-link
invariant-loop-link l =
    l.text.items ≡ l.initial.text.items ++ flat_map link_text (take l.link-index l.links)
