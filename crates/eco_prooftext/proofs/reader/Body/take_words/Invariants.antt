use Rattle.std.proofs.Common.{map, take}
use Rattle.eco_prooftext.specs.CnfFile.{Word}
use Rattle.eco_prooftext.specs.Reading.{Continues, Leads}
use Rattle.eco_prooftext.proofs.reader.Body.take_words.Given as goal

abbrev pub invariant-loop-word : goal.invariant-loop-word
invariant-loop-word l = Leads Continues l.initial.self (map (λ word. Word word.now) (take l.word-index l.words)) l.self
