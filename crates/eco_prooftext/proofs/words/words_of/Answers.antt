use Rattle.std.proofs.Common.{rules, tests, refl, not, length}
use Rattle.std.specs.Prelude.{◌==◌}
use Rattle.std.proofs.lemmas.Iterator.Consumers.{map_from_collect, YieldsList-from_filter}
use Rattle.std.proofs.lemmas.Iterator.Splits.{YieldsList-from_slice_split}
use Rattle.eco_prooftext.specs.CnfFile.{is_blank}
use Rattle.std.proofs.lemmas.Result.{IfOk-at_ok}
use Rattle.eco_prooftext.proofs.words.words_of.Goals as goal

pub returns : goal.returns
returns c =
    IfOk-at_ok _ c.in_ok-words.was
    (map_from_collect _ c.collect.ensures.ran
    (YieldsList-from_filter _ (λ word. not (length word == 0))
    (YieldsList-from_slice_split _ is_blank c.args.line.now (cc) (cc) refl (λ x r q k. search (rules, tests)))
    (cc) (λ x r q k. search (rules, tests))))
