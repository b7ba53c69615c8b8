use Rattle.std.proofs.Common.{rules, tests, refl}
use Rattle.std.specs.Prelude.{◌==◌}
use Rattle.std.proofs.lemmas.Iterator.Consumers.{map_from_collect}
use Rattle.std.proofs.lemmas.Iterator.Splits.{YieldsList-from_slice_split}
use Rattle.std.proofs.lemmas.Result.{IfOk-at_ok}
use Rattle.eco_aiger.proofs.lines.words_of.Goals as goal

pub returns : goal.returns
returns c =
    IfOk-at_ok _ c.in_ok-words.was
    (map_from_collect _ c.collect.ensures.ran
    (YieldsList-from_slice_split _ (λ b. b == 32) c.args.line.now (cc) (cc) refl (λ x r q k. search (rules, tests))))
