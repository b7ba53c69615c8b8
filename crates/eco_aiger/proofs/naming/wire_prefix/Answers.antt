use Rattle.std.proofs.Common.{map}
use Rattle.std.proofs.lemmas.Result.{IfOk-weaker}
use Rattle.eco_aiger.proofs.NameLaws.{prefix_printing}
use Rattle.eco_aiger.proofs.naming.wire_prefix.Goals as goal

pub returns-clause-printing : goal.returns-clause-printing
returns-clause-printing c =
    IfOk-weaker c.fresh_prefix.result _ _ (λ prefix is. prefix_printing (map (λ name. name.now) c.as_slice.result.now) prefix.items is) c.fresh_prefix.ensures.value
