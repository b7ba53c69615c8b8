-- What the draft's refusal says is said of what the file declares.
use Rattle.std.proofs.Common.{subst}
use Rattle.eco_netlist.specs.Draft.{Declared}
use Rattle.eco_netlist.specs.Refusals.{Refuses}
use Rattle.eco_vread.proofs.reader.netlist_of.Goals as goal

pub returns-in-Err-Refused-clause-refused : goal.returns-in-Err-Refused-clause-refused
returns-in-Err-Refused-clause-refused c =
    let refused = rw c.in-Err-Refused.field-0-is at c.in-Err-Refused.ensures.refused in
    subst (λ (declared : Declared). Refuses c.args.rule declared c.in-Err-Refused.refusal) c.in_ok-draft.ensures refused
