use Rattle.std.proofs.lemmas.Result.{IfOk-weaker}
use Rattle.eco_netlist.specs.declared.draft.TargetRule.TheVariants.{Never}
use Rattle.eco_inputs.specs.Kinds.{netlist_kind}
use Rattle.eco_inputs.specs.Reading.{IsPassed, file_row}
use Rattle.eco_inputs.proofs.ClosedText.{closed_text}
use Rattle.eco_inputs.proofs.kinds.closed_netlist.Goals as goal

pub returns-clause-closed : goal.returns-clause-closed
returns-clause-closed g c =
    IfOk-weaker c.read_file.result (IsPassed (file_row (netlist_kind Never) c.args.path.now c.args.most) _ _) _
    (λ n passed. closed_text passed.passed.bytes n passed.passed.holds) c.read_file.ensures.ok
