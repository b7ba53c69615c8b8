use Rattle.eco_cli.proofs.Answering.{misnumbered}
use Rattle.eco_cli.proofs.Making.{help_unmade, number_unmade}
use Rattle.eco_cli.proofs.Numbers.{some_numbers}
use Rattle.eco_cli.proofs.top.answered.Goals as goal

pub commanded-requires : goal.commanded-requires
commanded-requires g c = record { numbers = some_numbers _ c.in-Ok.invocation c.in-Ok.ensures.command }

pub returns-in-Ok-clause-answered : goal.returns-in-Ok-clause-answered
returns-in-Ok-clause-answered g c = c.commanded.ensures.answered _ c.in-Ok.ensures.command

pub returns-in-Ok-clause-kept : goal.returns-in-Ok-clause-kept
returns-in-Ok-clause-kept g c = c.commanded.ensures.kept _ c.in-Ok.ensures.command

pub returns-in-Err-Help-clause-kept : goal.returns-in-Err-Help-clause-kept
returns-in-Err-Help-clause-kept g c =
    help_unmade _ c.read.ensures.one _ _ _ _ _ _ c.say.ensures.unmade (rw c.in-Err-Help.field-0-is at c.in-Err-Help.ensures.cause)

pub returns-in-Err-Number-clause-kept : goal.returns-in-Err-Number-clause-kept
returns-in-Err-Number-clause-kept g c =
    number_unmade _ c.read.ensures.one _ _ _ _ _ _ c.say-in-Err-Number.ensures.unmade c.in-Err-Number.option
    (rw c.in-Err-Number.field-0-is at c.in-Err-Number.ensures.cause)

pub returns-in-Err-Number-clause-answered : goal.returns-in-Err-Number-clause-answered
returns-in-Err-Number-clause-answered g c =
    misnumbered _ _ _ _ c.in-Err-Number.option _ _ _ (rw c.in-Err-Number.field-0-is at c.in-Err-Number.ensures.cause)
    (rw c.in-Err-Number.field-0-is at c.usage_text.ensures) c.say-in-Err-Number.ensures.none c.say-in-Err-Number.ensures.put
