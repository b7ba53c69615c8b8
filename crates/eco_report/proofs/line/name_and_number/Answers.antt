use Rattle.eco_report.proofs.LineLaws.{fields_are, no_fields}
use Rattle.eco_report.proofs.line.name_and_number.Goals as goal

pub returns-in-Some : goal.returns-in-Some
returns-in-Some c = fields_are c.args.fields.now _ _ c.pair_of.result c.in-Some.ensures c.pair_of.ensures

pub returns-in-None : goal.returns-in-None
returns-in-None c = no_fields c.args.fields.now c.in-None.ensures
