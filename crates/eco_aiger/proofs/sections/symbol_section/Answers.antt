use Rattle.eco_aiger.proofs.SectionLaws.{symbols_ok, symbols_err}
use Rattle.eco_aiger.proofs.sections.symbol_section.Goals as goal

pub returns-clause-ok : goal.returns-clause-ok
returns-clause-ok c = symbols_ok c.args.inputs c.args.outputs c.args.lines.now _ c.before_comment.result c.split_at.ensures.front c.before_comment.ensures c.symbols.result c.symbols.ensures.ok

pub returns-clause-err : goal.returns-clause-err
returns-clause-err c = symbols_err c.args.inputs c.args.outputs c.args.lines.now _ c.before_comment.result c.split_at.ensures.front c.before_comment.ensures c.symbols.result c.symbols.ensures.err
