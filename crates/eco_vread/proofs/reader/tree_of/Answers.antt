use Rattle.std.proofs.Common.{refl}
use Rattle.eco_vread.specs.Trees.{file_of}
use Rattle.eco_vread.proofs.Uniqueness.{text_of_read, no_text_of_none}
use Rattle.eco_vread.proofs.reader.tree_of.Goals as goal

pub returns-in-Ok-clause-text : goal.returns-in-Ok-clause-text
returns-in-Ok-clause-text c = text_of_read c.args.bytes.now (file_of c.in-Ok.tree) c.in-Ok.ensures

pub returns-in-Err-Syntax-clause-none : goal.returns-in-Err-Syntax-clause-none
returns-in-Err-Syntax-clause-none c =
    let none = rw c.in-Err-Syntax.field-0-is at c.in-Err-Syntax.ensures in
    no_text_of_none c.args.bytes.now (none refl)
