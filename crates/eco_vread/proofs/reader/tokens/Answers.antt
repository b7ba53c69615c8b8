use Rattle.std.proofs.Common.{refl}
use Rattle.eco_vread.proofs.reader.tokens.Goals as goal

pub returns-in-Err-Syntax-clause-found : goal.returns-in-Err-Syntax-clause-found
returns-in-Err-Syntax-clause-found c =
    let none = rw c.in-Err-Syntax.field-0-is at c.in-Err-Syntax.ensures.placed in
    λ fault. none refl
