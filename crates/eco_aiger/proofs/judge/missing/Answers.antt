use Rattle.std.proofs.Common.{sym, subst}
use Rattle.eco_aiger.specs.Defined.{is_missing}
use Rattle.eco_aiger.proofs.JudgeLaws.{Found, missing_found}
use Rattle.eco_aiger.proofs.judge.missing.Goals as goal

pub returns : goal.returns
returns c =
    subst (Found (is_missing c.args.defined.now c.args.used.now)) (sym c.unknown-least.ensures)
    (missing_found c.args.defined.now c.args.used.now c.in_ok-known.known.keys c.in_ok-known.ensures)
