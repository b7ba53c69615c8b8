-- A model is read as an input on which they differ.
use Rattle.std.proofs.Common.{sym, subst}
use Rattle.eco_meaning.specs.Meaning.{everywhere, IsWrong}
use Rattle.eco_trace.specs.Clauses.{valuation_of}
use Rattle.eco_pose.proofs.comparing.differs.Goals as goal

pub returns : goal.returns
returns c left right is =
    subst (IsWrong left (everywhere right)) (sym c.in_ok-input.ensures) (is.asks.models (valuation_of c.args.model) c.requires.satisfies)
