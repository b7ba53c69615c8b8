use Rattle.std.proofs.Common.{ap}
use Rattle.eco_trace.specs.Clauses.{Clauses}
use Rattle.eco_tseitin.proofs.Growing.{empty_encoding}
use Rattle.eco_tseitin.proofs.encoder.Encoder.new.Goals as goal

pub returns-clause-encoding : goal.returns-clause-encoding
returns-clause-encoding c = λ graph is.
    empty_encoding graph _ is c.new.ensures.empty (ap (λ (x : Clauses). x.clauses) c.new-2.ensures.empty)
