-- The variables so far are read.
use Rattle.std.proofs.Common.{◌≡◌, take}
use Rattle.eco_trace.specs.Clauses.{valuation_of}
use Rattle.eco_tseitin.specs.Reading.{read_vars}
use Rattle.eco_accept.proofs.search.bits_of.Given as goal

abbrev pub invariant-loop-var : goal.invariant-loop-var
invariant-loop-var l = l.bits.items ≡ read_vars (valuation_of l.model) (take l.var-index l.vars)
