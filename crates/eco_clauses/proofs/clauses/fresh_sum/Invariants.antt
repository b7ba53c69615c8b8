-- The chain from the sum so far on is the whole one.
use Rattle.std.proofs.Common.{◌≡◌, ◌≤◌, [], ◌∷◌, ◌++◌, drop}
use Rattle.eco_trace.specs.declared.clause.Lit.{Lit}
use Rattle.eco_trace.specs.Clauses.{IsVarWithin}
use Rattle.eco_clauses.specs.Gates.{with_chain}
use Rattle.eco_clauses.proofs.clauses.fresh_sum.Given as goal

abbrev pub invariant-loop-lit : goal.invariant-loop-lit
invariant-loop-lit l = record {
  left : (out last : Lit) → with_chain l.cnf out l.sum (drop l.lit-index l.further ++ last ∷ []) ≡ with_chain l.initial.cnf out l.fn.first (l.further ++ last ∷ []);
  sum : IsVarWithin l.cnf.vars l.sum;
  more : l.initial.cnf.vars ≤ l.cnf.vars;
}
