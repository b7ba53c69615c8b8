-- The clause so far, and the chain that gives it.
use Rattle.std.specs.Prelude.{List}
use Rattle.eco_trace.specs.declared.clause.Lit.{Lit}
use Rattle.eco_learn.specs.Trails.{Known}
use Rattle.eco_learn.specs.Marks.{IsSoFar}
use Rattle.eco_learn.specs.declared.chain.Chain.{Chain}

-- the chain gives the clause that its set of variables marks on the trail
abbrev pub IsChainSoFar : List (List Lit) → Known → Chain → Type 0
IsChainSoFar clauses k chain = IsSoFar clauses k chain.start chain.links.items chain.marks
