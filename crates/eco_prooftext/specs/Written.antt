-- What is written is read back: the text of a proof is that of its steps, and the text of clauses is theirs.
use Rattle.std.specs.Prelude.{◌≡◌, ℕ, ◌+◌, ◌≤◌, length, map}
use Rattle.eco_trace.specs.declared.node.Link.{Link}
use Rattle.eco_trace.specs.Resolution.{Proof, Learnt, IsLegal, clauses_of}
use Rattle.eco_trace.specs.Clauses.{Clauses, AreFormed}
use Rattle.eco_check.specs.Steps.{StepValue}
use Rattle.eco_prooftext.specs.TraceFile.{IsTraceText}
use Rattle.eco_prooftext.specs.CnfFile.{IsCnfText}
use Rattle.eco_prooftext.specs.Texts.{trace_text, cnf_text}

-- a link as a pair of a step, and the chain of a learnt clause as a step: ids count from 1, nodes from 0
abbrev pub pair_of : Link → ℕ × ℕ
pair_of link = (link.pivot.0, link.with.0 + 1)

abbrev pub step_of : Learnt → StepValue
step_of n = record { start = n.start.0 + 1; links = map pair_of n.links }

-- a legal proof that begins with these clauses, whose variables are from 1 to at most 2 ^ 63 - 1, and has at most
-- 2 ^ 63 - 1 clauses itself
pub record IsWritable (c : Clauses) (p : Proof) : Type 0 where
  pub formed : AreFormed c
  pub vars_limit : c.vars ≤ 9223372036854775807
  pub originals : p.originals ≡ c.clauses
  pub legal : IsLegal p
  pub few : length (clauses_of p) ≤ 9223372036854775807

-- what is written of a proof is the text of its chains
abbrev pub IsReadBack : Proof → Type 0
IsReadBack p = IsTraceText (trace_text p) (map step_of p.learnt)

-- clauses over the variables from 1 to `vars` that texts have room for: the header's numbers are at most 2 ^ 63 - 1
pub record HasRoom (c : Clauses) : Type 0 where
  pub formed : AreFormed c
  pub vars_limit : c.vars ≤ 9223372036854775807
  pub count_limit : length c.clauses ≤ 9223372036854775807

-- what is written of clauses is the text of these clauses
abbrev pub AreReadBack : Clauses → Type 0
AreReadBack c = IsCnfText (cnf_text c) c
