-- The texts of clauses and of proofs, byte by byte: numbers are decimal, and lines end in a line feed.
use Rattle.std.specs.Prelude.{ℕ, ◌+◌, List, [], ◌++◌, length, codes, decimal, if◌then◌else◌}
use Rattle.std.specs.List.{flat_map}
use Rattle.eco_trace.specs.declared.clause.Lit.{Lit}
use Rattle.eco_trace.specs.declared.node.NodeId.{NodeId}
use Rattle.eco_trace.specs.declared.node.Link.{Link}
use Rattle.eco_trace.specs.Clauses.{Clauses}
use Rattle.eco_trace.specs.Resolution.{Proof, Learnt}

-- a literal: its variable's number, behind `-` where it is negated
abbrev pub lit_text : Lit → List ℕ
lit_text l = (if l.positive then [] else codes "-") ++ decimal l.var.0

-- a clause: its literals by rising variables, each followed by a blank, then `0`
abbrev pub clause_text : List Lit → List ℕ
clause_text clause = flat_map (λ l. lit_text l ++ codes " ") clause ++ codes "0\n"

-- `p cnf V C`, then a line for each clause
abbrev pub cnf_text : Clauses → List ℕ
cnf_text c =
    codes "p cnf " ++ decimal c.vars ++ codes " " ++ decimal (length c.clauses) ++ codes "\n"
    ++ flat_map clause_text c.clauses

-- a link: its pivot and its clause's id, each followed by a blank; ids count from 1, nodes from 0
abbrev pub link_text : Link → List ℕ
link_text link = decimal link.pivot.0 ++ codes " " ++ decimal (link.with.0 + 1) ++ codes " "

-- the line of a chain: the id that it starts with, its links, then `0`
abbrev pub chain_text : NodeId → List Link → List ℕ
chain_text start links = decimal (start.0 + 1) ++ codes " " ++ flat_map link_text links ++ codes "0\n"

-- the line of a learnt clause: that of its chain
abbrev pub learnt_text : Learnt → List ℕ
learnt_text n = chain_text n.start n.links

-- a line for each learnt clause
abbrev pub trace_text : Proof → List ℕ
trace_text p = flat_map learnt_text p.learnt
