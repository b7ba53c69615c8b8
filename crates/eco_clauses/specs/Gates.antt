-- The clauses of gates.
use Rattle.std.specs.Prelude.{ℕ, List, [], ◌∷◌, ◌++◌, map}
use Rattle.eco_meaning.specs.declared.kind.Kind.{Kind}
use Rattle.eco_meaning.specs.declared.kind.Kind.TheVariants.{And, Nand, Or, Nor, Xor, Xnor, Buf, Not}
use Rattle.eco_meaning.specs.declared.name.Operand.{Operand}
use Rattle.eco_meaning.specs.declared.name.Operand.TheVariants.{Zero, One, Named}
use Rattle.eco_meaning.specs.Circuit.{NamedGate}
use Rattle.eco_trace.specs.declared.clause.Lit.{Lit}
use Rattle.eco_trace.specs.Clauses.{Clauses, complement}
use Rattle.eco_clauses.specs.Listing.{constant, with_lists, with_variables, next_literal}

-- o is the conjunction of the literals: (not o, i) for each i, and then (o, not i1, .., not im)
abbrev pub and_clauses : Lit → List Lit → List (List Lit)
and_clauses o ins = map (λ i. complement o ∷ i ∷ []) ins ++ (o ∷ map complement ins) ∷ []

-- o is the disjunction of the literals: (o, not i) for each i, and then (not o, i1, .., im)
abbrev pub or_clauses : Lit → List Lit → List (List Lit)
or_clauses o ins = map (λ i. o ∷ complement i ∷ []) ins ++ (complement o ∷ ins) ∷ []

-- p is the exclusive or of a and b
abbrev pub xor_clauses : Lit → Lit → Lit → List (List Lit)
xor_clauses p a b =
    (complement p ∷ a ∷ b ∷ [])
    ∷ (complement p ∷ complement a ∷ complement b ∷ [])
    ∷ (p ∷ complement a ∷ b ∷ [])
    ∷ (p ∷ a ∷ complement b ∷ [])
    ∷ []

-- a new variable is the exclusive or of a and b
abbrev pub with_xor : Clauses → Lit → Lit → Clauses
with_xor c a b = with_lists (with_variables 1 c) (xor_clauses (next_literal c) a b)

-- o is the exclusive or of a and further literals: from a on, each result but the last is a new variable
abbrev pub with_chain : Clauses → Lit → Lit → List Lit → Clauses
with_chain c o a [] = with_lists c (and_clauses o (a ∷ []))
with_chain c o a (b ∷ []) = with_lists c (xor_clauses o a b)
with_chain c o a (b ∷ d ∷ further) = with_chain (with_xor c a b) o (next_literal c) (d ∷ further)

-- o is the exclusive or of the literals, of which there is one at least
abbrev pub with_parity : Clauses → Lit → List Lit → Clauses
with_parity c o [] = c
with_parity c o (a ∷ further) = with_chain c o a further

-- o is what a gate of this kind gives of the literals
abbrev pub with_kind : Clauses → Kind → Lit → List Lit → Clauses
with_kind c And o ins = with_lists c (and_clauses o ins)
with_kind c Nand o ins = with_lists c (and_clauses (complement o) ins)
with_kind c Or o ins = with_lists c (or_clauses o ins)
with_kind c Nor o ins = with_lists c (or_clauses (complement o) ins)
with_kind c Xor o ins = with_parity c o ins
with_kind c Xnor o ins = with_parity c (complement o) ins
with_kind c Buf o ins = with_lists c (and_clauses o ins)
with_kind c Not o ins = with_lists c (and_clauses (complement o) ins)

-- the literal of what a gate's input reads, where nets have these literals
abbrev pub operand_literal : (List ℕ → Lit) → Operand → Lit
operand_literal literal Zero = complement constant
operand_literal literal One = constant
operand_literal literal (Named name) = literal name

-- the clauses of a gate
abbrev pub with_gate : (List ℕ → Lit) → Clauses → NamedGate → Clauses
with_gate literal c g = with_kind c g.kind (literal g.out) (map (operand_literal literal) g.terms)

-- the clauses of gates, in order
abbrev pub with_gates : (List ℕ → Lit) → Clauses → List NamedGate → Clauses
with_gates literal c [] = c
with_gates literal c (g ∷ gates) = with_gates literal (with_gate literal c g) gates
