-- A proof whose clauses are in two parts, and what is looked up of its variables.
use Rattle.std.specs.Prelude.{◌≡◌, ◌↔◌, ◌-◌, ℕ, Bool, true, false, ◌&&◌, ◌||◌, not, is_some, slice_get, List, Option, Some, Contains, All, length, nat_eq, unwrap_or, if◌then◌else◌}
use Rattle.std.specs.List.{list_any}
use Rattle.std.specs.HashMap.{get}
use Rattle.eco_trace.specs.declared.clause.Var.{Var}
use Rattle.eco_trace.specs.declared.clause.Lit.{Lit}
use Rattle.eco_trace.specs.Resolution.{clauses_before}
use Rattle.eco_aig.specs.declared.edge.Edge.{Edge}
use Rattle.eco_aig.specs.declared.node.Node.{Node}
use Rattle.eco_aig.specs.Edges.{complement, plain, value_of}
use Rattle.eco_aig.specs.Graph.{IsEdge}
use Rattle.eco_itp.specs.declared.parts.Parts.{Parts}
use Rattle.eco_trace.specs.Split.{Split, AreOfPart}
use Rattle.eco_trace.specs.Variables.{holds}

-- the clauses that the proof begins with, in their parts
abbrev pub split_of : Parts → Split
split_of p = record { clauses = p.trace.now.originals; marks = p.side.now }

-- whether the variable occurs in B
abbrev pub occurs : Parts → Var → Bool
occurs p x = holds p.in_b x

-- the variable's edge, if it has one
abbrev pub edge_of : Parts → Var → Option Edge
edge_of p x = get nat_eq p.edges x.0

-- whether the variable has an edge, if it occurs in B
abbrev pub has_needed_edge : Parts → Var → Bool
has_needed_edge p x = not (occurs p x) || is_some (edge_of p x)

-- each literal of the clause at this place has the edge that it needs, if the clause belongs to A
abbrev pub IsClauseCovered : Parts → ℕ → Type 0
IsClauseCovered p k = (clause : List Lit) → slice_get p.trace.now.originals k ≡ Some clause → slice_get p.side.now k ≡ Some true → All (λ l. has_needed_edge p l.var ≡ true) clause

-- the edge of a literal: its variable's, or the complement of it
abbrev pub literal_edge : Parts → Lit → Edge
literal_edge p l = if l.positive then unwrap_or (edge_of p l.var) (plain 0) else complement (unwrap_or (edge_of p l.var) (plain 0))

-- the disjunction of the edges of those literals whose variables occur in B
abbrev pub leaf_value : Parts → (ℕ → Bool) → List Lit → Bool
leaf_value p w clause = list_any (λ l. occurs p l.var && value_of w (literal_edge p l)) clause

-- the look-ups answer right, each variable that occurs in both parts has an edge, and the proof is legal
pub record AreParts (p : Parts) : Type 0 where
  pub marked : length p.side.now ≡ length p.trace.now.originals
  pub occurs_is : AreOfPart (split_of p) false (occurs p)
  pub edge_is : (x : Var) (e : Edge) → (edge_of p x ≡ Some e) ↔ Contains p.shared.now (x, e)

-- the edges of variables are edges of the graph
abbrev pub AreWithin : Parts → List Node → Type 0
AreWithin p nodes = All (λ pair. IsEdge nodes pair.1) p.shared.now

-- the clauses that stand before the node of this number
abbrev pub earlier : Parts → ℕ → List (List Lit)
earlier p n = clauses_before p.trace.now (n - length p.trace.now.originals)
