-- What encoding edges leaves.
use Rattle.std.specs.Prelude.{◌≡◌, ℕ, ◌<◌, ◌^◌, List, ◌++◌, length, map, Contains, All}
use Rattle.eco_aig.specs.declared.edge.Edge.{Edge}
use Rattle.eco_aig.specs.declared.node.Node.{Node}
use Rattle.eco_trace.specs.declared.clause.Lit.{Lit}
use Rattle.eco_trace.specs.Clauses.{AreFormed, IsVarWithin}
use Rattle.eco_tseitin.specs.Encoding.{Encoding, IsEncoding, literal_of}
use Rattle.eco_tseitin.specs.declared.sides.EncodedSide.{EncodedSide}

-- all these edges are encoded and the last ones asserted, and the literals are those of the others
pub record IsEncoded (graph : List Node) (inputs base asserted : List Edge) (made : EncodedSide) : Type 0 where
  pub side : Encoding
  pub encoding : IsEncoding graph ((inputs ++ base) ++ asserted) (map (literal_of side.nodes) asserted) side
  pub cnf : made.cnf ≡ record { vars = length side.nodes; clauses = side.clauses }
  pub inputs_are : made.inputs.items ≡ map (literal_of side.nodes) inputs
  pub base_are : made.base.items ≡ map (literal_of side.nodes) base

-- the literals' variables are those of the clauses, and they are few enough to stand beside those of another side
pub record IsReady (side : EncodedSide) : Type 0 where
  pub formed : AreFormed side.cnf
  pub few_vars : side.cnf.vars < 2 ^ 60
  pub few_base : length side.base.items < 2 ^ 60
  pub inputs_within : All (IsVarWithin side.cnf.vars) side.inputs.items
  pub base_within : All (IsVarWithin side.cnf.vars) side.base.items

-- the edges are encoded as well, and these are their literals
pub record Encodes (graph : List Node) (edges : List Edge) (old new : Encoding) (lits : List Lit) : Type 0 where
  pub encoding : (roots : List Edge) (asserted : List Lit) → IsEncoding graph roots asserted old → IsEncoding graph (roots ++ edges) asserted new
  pub more : List ℕ
  pub nodes : new.nodes ≡ old.nodes ++ more
  pub has : (e : Edge) → Contains edges e → Contains new.nodes e.node
  pub literals : lits ≡ map (literal_of new.nodes) edges

-- the literals are asserted as well
pub record Asserts (lits : List Lit) (old new : Encoding) : Type 0 where
  pub nodes : new.nodes ≡ old.nodes
  pub encoding : (graph : List Node) (roots : List Edge) (asserted : List Lit) → IsEncoding graph roots asserted old → IsEncoding graph roots (asserted ++ lits) new
