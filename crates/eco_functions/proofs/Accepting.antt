-- What both judges accept stands between the two parts, and so does what stands for it in another graph.
use Rattle.std.proofs.Common.{◌≡◌, ℕ, Bool, true, false, List, length, map, sym, ◌∙◌, ap}
use Rattle.std.proofs.lemmas.List.{length-map}
use Rattle.eco_trace.specs.declared.clause.Var.{Var}
use Rattle.eco_trace.specs.Clauses.{Valuation}
use Rattle.eco_trace.specs.Split.{Split, IsModelOf}
use Rattle.eco_tseitin.specs.Reading.{read_vars}
use Rattle.eco_aig.specs.declared.edge.Edge.{Edge}
use Rattle.eco_aig.specs.declared.node.Node.{Node}
use Rattle.eco_aig.specs.Edges.{value_of}
use Rattle.eco_aig.specs.Graph.{IsGraph, IsValuation, inputs_of}
use Rattle.eco_accept.specs.Judging.{JudgeValue, IsOfPart, HasMark}
use Rattle.eco_functions.specs.declared.improving.Judges.{Judges}
use Rattle.eco_functions.specs.Functions.{IsInterpolant}
use Rattle.eco_functions.specs.Grafts.{IsGraft}
use Rattle.eco_functions.specs.Improving.{HasMarks, IsAccepted}
use Rattle.eco_functions.proofs.InputBits.{valuation_at}

-- a judge of a part of the clauses speaks of the models of that part
mark_in_part : (split : Split) (part : Bool) (shared : List Var) (judge : JudgeValue) (nodes : List Node) (root : Edge) → IsOfPart split part shared judge → HasMark judge nodes root → (u : ℕ → Bool) (v : Valuation) → IsValuation nodes u → IsModelOf split part v → read_vars v shared ≡ map u (inputs_of nodes) → value_of u root ≡ part
mark_in_part split part shared judge nodes root is mark u v valuation model reads =
    mark u v valuation ((is.models v).1 model) (ap (read_vars v) is.same_shared ∙ reads) ∙ is.same_part

-- what has both marks is accepted
pub both_accept : (split : Split) (judges : Judges) (nodes : List Node) (root : Edge) → IsOfPart split true judges.shared.now judges.above → IsOfPart split false judges.shared.now judges.below → HasMarks judges nodes root → IsAccepted split judges.shared.now nodes root
both_accept split judges nodes root of_a of_b marks = record {
  edge = marks.edge;
  inputs = marks.inputs;
  between = λ part u v valuation model reads.
      elim part as (λ b. IsModelOf split b v → value_of u root ≡ b) [
        | true ↦ λ held. mark_in_part split true judges.shared.now judges.above nodes root of_a marks.marked_above u v valuation held reads
        | false ↦ λ held. mark_in_part split false judges.shared.now judges.below nodes root of_b marks.marked_below u v valuation held reads
      ] model;
}

-- an edge that stands for an accepted function stands between the parts
pub graft_stands : (split : Split) (shared : List Var) (nodes from : List Node) (root e : Edge) → IsGraph from → length (inputs_of from) ≡ length (inputs_of nodes) → IsGraft nodes from root e → IsInterpolant split shared from root → IsInterpolant split shared nodes e
graft_stands split shared nodes from root e graph same is stands = λ part u v valuation model reads.
    let bits = map u (inputs_of nodes) in
    let found = valuation_at from bits graph (length-map (inputs_of nodes) u ∙ sym same) in
    let has = found.2 in
    is.value u found.0 valuation found.1 (sym has) ∙ stands part found.0 v found.1 model (reads ∙ sym has)
