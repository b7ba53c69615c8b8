-- What a draft's parts need of lines that make a patch.
use Rattle.std.proofs.Common.{◌≡◌, ℕ, ◌+◌, ◌<◌, ◌≤◌, inl, inr, List, Option, None, Some, IfSome, length, refl, sym, ◌∙◌, ap, subst, arith}
use Rattle.std.specs.List.{All, slice_get}
use Rattle.std.proofs.lemmas.Option.{slice_get_within}
use Rattle.std.proofs.lemmas.List.Elements.{All-contains}
use Rattle.eco_lists.proofs.Places.{All_from_places, Contains_at}
use Rattle.eco_aig.specs.declared.edge.Edge.{Edge}
use Rattle.eco_aig.specs.declared.node.Node.{Node}
use Rattle.eco_aig.specs.Graph.{inputs_of}
use Rattle.eco_splice.specs.declared.line.Line.{Line}
use Rattle.eco_splice.specs.LineGates.{edges_in, nets_in, StandsBefore, DriveTargets, AreReady}
use Rattle.eco_splice.proofs.LineShape.{length-edges, length-nets}

-- the lines drive targets of so many
target_within : (roots : List Edge) (lines : List Line) (n k : ℕ) (line : Line) (t : Option ℕ) → n ≡ length roots → DriveTargets roots lines → slice_get lines k ≡ Some line → line.target ≡ t → IfSome t (λ i. i < n)
target_within roots lines n k line None count drive at is = tt
target_within roots lines n k line (Some i) count drive at is =
    let within = slice_get_within roots i line.edge (drive.own k line i at is) in
    omega (arith, count, within)

pub targets_within : (roots : List Edge) (lines : List Line) (n : ℕ) → n ≡ length roots → DriveTargets roots lines → All (λ (line : Line). IfSome line.target (λ i. i < n)) lines
targets_within roots lines n count drive =
    All_from_places (λ (line : Line). IfSome line.target (λ i. i < n)) lines (λ k line at. target_within roots lines n k line line.target count drive at refl)

-- there is a net for each edge
pub nets_enough : (prefix : List ℕ) (targets base : List (List ℕ)) (nodes : List Node) (lines : List Line) (nets : List (List ℕ)) (edges : List Edge) → nets ≡ nets_in prefix targets base lines → edges ≡ edges_in nodes lines → length (inputs_of nodes) ≡ length base → length nets ≡ length edges
nets_enough prefix targets base nodes lines nets edges same_nets same_edges inputs =
    let left = ap length same_nets ∙ length-nets prefix targets base lines in
    let right = ap length same_edges ∙ length-edges nodes lines in
    omega (arith, left, right, inputs)

-- each operand has a net
before_end : (edges : List Edge) (place : ℕ) (e : Edge) → place ≤ length edges → StandsBefore edges place e → StandsBefore edges (length edges) e
before_end edges place e most (inl none) = inl none
before_end edges place e most (inr low) = inr (omega (arith, low, most))

pub operands_stand : (nodes : List Node) (roots : List Edge) (lines : List Line) (edges : List Edge) → edges ≡ edges_in nodes lines → AreReady nodes roots lines → All (λ (line : Line). All (StandsBefore edges (length edges)) line.operands.items) lines
operands_stand nodes roots lines edges same ready =
    subst (λ (l : List Edge). All (λ (line : Line). All (StandsBefore l (length l)) line.operands.items) lines) (sym same)
    (All_from_places (λ (line : Line). All (StandsBefore (edges_in nodes lines) (length (edges_in nodes lines))) line.operands.items) lines (λ k line at.
    let all = ready.earlier k line at in
    let within = slice_get_within lines k line at in
    let count = length-edges nodes lines in
    All_from_places (StandsBefore (edges_in nodes lines) (length (edges_in nodes lines))) line.operands.items (λ j e at_e.
    before_end (edges_in nodes lines) (length (inputs_of nodes) + k) e (omega (arith, within, count))
    (All-contains (StandsBefore (edges_in nodes lines) (length (inputs_of nodes) + k)) line.operands.items e all (Contains_at line.operands.items j e at_e)))))
