-- Bits of open nets that are fixed, by the edges of the nets.
use Rattle.std.proofs.Common.{◌≡◌, ◌⊎◌, inl, inr, ℕ, zero, suc, ◌≤◌, take, Bool, true, false, not, List, [], ◌∷◌, ◌++◌, Some, slice_get, length, map, refl, sym, ◌∙◌, ap, arith}
use Rattle.std.specs.List.{All}
use Rattle.std.proofs.lemmas.List.{length-map}
use Rattle.std.proofs.lemmas.List.Elements.{All-nil, All-cons, All-head, All-tail, All-append}
use Rattle.std.proofs.lemmas.Bool.{cases_Bool, not-true}
use Rattle.eco_meaning.specs.Circuit.{Circuit}
use Rattle.eco_meaning.specs.Meaning.{Goal}
use Rattle.eco_lists.proofs.Members.{All-front, All-back}
use Rattle.eco_aig.specs.declared.edge.Edge.{Edge}
use Rattle.eco_aig.specs.declared.node.Node.{Node}
use Rattle.eco_aig.specs.declared.node.Node.TheVariants.{Zero}
use Rattle.eco_aig.specs.Edges.{complement, value_of, bits_of}
use Rattle.eco_aig.specs.Graph.{IsEdge, IsValuation}
use Rattle.eco_compile.specs.Compiled.{AreEdges}
use Rattle.eco_aig.proofs.Conjunctions.{value_of-complement}
use Rattle.eco_trace.specs.declared.clause.Lit.{Lit}
use Rattle.eco_laws.specs.Asked.{IsFixed}
use Rattle.eco_aig.specs.Inputs.{AreInputs}
use Rattle.eco_compile.specs.Wrong.{IsWrongEdge}
use Rattle.eco_pose.specs.Boards.{constant_edge, signed, with_sign}
use Rattle.eco_pose.specs.Answers.{AsksFor}
use Rattle.eco_pose.proofs.RowLaws.{constant_bits}
use Rattle.eco_pose.proofs.MissLaws.{AreModelsOf, AreAnswersOf}

-- a complement is 1 just where the edge is 0
complement_off : (w : ℕ → Bool) (e : Edge) → value_of w (complement e) ≡ true → value_of w e ≡ false
complement_off w e one = not-true (value_of w e) (sym (value_of-complement w e) ∙ one)

complement_on : (w : ℕ → Bool) (e : Edge) → value_of w e ≡ false → value_of w (complement e) ≡ true
complement_on w e none = value_of-complement w e ∙ ap not none

-- an edge with the sign of a bit is 1 just where the edge has the bit
sign_tells : (w : ℕ → Bool) (e : Edge) (bit : Bool) → value_of w (with_sign e bit) ≡ true → value_of w e ≡ bit
sign_tells w e true one = one
sign_tells w e false one = complement_off w e one

sign_holds : (w : ℕ → Bool) (e : Edge) (bit : Bool) → value_of w e ≡ bit → value_of w (with_sign e bit) ≡ true
sign_holds w e true same = same
sign_holds w e false same = complement_on w e same

-- no edge yet
pub signed_none : (edges : List Edge) (bits : List Bool) → signed edges (take 0 bits) ≡ []
signed_none [] bits = refl
signed_none (e ∷ edges) bits = refl

-- one edge more
pub signed_more : (edges : List Edge) (bits : List Bool) (k : ℕ) (e : Edge) (bit : Bool) → slice_get edges k ≡ Some e → slice_get bits k ≡ Some bit →
    signed edges (take (suc k) bits) ≡ signed edges (take k bits) ++ with_sign e bit ∷ []
signed_more [] bits k e bit at_edge at_bit = absurd cc
signed_more (first ∷ edges) [] k e bit at_edge at_bit = absurd cc
signed_more (first ∷ edges) (b ∷ bits) zero e bit at_edge at_bit =
    let same : first ≡ e = cc at_edge in
    let same_bit : b ≡ bit = cc at_bit in
    cc (same, same_bit, signed_none edges bits)
signed_more (first ∷ edges) (b ∷ bits) (suc k) e bit at_edge at_bit = ap (λ list. with_sign first b ∷ list) (signed_more edges bits k e bit at_edge at_bit)

-- where the signed edges are 1, the edges' bits begin with the fixed ones
pub begins_fixed : (w : ℕ → Bool) (edges : List Edge) (fixed : List Bool) → length fixed ≤ length edges → All (λ e. value_of w e ≡ true) (signed edges fixed) →
    (rest : List Bool) × (bits_of w edges ≡ fixed ++ rest)
begins_fixed w edges [] few held = (bits_of w edges, refl)
begins_fixed w [] (bit ∷ fixed) few held = absurd (omega arith)
begins_fixed w (e ∷ edges) (bit ∷ fixed) few held =
    let (rest, same) = begins_fixed w edges fixed (omega arith) (All-tail (λ e. value_of w e ≡ true) (with_sign e bit) (signed edges fixed) held) in
    (rest, cc (sign_tells w e bit (All-head (λ e. value_of w e ≡ true) (with_sign e bit) (signed edges fixed) held), same))

-- and the other way round
pub fixed_hold : (w : ℕ → Bool) (edges : List Edge) (fixed rest : List Bool) → bits_of w edges ≡ fixed ++ rest → All (λ e. value_of w e ≡ true) (signed edges fixed)
fixed_hold w [] [] rest same = All-nil (λ e. value_of w e ≡ true)
fixed_hold w (e ∷ edges) [] rest same = All-nil (λ e. value_of w e ≡ true)
fixed_hold w [] (bit ∷ fixed) rest same = absurd cc
fixed_hold w (e ∷ edges) (bit ∷ fixed) rest same =
    let first : value_of w e ≡ bit = cc same in
    let others : bits_of w edges ≡ fixed ++ rest = cc same in
    All-cons (λ e. value_of w e ≡ true) (with_sign e bit) (signed edges fixed) (sign_holds w e bit first) (fixed_hold w edges fixed rest others)

-- signed edges are edges
pub signed_edges : (nodes : List Node) (edges : List Edge) (fixed : List Bool) → AreEdges nodes edges → AreEdges nodes (signed edges fixed)
signed_edges nodes [] [] are = All-nil (IsEdge nodes)
signed_edges nodes [] (bit ∷ fixed) are = All-nil (IsEdge nodes)
signed_edges nodes (e ∷ edges) [] are = All-nil (IsEdge nodes)
signed_edges nodes (e ∷ edges) (bit ∷ fixed) are =
    All-cons (IsEdge nodes) (with_sign e bit) (signed edges fixed) (either bit (All-head (IsEdge nodes) e edges are)) (signed_edges nodes edges fixed (All-tail (IsEdge nodes) e edges are))
  where
    either : (bit : Bool) → IsEdge nodes e → IsEdge nodes (with_sign e bit)
    either true within = within
    either false within = within

-- The clauses of a graph of the open nets, in which the fixed bits are asserted and that the netlist is right at the input, ask
-- for such bits.
pub asks_fixed : (n : Circuit) (goal : Goal) (nets : List (List ℕ)) (nodes : List Node) (opens : List Edge) (input fixed : List Bool) (wrong : Edge) (lits : List Lit) (clauses : List (List Lit)) →
    slice_get nodes 0 ≡ Some Zero → length opens ≡ length nets → length fixed ≤ length nets → AreInputs nodes opens → IsWrongEdge n goal nets nodes (map constant_edge input) opens wrong →
    AreModelsOf nodes opens (signed opens fixed ++ complement wrong ∷ []) lits clauses → AreAnswersOf nodes opens (signed opens fixed ++ complement wrong ∷ []) lits clauses →
    AsksFor (IsFixed n goal nets fixed input) lits clauses
asks_fixed n goal nets nodes opens input fixed wrong lits clauses first count few are_inputs tells models answers = record {
  models = λ v holds.
      let (w, made, reads) = models v holds in
      let signs = All-front (λ e. value_of w e ≡ true) (signed opens fixed) (complement wrong ∷ []) made.held in
      let last = All-head (λ e. value_of w e ≡ true) (complement wrong) [] (All-back (λ e. value_of w e ≡ true) (signed opens fixed) (complement wrong ∷ []) made.held) in
      let (rest, begins) = begins_fixed w opens fixed (omega (arith, few, count)) signs in
      let (values, has, right) = tells.right w made.valuation (complement_off w wrong last) in
      record {
        rest = rest;
        begins = reads ∙ begins;
        values = values;
        right = right;
        input = has.input ∙ constant_bits nodes w input first made.valuation;
        row = has.row ∙ sym reads;
      };
  answers = λ x answer.
      let len : length x ≡ length opens = sym (ap length answer.row) ∙ length-map nets answer.values ∙ sym count in
      let (w, valuation, at) = are_inputs.free x len in
      let (v, holds, reads) = answers w (record { valuation = valuation; held = held x answer w valuation at }) in
      (v, holds, reads ∙ at);
}
  where
    off : (x : List Bool) (answer : IsFixed n goal nets fixed input x) (w : ℕ → Bool) → IsValuation nodes w → bits_of w opens ≡ x → (value_of w wrong ≡ true) ⊎ (value_of w wrong ≡ false) → value_of w wrong ≡ false
    off x answer w valuation at (inl one) =
        absurd (tells.wrong w valuation one answer.values (record {
          input = answer.input ∙ sym (constant_bits nodes w input first valuation);
          row = answer.row ∙ sym at;
        }) answer.right)
    off x answer w valuation at (inr none) = none

    held : (x : List Bool) (answer : IsFixed n goal nets fixed input x) (w : ℕ → Bool) → IsValuation nodes w → bits_of w opens ≡ x → All (λ e. value_of w e ≡ true) (signed opens fixed ++ complement wrong ∷ [])
    held x answer w valuation at =
        All-append (λ e. value_of w e ≡ true) (signed opens fixed) (complement wrong ∷ [])
        (fixed_hold w opens fixed answer.rest (at ∙ answer.begins))
        (All-cons (λ e. value_of w e ≡ true) (complement wrong) [] (complement_on w wrong (off x answer w valuation at (cases_Bool (value_of w wrong)))) (All-nil (λ e. value_of w e ≡ true)))
