-- Copies in a part that grew, and what is known of two edges by the answer to a question about theirs.
use Rattle.std.proofs.Common.{◌≡◌, ℕ, List, refl, sym, ◌∙◌}
use Rattle.eco_aig.specs.declared.edge.Edge.{Edge}
use Rattle.eco_aig.specs.declared.node.Node.{Node}
use Rattle.eco_lists.specs.Bits.{exactly_one}
use Rattle.eco_aig.specs.Edges.{value_of}
use Rattle.eco_aig.specs.Graph.{IsGraph, HasValue, Grows}
use Rattle.eco_lists.proofs.Odd.{same_bits}
use Rattle.eco_aig.proofs.Filling.{bit_agree}
use Rattle.eco_aig.proofs.Growing.{edge_stays, node_stays, valuation_of_older}
use Rattle.eco_sweep.specs.declared.question.Answer.{Answer}
use Rattle.eco_sweep.specs.declared.question.Answer.TheVariants.{Never, Sometimes, Spent, Unasked}
use Rattle.eco_sweep.specs.Parts.{Mirrors, IsCopy}
use Rattle.eco_sweep.specs.Questions.{IsNever, AreEqual, IfNever, IfSpent}
use Rattle.eco_sweep.proofs.Copying.{goes_on}

-- a part that grew mirrors what it did before, with the same copies
pub mirrors_behind : (whole : List Node) (nodes : List ℕ) (old new : List Node) (copies : List Edge) (most : ℕ) → IsGraph old → IsGraph new → Grows old new most → Mirrors whole nodes old copies → Mirrors whole nodes new copies
mirrors_behind whole nodes old new copies most graph larger grows mirrors = record {
  within = λ i c at. edge_stays old new most c grows (mirrors.within i c at);
  carried = λ w valuation.
      let u = mirrors.carried w valuation in
      let v = goes_on old new u.0 u.0 graph larger (node_stays old new most grows) u.1.valuation (λ k lt. refl) in
      (v.0, record { valuation = v.1; same = λ i k c at_node at_copy. bit_agree v.0 u.0 c (v.2 c.node (mirrors.within i c at_copy)) ∙ u.1.same i k c at_node at_copy });
}

pub copy_behind : (nodes : List ℕ) (old new : List Node) (copies : List Edge) (most : ℕ) (e c : Edge) → Grows old new most → IsCopy nodes old copies e c → IsCopy nodes new copies e c
copy_behind nodes old new copies most e c grows copy = record {
  within = edge_stays old new most c grows copy.within;
  same = λ w u carries. copy.same w u (record { valuation = valuation_of_older old new most u grows carries.valuation; same = carries.same });
}

-- edges whose copies never differ are equal
pub equal_by_copies : (whole : List Node) (nodes : List ℕ) (part : List Node) (copies : List Edge) (a b x y d : Edge) → Mirrors whole nodes part copies → IsCopy nodes part copies a x → IsCopy nodes part copies b y → HasValue part d (λ w. exactly_one (value_of w x) (value_of w y)) → IsNever part d → AreEqual whole a b
equal_by_copies whole nodes part copies a b x y d mirrors first second has never w valuation =
    let u = mirrors.carried w valuation in
    let same : value_of u.0 x ≡ value_of u.0 y = same_bits (value_of u.0 x) (value_of u.0 y) (sym (has.value u.0 u.1.valuation) ∙ never u.0 u.1.valuation) in
    sym (first.same w u.0 u.1) ∙ same ∙ second.same w u.0 u.1

-- what follows where something is never so
pub if_never : (answer : Answer) {P Q : Type 0} → (P → Q) → IfNever answer P → IfNever answer Q
if_never Never f h = f h
if_never (Sometimes bits) f h = h
if_never Spent f h = h
if_never Unasked f h = h

-- what follows where a search gave up
pub if_spent : (answer : Answer) {P Q : Type 0} → (P → Q) → IfSpent answer P → IfSpent answer Q
if_spent Never f h = h
if_spent (Sometimes bits) f h = h
if_spent Spent f h = f h
if_spent Unasked f h = h
