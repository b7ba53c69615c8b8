-- Parities of lists of nodes.
use Rattle.std.proofs.Common.{◌≡◌, ℕ, zero, suc, ◌+◌, ◌<◌, Bool, true, false, not, ◌&&◌, Some, List, [], ◌∷◌, ◌++◌, length, get_or, take, drop, refl, sym, ◌∙◌, ap, arith}
use Rattle.std.specs.List.{slice_get}
use Rattle.std.specs.Ordering.{nat_cmp}
use Rattle.std.specs.declared.cmp.Ordering.TheVariants.{Equal}
use Rattle.std.proofs.lemmas.Cmp.{ranked}
use Rattle.std.proofs.lemmas.Option.{none-some, same_Some, slice_get-get_or}
use Rattle.eco_lists.proofs.Places.{take_at_more}
use Rattle.eco_aig.specs.declared.edge.Edge.{Edge}
use Rattle.eco_aig.specs.declared.node.Node.{Node}
use Rattle.eco_aig.specs.declared.node.Node.TheVariants.{And}
use Rattle.eco_lists.specs.Bits.{exactly_one}
use Rattle.eco_aig.specs.Edges.{complement, value_of}
use Rattle.eco_aig.specs.Graph.{IsValuation, IsGraph, pair_at}
use Rattle.eco_aig.proofs.Conjunctions.{operands_within, pair_at_node, value_of-complement, value_is}
use Rattle.eco_lists.proofs.Odd.{one_assoc}
use Rattle.eco_affine.specs.Forms.{parity, IsParityOf}
use Rattle.eco_aig.specs.Exclusive.{IsExclusive}
use Rattle.eco_aig.proofs.Exclusives.{exclusive_bit, exclusive_within}
use Rattle.eco_affine.specs.Patterns.{IsNeither, IsNand}

-- exclusive disjunction: two of three trade places, a bit meets itself
pub trade : (a b c : Bool) → exactly_one a (exactly_one b c) ≡ exactly_one b (exactly_one a c)
trade true true c = refl
trade true false c = refl
trade false true c = refl
trade false false c = refl

pub meets : (a b : Bool) → exactly_one a (exactly_one a b) ≡ b
meets true true = refl
meets true false = refl
meets false b = refl

-- an atom that is put in, or taken out
pub parity_insert : (w : ℕ → Bool) (atoms : List ℕ) (i a : ℕ) → parity w (take i atoms ++ a ∷ drop i atoms) ≡ exactly_one (w a) (parity w atoms)
parity_insert w atoms zero a = refl
parity_insert w [] (suc i) a = refl
parity_insert w (x ∷ atoms) (suc i) a =
    ap (exactly_one (w x)) (parity_insert w atoms i a) ∙ trade (w x) (w a) (parity w atoms)

parity_take_out : (w : ℕ → Bool) (atoms : List ℕ) (i a : ℕ) → slice_get atoms i ≡ Some a → parity w (take i atoms ++ drop (suc i) atoms) ≡ exactly_one (w a) (parity w atoms)
parity_take_out w [] i a at = absurd (none-some a at)
parity_take_out w (x ∷ atoms) zero a at =
    sym (ap (λ y. exactly_one (w a) (exactly_one (w y) (parity w atoms))) (same_Some x a at) ∙ meets (w a) (parity w atoms))
parity_take_out w (x ∷ atoms) (suc i) a at =
    ap (exactly_one (w x)) (parity_take_out w atoms i a at) ∙ trade (w x) (w a) (parity w atoms)

pub parity_remove : (w : ℕ → Bool) (atoms searched : List ℕ) (i a : ℕ) → searched ≡ atoms → i < length searched → nat_cmp (get_or searched i 0) a ≡ Equal → parity w (take i atoms ++ drop (suc i) atoms) ≡ exactly_one (w a) (parity w atoms)
parity_remove w atoms searched i a is within same =
    parity_take_out w atoms i a (ap (λ list. slice_get list i) (sym is) ∙ slice_get-get_or searched i 0 within ∙ ap Some (ranked (get_or searched i 0) a Equal (sym same)))

-- one more atom behind
pub parity_push : (w : ℕ → Bool) (atoms : List ℕ) (a : ℕ) → parity w (atoms ++ a ∷ []) ≡ exactly_one (w a) (parity w atoms)
parity_push w [] a = refl
parity_push w (x ∷ atoms) a = ap (exactly_one (w x)) (parity_push w atoms a) ∙ trade (w x) (w a) (parity w atoms)

-- one more of the others
pub parity_more : (w : ℕ → Bool) (others old now : List ℕ) (i : ℕ) (start : Bool) → i < length others → parity w now ≡ exactly_one (w (get_or others i 0)) (parity w old) → parity w old ≡ exactly_one (parity w (take i others)) start → parity w now ≡ exactly_one (parity w (take (i + 1) others)) start
parity_more w others old now i start within more was =
    let x = get_or others i 0 in
    let count : suc i ≡ i + 1 = omega arith in
    more ∙ ap (exactly_one (w x)) was ∙ one_assoc (w x) (parity w (take i others)) start
    ∙ ap (λ b. exactly_one b start) (sym (parity_push w (take i others) x) ∙ ap (parity w) (sym (take_at_more others i x (slice_get-get_or others i 0 within)) ∙ ap (λ n. take n others) count))

-- the bit of an edge to the complement of an and-node
pub bit_of_neither : (nodes : List Node) (w : ℕ → Bool) (p a b : Edge) → IsValuation nodes w → p.complemented ≡ true → pair_at nodes p.node ≡ Some (a, b) → value_of w p ≡ not (value_of w a && value_of w b)
bit_of_neither nodes w p a b valuation sign pair =
    value_is w p true (value_of w a && value_of w b) sign (valuation.fits p.node (And a b) (pair_at_node nodes p.node a b pair))

-- the conjunction of the complements of two conjunctions
pub neither_of : (nodes : List Node) (k : ℕ) (p q a b c d : Edge) → IsGraph nodes → pair_at nodes k ≡ Some (p, q) → p.complemented ≡ true → q.complemented ≡ true → pair_at nodes p.node ≡ Some (a, b) → pair_at nodes q.node ≡ Some (c, d) → IsNeither nodes k a b c d
neither_of nodes k p q a b c d graph pair p_not q_not p_pair q_pair = record {
  a_within = (operands_within nodes p.node a b graph p_pair).0;
  b_within = (operands_within nodes p.node a b graph p_pair).1;
  c_within = (operands_within nodes q.node c d graph q_pair).0;
  value = λ w valuation.
      valuation.fits k (And p q) (pair_at_node nodes k p q pair)
      ∙ ap (λ x. x && value_of w q) (bit_of_neither nodes w p a b valuation p_not p_pair)
      ∙ ap (λ x. not (value_of w a && value_of w b) && x) (bit_of_neither nodes w q c d valuation q_not q_pair);
}

-- what is made as `Aig::xor` makes it has the parity of its edges
pub exclusive_parity : (nodes : List Node) (k : ℕ) (a b : Edge) → IsGraph nodes → IsExclusive nodes k a b → IsParityOf nodes k a b
exclusive_parity nodes k a b graph made = record {
  first = (exclusive_within nodes k a b graph made).0;
  second = (exclusive_within nodes k a b graph made).1;
  value = exclusive_bit nodes k a b made;
}

neither_nand : (x y : Bool) → (not (x && not (x && y)) && not (y && not (x && y))) ≡ exactly_one (not x) y
neither_nand true true = refl
neither_nand true false = refl
neither_nand false true = refl
neither_nand false false = refl

-- it is neither a without c, nor c without a
pub parity_by_nand : (nodes : List Node) (k : ℕ) (a b c d : Edge) → IsNeither nodes k a b c d → b ≡ d → IsNand nodes b a c → IsParityOf nodes k (complement a) c
parity_by_nand nodes k a b c d neither same nand = record {
  first = neither.a_within;
  second = neither.c_within;
  value = λ w valuation.
      let bit = nand.value w valuation in
      neither.value w valuation
      ∙ ap (λ x. not (value_of w a && value_of w b) && not (value_of w c && x)) (sym (ap (value_of w) same))
      ∙ ap (λ x. not (value_of w a && x) && not (value_of w c && x)) bit
      ∙ neither_nand (value_of w a) (value_of w c)
      ∙ ap (λ x. exactly_one x (value_of w c)) (sym (value_of-complement w a));
}

-- the complement of an and-node
pub nand_of : (nodes : List Node) (e p q a b : Edge) → e.complemented ≡ true → pair_at nodes e.node ≡ Some (p, q) → ((w : ℕ → Bool) → (value_of w p && value_of w q) ≡ (value_of w a && value_of w b)) → IsNand nodes e a b
nand_of nodes e p q a b sign pair same =
    record { value = λ w valuation. bit_of_neither nodes w e p q valuation sign pair ∙ ap not (same w) }
